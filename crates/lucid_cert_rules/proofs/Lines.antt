-- What the lines of an outline that wait come to.
use Rattle.lucid_cert_rules.proofs.NeedCommon.{◌≡◌, ℕ, ◌+◌, true, false, List, [], ◌∷◌, ◌++◌, Some, None, map, ap, subst, sym, ◌∙◌, append-nil, append_assoc}
use Rattle.lucid_equations.specs.declared.table.Table.{Table}
use Rattle.lucid_cert_rules.specs.Certificates.{PlainJudgment}
use Rattle.lucid_cert_rules.specs.declared.cell.Cell.{Cell}
use Rattle.lucid_cert_rules.specs.declared.telling.Entry.{Entry}
use Rattle.lucid_cert_rules.specs.declared.telling.Telling.{Telling}
use Rattle.lucid_cert_rules.specs.declared.telling.Waiting.{Waiting}
use Rattle.lucid_cert_rules.specs.Cells.{asked_at, is_among}
use Rattle.lucid_cert_rules.specs.Outlines.{Line, Tells, above, entry, lines_at, no_cell, no_more, whole}
use Rattle.lucid_cert_rules.specs.Walks.{AddsLine, TellsNext, TellsOn, WaitsForNeeds, plain_line}

-- lines that wait alike, where alike was told, come to the same
tells_alike : {T : Table} {js : List PlainJudgment} {w x : List Line} {t u : List Cell} {es : List Entry} → w ≡ x → t ≡ u → Tells T js w t es → Tells T js x u es
tells_alike {T} {js} {w} {x} {t} {u} {es} p q h = subst (λ (y : List Cell). Tells T js x y es) q (subst (λ (y : List Line). Tells T js y t es) p h)

-- one line more stands behind those so far
behind : (all old new es : List Entry) (e : Entry) → new ≡ old ++ e ∷ [] → all ≡ new ++ es → all ≡ old ++ e ∷ es
behind all old new es e added is = is ∙ ap (λ (l : List Entry). l ++ es) added ∙ append_assoc old (e ∷ []) es

module _ (T : Table) (js : List PlainJudgment) (old : Telling) (n : Waiting) (all : List Entry) where
  -- what asks for nothing isn't told
  pub tells_nothing : asked_at T js n.asked ≡ None → TellsOn T js old all → TellsNext T js old n all
  tells_nothing none on = (on.0, no_cell none on.1, on.2)

  module _ (c : Cell) (asks : asked_at T js n.asked ≡ Some c) where
    -- what was told is told to stand above
    pub tells_above : (mid new : Telling) → is_among old.told.keys c ≡ true → mid.waiting ≡ old.waiting → mid.told.keys ≡ old.told.keys
        → mid.entries.items ≡ old.entries.items → AddsLine mid new n true → TellsOn T js new all → TellsNext T js old n all
    tells_above mid new was waiting told entries adds on = (
      entry (plain_line n) true ∷ on.0,
      above c asks was (tells_alike (ap (map plain_line) (adds.waiting ∙ waiting)) (adds.told ∙ told) on.1),
      behind all old.entries.items new.entries.items on.0 (entry (plain_line n) true)
          (adds.entries ∙ ap (λ (l : List Entry). l ++ entry (plain_line n) true ∷ []) entries) on.2,
    )

    -- what wasn't is told whole, and what it was computed from under it
    pub tells_whole : (mid next new : Telling) (deeper : ℕ) → deeper ≡ n.depth + 1 → is_among old.told.keys c ≡ false → mid.waiting ≡ old.waiting
        → mid.told.keys ≡ old.told.keys ++ c ∷ [] → mid.entries.items ≡ old.entries.items → AddsLine mid next n false
        → WaitsForNeeds T js next new c deeper → TellsOn T js new all → TellsNext T js old n all
    tells_whole mid next new deeper one absent waiting told entries adds needs on = (
      entry (plain_line n) false ∷ on.0,
      whole c asks absent needs.0 needs.1
          (tells_alike
          (needs.2.waiting ∙ ap (λ (d : ℕ). lines_at d needs.0 ++ map plain_line next.waiting) one
          ∙ ap (λ (w : List Line). lines_at (n.depth + 1) needs.0 ++ w) (ap (map plain_line) (adds.waiting ∙ waiting)))
          (needs.2.told ∙ adds.told ∙ told) on.1),
      behind all old.entries.items next.entries.items on.0 (entry (plain_line n) false)
          (adds.entries ∙ ap (λ (l : List Entry). l ++ entry (plain_line n) false ∷ []) entries)
          (on.2 ∙ ap (λ (l : List Entry). l ++ on.0) needs.2.entries),
    )

-- the line that waits next is the first of those that wait
pub next_waits : (T : Table) (js : List PlainJudgment) (old : Telling) (n : Waiting) (rest : List Waiting) (all : List Entry) → old.waiting ≡ n ∷ rest
    → (es : List Entry) × Tells T js (plain_line n ∷ map plain_line rest) old.told.keys es × (all ≡ old.entries.items ++ es) → TellsOn T js old all
next_waits T js old n rest all is on = (on.0, tells_alike (sym (ap (map plain_line) is)) (λ i. old.told.keys) on.1, on.2)

-- where none waits, all is told
pub none_waits : (T : Table) (js : List PlainJudgment) (t : Telling) → t.waiting ≡ [] → TellsOn T js t t.entries.items
none_waits T js t none = ([], tells_alike (sym (ap (map plain_line) none)) (λ i. t.told.keys) no_more, sym (append-nil t.entries.items))
