-- What the steps of a walk come to.
use Rattle.lucid_cert_rules.proofs.NeedCommon.{◌≡◌, ℕ, true, List, ◌++◌, Some, None, inl, inr, subst, ◌∙◌}
use Rattle.lucid_equations.specs.declared.table.Table.{Table}
use Rattle.lucid_cert_rules.specs.Certificates.{PlainJudgment}
use Rattle.lucid_cert_rules.specs.declared.cell.Cell.{Cell}
use Rattle.lucid_cert_rules.specs.declared.walk.Walk.{Walk}
use Rattle.lucid_cert_rules.specs.Cells.{asked_at}
use Rattle.lucid_cert_rules.specs.Needs.{Finds, asked, asked_before, looked_into, seen_before, is_one_of, uses_at}
use Rattle.lucid_cert_rules.specs.Walks.{FindsCell, Visits, Steps}

-- a walk that stands alike comes to the same
pub stands_alike : {T : Table} {js : List PlainJudgment} {w x s t f g all : List ℕ} {cs ds : List Cell} → w ≡ x → s ≡ t → cs ≡ ds → f ≡ g
    → Finds T js w s cs f all → Finds T js x t ds g all
stands_alike {T} {js} {w} {x} {s} {t} {f} {g} {all} {cs} {ds} p q r e h =
    subst (λ (y : List ℕ). Finds T js x t ds y all) e
    (subst (λ (y : List Cell). Finds T js x t y f all) r (subst (λ (y : List ℕ). Finds T js x y cs f all) q (subst (λ (y : List ℕ). Finds T js y s cs f all) p h)))

module _ (T : Table) (js : List PlainJudgment) (old new : Walk) (i : ℕ) where
  -- a judgment that asks is visited
  pub visits_asking : (c : Cell) → asked_at T js i ≡ Some c → FindsCell old new c i → Visits T js old new i
  visits_asking c asks found before all seen unseen comes =
      elim found.choice [
        | inl h ↦ asked unseen c asks h.0 (stands_alike found.waiting (found.seen ∙ seen) h.1 h.2 comes)
        | inr h ↦ asked_before unseen c asks h.0 (stands_alike found.waiting (found.seen ∙ seen) h.1 h.2 comes)
      ]

  -- the uses of one that asks for nothing wait
  pub visits_looking : asked_at T js i ≡ None → new.waiting ≡ uses_at js i ++ old.waiting → new.seen.keys ≡ old.seen.keys → new.cells.keys ≡ old.cells.keys
      → new.found.items ≡ old.found.items → Visits T js old new i
  visits_looking asks waiting same cells found before all seen unseen comes =
      looked_into unseen asks (stands_alike waiting (same ∙ seen) cells found comes)

  -- one that was seen is passed over
  pub steps_over : is_one_of old.seen.keys i ≡ true → new.waiting ≡ old.waiting → new.seen.keys ≡ old.seen.keys → new.cells.keys ≡ old.cells.keys
      → new.found.items ≡ old.found.items → Steps T js old new i
  steps_over was waiting same cells found all comes = seen_before was (stands_alike waiting same cells found comes)
