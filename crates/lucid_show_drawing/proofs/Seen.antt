-- What is seen past tests is what was used.
use Rattle.lucid_show_drawing.proofs.Common.{◌≡◌, ℕ, zero, suc, ◌-◌, Bool, true, false, List, [], ◌∷◌, ◌++◌, take, length, Option, Some, None, inl, inr, refl, sym, ap, subst, ◌∙◌, arith, slice_get, take_all, take-append-drop}
use Rattle.std.proofs.lemmas.Option.{none-some}
use Rattle.lucid_tree.specs.Members.{In}
use Rattle.lucid_tree.proofs.Members.{in_either, in_left, in_right}
use Rattle.lucid_equations.specs.Rows.{row_at}
use Rattle.lucid_equations.specs.declared.rows.Node.{Node}
use Rattle.lucid_equations.specs.declared.rows.Node.TheVariants.{Whenever, Asa, Upon}
use Rattle.lucid_cert_rules.specs.Cells.{asked_at}
use Rattle.lucid_cert_rules.specs.Certificates.{PlainJudgment}
use Rattle.lucid_cert_rules.specs.NeedLaws.{Leads, itself, through}
use Rattle.lucid_cert_rules.specs.Needs.{uses_at, uses_of}
use Rattle.lucid_cert_rules.specs.declared.cell.Cell.{Cell}
use Rattle.lucid_show_outline.specs.Equations.{does, is_found, tests_of}
use Rattle.lucid_show_outline.specs.Searches.{tests, tests_by, tests_for}
use Rattle.lucid_show_outline.specs.Views.{View, used}
use Rattle.lucid_show_drawing.specs.Laws.{IsUsedBy, LooksAreUses, LooksAt, Sees, at_once, past, tested, itself as looks_itself, through as looks_through}
use Rattle.lucid_show_drawing.specs.Looked.{others}

-- tests are the first uses
taken : (n : ℕ) (us : List ℕ) → take (length (take n us)) us ≡ take n us
taken zero us = refl
taken (suc n) [] = refl
taken (suc n) (u ∷ us) = ap (λ (z : List ℕ). u ∷ z) (taken n us)

first_of : (found : Bool) (us : List ℕ) → take (length (tests_of found us)) us ≡ tests_of found us
unfolding tests_of
first_of true us = taken (length us - 1) us
first_of false us = take_all (length us) us (omega arith)

first_for : (v : View) (j : PlainJudgment) (o : Option Node) → take (length (tests_for v j o)) j.uses ≡ tests_for v j o
unfolding tests_for tests_by does
first_for v j (Some (Whenever a p)) = first_of (is_found p (used v j.uses (length j.uses - 1))) j.uses
first_for v j (Some (Asa a p)) = first_of (is_found p (used v j.uses (length j.uses - 1))) j.uses
first_for v j (Some (Upon a p)) = first_of (is_found p (used v j.uses (length j.uses - 1))) j.uses
first_for v j (Some _) = refl
first_for v j None = refl

both : (v : View) (j : PlainJudgment) → tests v j ++ others v j ≡ j.uses
both v j =
    ap (λ (z : List ℕ). z ++ others v j) (sym (first_for v j (row_at v.table j.node))) ∙ take-append-drop (length (tests v j)) j.uses

in_uses : (v : View) (i : ℕ) (j : PlainJudgment) (u : ℕ) → slice_get v.judgments i ≡ Some j → In u (tests v j ++ others v j) → In u (uses_at v.judgments i)
in_uses v i j u there h =
    subst (λ (o : Option PlainJudgment). In u (uses_of o)) (sym there) (subst (λ (z : List ℕ). In u z) (both v j) h)

-- a look, and what it leads to
module _ (v : View) where
  look_then : {i t k : ℕ} → LooksAt v i t → Leads v.table v.judgments t k → Leads v.table v.judgments i k
  look_then (looks_itself asks) leads = leads
  look_then (tested {i = i} {t = t} {j = j} asks there test) leads =
      through asks t (in_uses v i j t there (in_left t (tests v j) (others v j) test)) leads
  look_then (looks_through {i = i} {u = u} {j = j} asks there other look) leads =
      through asks u (in_uses v i j u there (in_right u (tests v j) (others v j) other)) (look_then look leads)

  sees_used : {i : ℕ} {c : Cell} → Sees v i c → IsUsedBy v.table v.judgments i c
  sees_used (at_once {k = k} {c = c} look asks) = (k, look_then look (itself c asks), asks)
  sees_used (past look asks sees) = let it = sees_used sees in (it.0, look_then look it.1, it.2)

  -- what leads anywhere, leads there past tests
  further : {i u : ℕ} {j : PlainJudgment} {c : Cell} → asked_at v.table v.judgments i ≡ None → slice_get v.judgments i ≡ Some j → In u (others v j)
      → Sees v u c → Sees v i c
  further none there other (at_once look asks) = at_once (looks_through none there other look) asks
  further none there other (past look asks sees) = past (looks_through none there other look) asks sees

  -- one that asks sees what it asks for alone
  itself_alone : {u k : ℕ} {d : Cell} → LooksAt v u k → asked_at v.table v.judgments u ≡ Some d → k ≡ u
  itself_alone (looks_itself e) asks = refl
  itself_alone {d = d} (tested none there test) asks = absurd (none-some d (sym none ∙ asks))
  itself_alone {d = d} (looks_through none there other look) asks = absurd (none-some d (sym none ∙ asks))

  sees_asked : {u : ℕ} {c d : Cell} → Sees v u c → asked_at v.table v.judgments u ≡ Some d → asked_at v.table v.judgments u ≡ Some c
  sees_asked (at_once look k_asks) asks = ap (λ (m : ℕ). asked_at v.table v.judgments m) (sym (itself_alone look asks)) ∙ k_asks
  sees_asked {d = d} (past look none sees) asks =
      absurd (none-some d (sym none ∙ ap (λ (m : ℕ). asked_at v.table v.judgments m) (itself_alone look asks) ∙ asks))

  by_test : {i u : ℕ} {c : Cell} → LooksAt v i u → (o : Option Cell) → asked_at v.table v.judgments u ≡ o → Sees v u c → Sees v i c
  by_test look None none sees = past look none sees
  by_test look (Some d) asks sees = at_once look (sees_asked sees asks)

  used_by : {i u : ℕ} {c : Cell} → asked_at v.table v.judgments i ≡ None → (o : Option PlainJudgment) → slice_get v.judgments i ≡ o → In u (uses_of o)
      → Sees v u c → Sees v i c
  used_by none None there h sees = absurd h
  used_by {u = u} none (Some j) there h sees =
      elim (in_either u (tests v j) (others v j) (subst (λ (z : List ℕ). In u z) (sym (both v j)) h)) [
        | inl test ↦ by_test (tested none there test) (asked_at v.table v.judgments u) refl sees
        | inr other ↦ further none there other sees
      ]

  leads_sees : {i k : ℕ} {c : Cell} → Leads v.table v.judgments i k → asked_at v.table v.judgments k ≡ Some c → Sees v i c
  leads_sees (itself d e) asks = at_once (looks_itself e) asks
  leads_sees (through {i = i} none u h leads) asks = used_by none (slice_get v.judgments i) refl h (leads_sees leads asks)

pub looks_used : LooksAreUses
looks_used v i c = (λ h. leads_sees v h.1 h.2, λ h. sees_used v h)
