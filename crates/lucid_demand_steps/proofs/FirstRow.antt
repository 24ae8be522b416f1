-- The facts of a demand's first row.
use Rattle.lucid_demand_steps.proofs.Common.{◌≡◌, ◌⊎◌, inl, inr, ℕ, Option, Some, None, sym, ◌∙◌, subst, refl, cases_eq, Elements, Extends, PlainTask, PlainRow, PlainRows, DatonAt, key_list, new_row, Holding, StandsFor, Demand, table_of, RowFacts, Links, Work}
use Rattle.std.proofs.Common.{◌==◌}
use Rattle.std.specs.Prelude.{if◌then◌else◌}
use Rattle.lucid_demand_steps.proofs.Slots.{at_it, at_another}

-- A demand's first row, which stands for its root.
pub work_begins : (d : Demand) (now : Elements) (h : Holding) (lost : ℕ) (rows : PlainRows) (slot : ℕ) (x : PlainTask) (key : Option DatonAt)
    → StandsFor (table_of d) (key_list key) x d.root
    → ((b : Elements) → Extends now b → RowFacts d b h lost (new_row x None key)) → ((q : ℕ) → rows q ≡ (if q == slot then Some (new_row x None key) else None))
    → Work d now h lost rows
work_begins d now h lost rows slot x key stands facts sets = record {
  each = λ q c e. subst (λ z. (b : Elements) → Extends now b → RowFacts d b h lost z) (row_is q c e (cases_eq q slot)).1 facts;
  links = λ q c e. let is = row_is q c e (cases_eq q slot) in subst (λ z. Links d rows q z) is.1 (linked q);
  some = (slot, first, sets slot ∙ at_it slot slot (Some first) None refl);
}
  where
    first : PlainRow
    first = new_row x None key

    row_is : (q : ℕ) (c : PlainRow) → rows q ≡ Some c → (q ≡ slot) ⊎ (q ≡ slot → ⊥) → (q ≡ slot) × (first ≡ c)
    row_is q c e (inl s) = (s, (let both : Some first ≡ Some c = sym (at_it q slot (Some first) None s) ∙ sym (sets q) ∙ e in cc))
    row_is q c e (inr n) = let both : None ≡ Some c = sym (at_another q slot (Some first) None n) ∙ sym (sets q) ∙ e in absurd (cc)

    linked : (q : ℕ) → Links d rows q first
    linked q = record { root = λ e. stands; serves = λ part e. absurd (cc) }
