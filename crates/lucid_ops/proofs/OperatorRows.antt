-- What the row of each operator says.
use Rattle.lucid_ops.proofs.Common.{◌≡◌, ◌≤◌, ℕ, Bool, true, false, cond, List, [], ◌∷◌, map, refl, arith, nat_eq, and_parts, find, option_map, Op, Add, arity, has, subst, Decides-eqb, slice_eq-Decides}
use Rattle.std.proofs.Common.{Some}
use Rattle.lucid_value.specs.Plain.{same_bytes}
use Rattle.lucid_ops.specs.Rows.{form_number, by_spelling, operator_of, operator_row, IsRowOf, IsFoundByItsRow}
use Rattle.lucid_ops.specs.declared.op.Form.{Form}
use Rattle.lucid_ops.specs.declared.op.Form.TheVariants.{Before, Between, Called}

-- the table has each operator's row
pub row_stands : (op : Op) → IsRowOf op (operator_row op)
row_stands Add = record { found = refl; own = refl; fits = refl; some = omega arith; few = omega arith; least = omega arith; most = omega arith; side = refl }
row_stands _ = record { found = refl; own = refl; fits = refl; some = omega arith; few = omega arith; least = omega arith; most = omega arith; side = refl }

-- each operator takes some arguments
pub arity_some : (op : Op) → 1 ≤ arity op
arity_some op = (row_stands op).some

-- no operator takes more than three arguments
pub arity_few : (op : Op) → arity op ≤ 3
arity_few op = (row_stands op).few

-- no operator binds tighter than level 12
pub level_most : (op : Op) → (operator_row op).level ≤ 12
level_most op = (row_stands op).most

-- an operator's row is the one with its form and its spelling
row_found : (op : Op) → operator_of (operator_row op).form (operator_row op).spelling ≡ Some op
row_found Add = refl
row_found _ = refl

-- what is found has the form and the spelling, if what is sought among does
found_in : (ops : List Op) (form : Form) (spelling : List ℕ) (op : Op) → option_map (λ r. r.op) (find (has form spelling) (map operator_row ops)) ≡ Some op
    → has form spelling (operator_row op) ≡ true
found_in [] form spelling op e = absurd (grind (arith, e))
found_in (o ∷ ops) form spelling op e = by (has form spelling (operator_row o)) refl (λ d. found_in ops form spelling op d) e
  where
    by : (t : Bool) → has form spelling (operator_row o) ≡ t
        → (option_map (λ r. r.op) (find (has form spelling) (map operator_row ops)) ≡ Some op → has form spelling (operator_row op) ≡ true)
        → option_map (λ r. r.op) (cond t (Some (operator_row o)) (find (has form spelling) (map operator_row ops))) ≡ Some op
        → has form spelling (operator_row op) ≡ true
    by true h k e = let own : (operator_row o).op ≡ o = (row_stands o).own in let same : o ≡ op = grind (arith, e, own) in
        subst (λ x. has form spelling (operator_row x) ≡ true) same h
    by false h k e = k e

-- a form is the one of its number
pub form_is : (f g : Form) → nat_eq (form_number f) (form_number g) ≡ true → f ≡ g
form_is Before Before e = refl
form_is Between Between e = refl
form_is Called Called e = refl
form_is Before Between e = absurd (grind (arith, e))
form_is Before Called e = absurd (grind (arith, e))
form_is Between Before e = absurd (grind (arith, e))
form_is Between Called e = absurd (grind (arith, e))
form_is Called Before e = absurd (grind (arith, e))
form_is Called Between e = absurd (grind (arith, e))

-- an operator is found by its row
pub found_by_row : (op : Op) → IsFoundByItsRow op
found_by_row op form spelling =
    (λ e. both (found_in by_spelling form spelling op e), λ h. back h.0 h.1)
  where
    both : has form spelling (operator_row op) ≡ true → ((operator_row op).form ≡ form) × ((operator_row op).spelling ≡ spelling)
    both h =
        let parts = and_parts (nat_eq (form_number (operator_row op).form) (form_number form)) (same_bytes (operator_row op).spelling spelling) h in
        (form_is (operator_row op).form form parts.0, (slice_eq-Decides Decides-eqb (operator_row op).spelling spelling _ refl).0 parts.1)

    back : (operator_row op).form ≡ form → (operator_row op).spelling ≡ spelling → operator_of form spelling ≡ Some op
    back f s = subst (λ x. operator_of x spelling ≡ Some op) f (subst (λ x. operator_of (operator_row op).form x ≡ Some op) s (row_found op))
