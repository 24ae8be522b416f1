-- Rows in order, and the row that is found in them.
use Rattle.lucid_ops.proofs.Common.{◌≡◌, ◌<◌, Bool, true, false, cond, List, [], ◌∷◌, map, refl, arith, find, option_map, rises}
use Rattle.std.proofs.Common.{Some, length}
use Rattle.lucid_ops.specs.Row.{Row}

-- no row, and one row alone, stand in order
pub rises_short : {A : Type 0} (f : A → Row) (xs : List A) → length xs < 2 → rises (map f xs) ≡ true
rises_short f [] h = refl
rises_short f (x ∷ []) h = refl
rises_short f (x ∷ y ∷ xs) h = absurd (omega arith)

-- what is found in the plain rows is the plain form of what is found in the rows
pub find_plain : {A : Type 0} (f : A → Row) (test : Row → Bool) (xs : List A) → find test (map f xs) ≡ option_map f (find (λ x. test (f x)) xs)
find_plain f test [] = refl
find_plain f test (x ∷ xs) = by (test (f x)) (find_plain f test xs)
  where
    by : (t : Bool) → find test (map f xs) ≡ option_map f (find (λ y. test (f y)) xs)
        → cond t (Some (f x)) (find test (map f xs)) ≡ option_map f (cond t (Some x) (find (λ y. test (f y)) xs))
    by true h = refl
    by false h = h
