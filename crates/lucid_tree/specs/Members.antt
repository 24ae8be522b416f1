-- What stands in a list: membership, lists whose items all differ, and lists all of whose items stand in another.
use Rattle.std.specs.Prelude.{◌≡◌, List, [], ◌∷◌, ◌⊎◌}
use Rattle.std.proofs.Props.{props}

-- x stands in the list
abbrev pub In : {A : Type 0} → A → List A → Type 0
In x [] = ⊥
In x (y ∷ ys) = (x ≡ y) ⊎ In x ys

-- no item stands in the list twice
abbrev pub AllDiffer : {A : Type 0} → List A → Type 0
AllDiffer [] = Unit {0}
AllDiffer (x ∷ xs) = (In x xs → ⊥) × AllDiffer xs

-- At most one proof says so.
pub AllDiffer-prop : {A : Type 0} (xs : List A) → IsProp (AllDiffer xs)
AllDiffer-prop [] = hlevel props
AllDiffer-prop (x ∷ xs) = hlevel (props, AllDiffer-prop xs)

-- each item of the first list stands in the second
abbrev pub Inside : {A : Type 0} → List A → List A → Type 0
Inside {A = A} xs ys = (x : A) → In x xs → In x ys
