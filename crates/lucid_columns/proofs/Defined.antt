-- One more definition passed by, or met, in the search for a plain definition of a name.
use Rattle.lucid_columns.proofs.Common.{◌≡◌, ℕ, ◌+◌, ◌<◌, ◌≤◌, true, false, List, length, refl, ap, subst, drop, IsTrue, PlainDefs, defs_of, definition, is_plain, defines_plain, Bool, slice_index_or, add-one, drop-cons, ◌↔◌, nat_list_eq_equiv, drop_of_length-le}
use Rattle.lucid_tree.specs.DefsView.{def_of}
use Rattle.lucid_tree.specs.Env.{same_name}
use Rattle.lucid_tree.specs.declared.tree.Def.{Def}
use Rattle.lucid_tree.specs.declared.tree.DefKind.{DefKind}
use Rattle.lucid_tree.specs.declared.tree.DefKind.TheVariants.{Plain, Function, Current}
use Rattle.lucid_tree.proofs.Lookups.{definition_passed}
use Rattle.lucid_scope.proofs.Names.{not_same}

-- names are the same exactly where their bytes are
pub same_if : (r : Bool) (x y : List ℕ) → (IsTrue r ↔ (x ≡ y)) → r ≡ true → same_name x y ≡ true
same_if r x y is h = subst (λ z. same_name x z ≡ true) (is.0 h) (nat_list_eq_equiv.refl x)

pub not_same_if : (r : Bool) (x y : List ℕ) → (IsTrue r ↔ (x ≡ y)) → r ≡ false → same_name x y ≡ false
not_same_if r x y is h = not_same x y (λ e. let yes : r ≡ true = is.1 e in absurd (cc (yes, h)))

here : (n : List ℕ) (at : ℕ) (x : List ℕ) (k : DefKind) (ds : PlainDefs) → same_name n x ≡ true → is_plain (definition n (def_of at x k ds)) ≡ defines_plain k
here n at x (Plain e) ds h = rw h refl
here n at x (Function ps ats e) ds h = rw h refl
here n at x (Current e) ds h = rw h refl

pub passed : (n : List ℕ) (ds : List Def) (i : ℕ) (d : Def) → i < length ds → d ≡ slice_index_or ds i d → same_name n d.name ≡ false
    → is_plain (definition n (defs_of (drop i ds))) ≡ is_plain (definition n (defs_of (drop (i + 1) ds)))
passed n ds i d h is differ = rw (drop-cons ds i d, ← is, add-one) (ap is_plain (definition_passed n d.at d.name d.kind _ differ))

pub met : (n : List ℕ) (ds : List Def) (i : ℕ) (d : Def) → i < length ds → d ≡ slice_index_or ds i d → same_name n d.name ≡ true
    → is_plain (definition n (defs_of (drop i ds))) ≡ defines_plain d.kind
met n ds i d h is same = rw (drop-cons ds i d, ← is) (here n d.at d.name d.kind _ same)

pub none_left : (n : List ℕ) (ds : List Def) (i : ℕ) → length ds ≤ i → is_plain (definition n (defs_of (drop i ds))) ≡ false
none_left n ds i h = rw (drop_of_length-le ds h) refl
