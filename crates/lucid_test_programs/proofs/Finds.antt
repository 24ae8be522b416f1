-- One more definition passed by, or met.
use Rattle.lucid_test_programs.proofs.Common.{◌≡◌, ℕ, zero, suc, arith, get_or, Some, None, ◌+◌, ◌<◌, ◌≤◌, true, false, List, [], ◌∷◌, refl, drop, length, add-one, drop-cons, drop_of_length-le, PlainTree, PlainDefs, defs_of, trees_of, tree_at, definition, same_name, absent, found_in, frozen_at, eod, plain, slice_index_or}
use Rattle.lucid_tree.specs.DefsView.{def_of}
use Rattle.lucid_tree.proofs.Lookups.{definition_passed}
use Rattle.lucid_test_programs.specs.Streams.{element_in}
use Rattle.lucid_value.specs.declared.Value.{Value}
use Rattle.lucid_tree.specs.declared.tree.Def.{Def}
use Rattle.lucid_tree.specs.declared.tree.DefKind.{DefKind}
use Rattle.lucid_tree.specs.declared.tree.DefKind.TheVariants.{Plain, Function, Current}

pub definition-met : (n : List ℕ) (at : ℕ) (x : List ℕ) (k : DefKind) (ds : PlainDefs) → same_name n x ≡ true → definition n (def_of at x k ds) ≡ found_in at k
definition-met n at x (Plain e) ds h = rw h refl
definition-met n at x (Function ps ats e) ds h = rw h refl
definition-met n at x (Current e) ds h = rw h refl

pub passed : (n : List ℕ) (ds : List Def) (i : ℕ) (d : Def) → i < length ds → d ≡ slice_index_or ds i d → same_name n d.name ≡ false
    → definition n (defs_of (drop i ds)) ≡ definition n (defs_of (drop (i + 1) ds))
passed n ds i d h is other = rw (drop-cons ds i d, ← is, add-one) (definition_passed n d.at d.name d.kind _ other)

pub met : (n : List ℕ) (ds : List Def) (i : ℕ) (d : Def) → i < length ds → d ≡ slice_index_or ds i d → same_name n d.name ≡ true
    → definition n (defs_of (drop i ds)) ≡ found_in d.at d.kind
met n ds i d h is this = rw (drop-cons ds i d, ← is) (definition-met n d.at d.name d.kind _ this)

pub none_left : (n : List ℕ) (ds : List Def) (i : ℕ) → length ds ≤ i → definition n (defs_of (drop i ds)) ≡ absent
none_left n ds i h = rw (drop_of_length-le ds h) refl

pub tree_at_in : (es : List PlainTree) (i : ℕ) (d : PlainTree) → i < length es → tree_at (trees_of es) i ≡ Some (get_or es i d)
tree_at_in [] i d h = absurd (omega arith)
tree_at_in (e ∷ es) zero d h = refl
tree_at_in (e ∷ es) (suc i) d h = tree_at_in es i d (omega arith)

pub tree_at_past : (es : List PlainTree) (i : ℕ) → length es ≤ i → tree_at (trees_of es) i ≡ None
tree_at_past [] i h = refl
tree_at_past (e ∷ es) zero h = absurd (omega arith)
tree_at_past (e ∷ es) (suc i) h = tree_at_past es i (omega arith)

pub element_in_at : (vs : List Value) (j : ℕ) (d : Value) → j < length vs → element_in vs j ≡ plain (get_or vs j d)
element_in_at [] j d h = absurd (omega arith)
element_in_at (v ∷ vs) zero d h = refl
element_in_at (v ∷ vs) (suc j) d h = element_in_at vs j d (omega arith)

pub element_in_past : (vs : List Value) (j : ℕ) → length vs ≤ j → element_in vs j ≡ eod
element_in_past [] j h = refl
element_in_past (v ∷ vs) zero h = absurd (omega arith)
element_in_past (v ∷ vs) (suc j) h = element_in_past vs j (omega arith)

frozen-other : (t at : ℕ) (x : List ℕ) (k : DefKind) (ds : PlainDefs) → ((e : PlainTree) → k ≡ Current e → ⊥) → frozen_at (def_of at x k ds) t ≡ frozen_at ds t
frozen-other t at x (Plain e) ds h = refl
frozen-other t at x (Function ps ats e) ds h = refl
frozen-other t at x (Current e) ds h = absurd (h e refl)

pub time_passed : (t : ℕ) (ds : List Def) (i : ℕ) (d : Def) → i < length ds → d ≡ slice_index_or ds i d → ((e : PlainTree) → d.kind ≡ Current e → ⊥)
    → frozen_at (defs_of (drop i ds)) t ≡ frozen_at (defs_of (drop (i + 1) ds)) t
time_passed t ds i d h is other = rw (drop-cons ds i d, ← is, add-one) (frozen-other t d.at d.name d.kind _ other)

frozen-met : (t at : ℕ) (x : List ℕ) (k : DefKind) (ds : PlainDefs) (e : PlainTree) → k ≡ Current e → frozen_at (def_of at x k ds) t ≡ Some t
frozen-met t at x k ds e h = rw h refl

pub time_met : (t : ℕ) (ds : List Def) (i : ℕ) (d : Def) → i < length ds → d ≡ slice_index_or ds i d → (e : PlainTree) → d.kind ≡ Current e
    → frozen_at (defs_of (drop i ds)) t ≡ Some t
time_met t ds i d h is e this = rw (drop-cons ds i d, ← is) (frozen-met t d.at d.name d.kind _ e this)

pub no_time_left : (t : ℕ) (ds : List Def) (i : ℕ) → length ds ≤ i → frozen_at (defs_of (drop i ds)) t ≡ None
no_time_left t ds i h = rw (drop_of_length-le ds h) refl
