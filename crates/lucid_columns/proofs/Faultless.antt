-- The names of columns have no fault.
use Rattle.lucid_columns.proofs.Common.{◌≡◌, ℕ, suc, ◌+◌, List, [], ◌∷◌, ◌++◌, Some, None, refl, sym, arith, true≢false, All, IsTrue, slice_get, block, PlainDefs, definition, is_plain, over_space, All-nil, All-cons, All-append}
use Rattle.std.proofs.lemmas.Option.{slice_get_within}
use Rattle.lucid_tree.specs.Env.{Found, plain_def}
use Rattle.lucid_scope.specs.Scope.{Static, outermost, in_block, meaning, defined_in}
use Rattle.lucid_scope.specs.Sites.{Site, named, sites, outside_sites, inside_sites, no_names}
use Rattle.lucid_scope.specs.Bindings.{fault_of, name_fault}
use Rattle.lucid_columns.specs.Laws.{ColumnsHaveNoFault}

abbrev Faultless : Site → Type 0
Faultless s = fault_of s ≡ None

-- the sites of a list, from those of its two halves
all_left : (xs ys : List Site) → All Faultless (xs ++ ys) → All Faultless xs
all_left [] ys all = All-nil Faultless
all_left (x ∷ xs) ys all = All-cons Faultless x xs (all 0 x (omega arith)) (all_left xs ys (λ k d lt. all (suc k) d (omega (arith, lt))))

all_right : (xs ys : List Site) → All Faultless (xs ++ ys) → All Faultless ys
all_right [] ys all = all
all_right (x ∷ xs) ys all = all_right xs ys (λ k d lt. all (suc k) d (omega (arith, lt)))

-- a name that has a plain definition has no fault
no_fault : (found : Found) (at : ℕ) (k o : Static) (n : List ℕ) → IsTrue (is_plain found) → name_fault at (defined_in found k o (meaning n o)) ≡ None
no_fault (plain_def d e) at k o n is = refl
no_fault _ at k o n is = absurd (true≢false (sym is))

module _ (ds : PlainDefs) where
  names_faultless : (base j : ℕ) (n : List ℕ) (ns : List (List ℕ))
      → ((i : ℕ) (m : List ℕ) → slice_get (n ∷ ns) i ≡ Some m → IsTrue (is_plain (definition m ds)))
      → All Faultless (sites (in_block ds outermost) (over_space base j n ns))
  names_faultless base j n [] plain = All-cons Faultless (named (base + j) n (in_block ds outermost)) []
      (no_fault (definition n ds) (base + j) (in_block ds outermost) outermost n (plain 0 n refl)) (All-nil Faultless)
  names_faultless base j n (k ∷ ns) plain =
      All-cons Faultless (named (base + j) n (in_block ds outermost)) (sites (in_block ds outermost) (over_space base (suc j) k ns) ++ [])
      (no_fault (definition n ds) (base + j) (in_block ds outermost) outermost n (plain 0 n refl))
      (All-append Faultless (sites (in_block ds outermost) (over_space base (suc j) k ns)) [] (names_faultless base (suc j) k ns (λ i m e. plain (suc i) m e))
      (All-nil Faultless))

-- So a program with its columns side by side has none where the program has none.
pub have_no_fault : ColumnsHaveNoFault
have_no_fault e base [] columns none = none
have_no_fault (block at x ds) base (n ∷ ns) columns none =
    let k : Static = in_block ds outermost in
    let inner = all_right (outside_sites outermost ds) (sites k x ++ inside_sites k no_names ds) none in
    All-append Faultless (outside_sites outermost ds) (sites k (over_space base 0 n ns) ++ inside_sites k no_names ds)
    (all_left (outside_sites outermost ds) (sites k x ++ inside_sites k no_names ds) none)
    (All-append Faultless (sites k (over_space base 0 n ns)) (inside_sites k no_names ds)
    (names_faultless ds base 0 n ns (λ i m e. columns i m (slice_get_within (n ∷ ns) i m e) e))
    (all_right (sites k x) (inside_sites k no_names ds) inner))
have_no_fault _ base (n ∷ ns) columns none = none
