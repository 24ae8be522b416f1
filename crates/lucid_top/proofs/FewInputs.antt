-- A tree with columns of it as the subject has no more free names than the tree has places: the columns are no free names.
use Rattle.lucid_top.proofs.Common.{◌≡◌, ℕ, suc, ◌+◌, ◌≤◌, Bool, true, false, List, [], ◌∷◌, ◌++◌, length, Some, refl, sym, ap, arith, IsTrue, slice_get, ∥∥₁_elim, slice_get_within, PlainTree, name, PlainDefs, same_name, places, places_in_defs, all_sites, AreColumns, HasInputs, fold, sum_by, true≢false, list_any, le_prop, sum_by-cons, sum_by-append, sum_by-IsPermutation}
use Rattle.std.proofs.Common.{cond, length-append}
use Rattle.lucid_tree.specs.Tree.{form, call, block}
use Rattle.lucid_tree.specs.Env.{Found, plain_def, definition}
use Rattle.lucid_scope.specs.Scope.{Static, outermost, in_block, Meaning, free, meaning, defined_in}
use Rattle.lucid_scope.specs.Sites.{Site, named, called, again, sites, outside_sites, inside_sites, no_names, Earlier}
use Rattle.lucid_scope.specs.Bindings.{with_input, with_site, AreInputs}
use Rattle.lucid_scope.proofs.Weights.{sites-weight, defs-weight}
use Rattle.lucid_columns.specs.Columns.{is_plain, over_space, with_columns}

-- one for a free name, and nothing for another
abbrev free_one : Meaning → ℕ
free_one free = 1
free_one _ = 0

abbrev free_at : Site → ℕ
free_at (named at x k) = free_one (meaning x k)
free_at (called at x n k) = free_one (meaning x k)
free_at (again at) = 0

-- a site adds a name at most where its own is free
longer : (b : Bool) (is more : List (List ℕ)) → length (cond b is (is ++ more)) ≤ length is + length more
longer true is more = omega arith
longer false is more = omega (arith, length-append is more)

input_adds : (is : List (List ℕ)) (x : List ℕ) (m : Meaning) → length (with_input is x m) ≤ length is + free_one m
input_adds is x free = longer (list_any (same_name x) is) is (x ∷ [])
input_adds is x _ = omega arith

site_adds : (is : List (List ℕ)) (s : Site) → length (with_site is s) ≤ length is + free_at s
site_adds is (named at x k) = input_adds is x (meaning x k)
site_adds is (called at x n k) = input_adds is x (meaning x k)
site_adds is (again at) = omega arith

all_add : (ss : List Site) (is : List (List ℕ)) → length (fold with_site is ss) ≤ length is + sum_by free_at ss
all_add [] is = omega arith
all_add (s ∷ ss) is = omega (arith, all_add ss (with_site is s), site_adds is s, sum_by-cons free_at s ss)

few_names : (e : PlainTree) (names : List (List ℕ)) → AreInputs e names → length names ≤ sum_by free_at (all_sites e)
few_names e names a = omega (arith, ap length a.names, all_add a.order [], sum_by-IsPermutation free_at (all_sites e) a.order a.permutes)

-- at most one for each site
meaning_ones : (m : Meaning) → free_one m ≤ 1
meaning_ones free = omega arith
meaning_ones _ = omega arith

site_ones : (s : Site) → free_at s ≤ 1
site_ones (named at x k) = meaning_ones (meaning x k)
site_ones (called at x n k) = meaning_ones (meaning x k)
site_ones (again at) = omega arith

as_many : (ss : List Site) → sum_by free_at ss ≤ length ss
as_many [] = omega arith
as_many (s ∷ ss) = omega (arith, site_ones s, as_many ss, sum_by-cons free_at s ss)

-- and no more sites than places
ones : {A : Type 0} (xs : List A) → sum_by (λ x. 1) xs ≡ length xs
ones [] = refl
ones (x ∷ xs) = omega (arith, sum_by-cons (λ y. 1) x xs, ones xs)

few_sites : (k : Static) (e : PlainTree) → length (sites k e) ≤ length (places e)
few_sites k e = omega (arith, ones (sites k e), ones (places e), sites-weight (λ at. 1) k e)

few_in_defs : (o k : Static) (earlier : Earlier) (ds : PlainDefs)
    → length (outside_sites o ds) + length (inside_sites k earlier ds) ≤ length (places_in_defs ds)
few_in_defs o k earlier ds = omega (
  arith,
  ones (outside_sites o ds),
  ones (inside_sites k earlier ds),
  ones (places_in_defs ds),
  defs-weight (λ at. 1) o k
      earlier ds,
)

-- a plain name isn't free
not_free : (found : Found) (k o : Static) (m : Meaning) → IsTrue (is_plain found) → free_one (defined_in found k o m) ≡ 0
not_free (plain_def at e) k o m is = refl
not_free _ k o m is = absurd (true≢false (sym is))

columns_not_free : (ds : PlainDefs) (base j : ℕ) (n : List ℕ) (ns : List (List ℕ))
    → ((i : ℕ) (m : List ℕ) → slice_get (n ∷ ns) i ≡ Some m → IsTrue (is_plain (definition m ds)))
    → sum_by free_at (sites (in_block ds outermost) (over_space base j n ns)) ≡ 0
columns_not_free ds base j n [] plain = omega (
  arith,
  sum_by-cons free_at (named (base + j) n (in_block ds outermost)) [],
  not_free (definition n ds)
      (in_block ds outermost) outermost free (plain 0 n refl),
)
columns_not_free ds base j n (m ∷ ms) plain =
    let k : Static = in_block ds outermost in
    let rest : List Site = sites k (over_space base (suc j) m ms) in
    omega (
      arith,
      sum_by-cons free_at (named (base + j) n k) (rest ++ []),
      sum_by-append free_at rest [],
      not_free (definition n ds) k outermost free (plain 0 n refl),
      columns_not_free ds base (suc j) m ms (λ i x is. plain (suc i) x is),
    )

few_free : (e : PlainTree) → sum_by free_at (all_sites e) ≤ length (places e)
few_free e = omega (arith, as_many (all_sites e), few_sites outermost e)

few_beside : (e : PlainTree) (base : ℕ) (columns : List (List ℕ)) → AreColumns e columns
    → sum_by free_at (all_sites (with_columns e base columns)) ≤ length (places e)
few_beside e base [] are = few_free e
few_beside (form at f es) base (n ∷ ns) are = few_free (form at f es)
few_beside (name at x) base (n ∷ ns) are = few_free (name at x)
few_beside (call at x es) base (n ∷ ns) are = few_free (call at x es)
few_beside (block at e ds) base (n ∷ ns) are =
    let k : Static = in_block ds outermost in
    let outer : List Site = outside_sites outermost ds in
    let inner : List Site = inside_sites k no_names ds in
    let subject : List Site = sites k (over_space base 0 n ns) in
    omega (
      arith,
      sum_by-append free_at outer (subject ++ inner),
      sum_by-append free_at subject inner,
      columns_not_free ds base 0 n ns (λ i m is. are i m (slice_get_within (n ∷ ns) i m is) is),
      as_many outer,
      as_many inner,
      few_in_defs outermost k no_names ds,
      length-append (places e) (places_in_defs ds),
    )

pub few_inputs : (e : PlainTree) (base : ℕ) (columns names : List (List ℕ)) → AreColumns e columns → HasInputs (with_columns e base columns) names
    → length names ≤ length (places e)
few_inputs e base columns names are inputs =
    ∥∥₁_elim inputs le_prop
    (λ a. let here = few_names (with_columns e base columns) names a in let most = few_beside e base columns are in omega (arith, here, most))
