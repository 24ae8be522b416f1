-- What a search finds among pairs whose keys rise, and what an edit at that place does.
use Rattle.lucid_search.proofs.Common.{◌≡◌, ℕ, ◌<◌, ◌≤◌, ◌==◌, true, false, cond, List, set, Some, None, IsSome, Result, Ok, Err, refl, sym, ap, ◌∙◌, number_in, Rises, IsAt, IsGapFor, zero, suc, ◌-◌, ◌≢◌, [], ◌∷◌, length, get_or, IfOk, IfErr, arith, true≢false, insert, IsSearchInRange, IsBinarySearchResult, IsNonDecreasingBy, nat_cmp, ordering_index, ranked, IsNonDecreasingBy-from_default, nat_tests, eqb-true}
use Rattle.lucid_lists.proofs.Numbers.{number_itself, below_differs, equality_turned}
use Rattle.lucid_search.specs.Numbered.{key_at, SetsOne}
use Rattle.lucid_search.specs.Noted.{IsBestOf}

-- no pair has the key
none_has : (l : List (ℕ × ℕ)) (n : ℕ) → ((d : ℕ × ℕ) (j : ℕ) → j < length l → key_at d l j ≢ n) → number_in l n ≡ None
none_has [] n none = refl
none_has (x ∷ l) n none = (elim (x.0 == n) as (λ t. (x.0 == n) ≡ t → cond t (Some x.1) (number_in l n) ≡ None) [
  | true ↦ λ t. absurd (none x 0 (omega arith) (eqb-true x.0 n t))
  | false ↦ λ t. none_has l n (λ d j h. none d (suc j) (omega (arith, h)))
]) refl

-- the first pair that has the key gives the number
first_has : (l : List (ℕ × ℕ)) (n i : ℕ) (d : ℕ × ℕ) → i < length l → key_at d l i ≡ n → ((j : ℕ) → j < i → key_at d l j ≢ n)
    → number_in l n ≡ Some (get_or l i d).1
first_has [] n i d h at none = absurd (omega (arith, h))
first_has (x ∷ l) n zero d h at none = ap (λ t. cond t (Some x.1) (number_in l n)) (ap (λ m. m == n) at ∙ number_itself n)
first_has (x ∷ l) n (suc i) d h at none = (elim (x.0 == n) as (λ t. (x.0 == n) ≡ t → cond t (Some x.1) (number_in l n) ≡ Some (get_or l i d).1) [
  | true ↦ λ t. absurd (none 0 (omega arith) (eqb-true x.0 n t))
  | false ↦ λ t. first_has l n i d (omega (arith, h)) at (λ j lt. none (suc j) (omega (arith, lt)))
]) refl

-- a key that has a number stands at a place
some_place : (l : List (ℕ × ℕ)) (n : ℕ) → IsSome (number_in l n) → (j : ℕ) × ((j < length l) × ((d : ℕ × ℕ) → key_at d l j ≡ n))
some_place [] n h = absurd (true≢false (sym h))
some_place (x ∷ l) n h =
    (elim (x.0 == n) as (λ t. (x.0 == n) ≡ t → IsSome (cond t (Some x.1) (number_in l n))
    → (j : ℕ) × ((j < length (x ∷ l)) × ((d : ℕ × ℕ) → key_at d (x ∷ l) j ≡ n))) [
      | true ↦ λ t h. (0, (omega arith, λ d. eqb-true x.0 n t))
      | false ↦ λ t h. let rest = some_place l n h in (suc rest.0, (omega (arith, rest.1.0), rest.1.1))
    ]) refl h

-- a new pair before any pair that has the key
has_inserted : (l : List (ℕ × ℕ)) (n v i : ℕ) (d : ℕ × ℕ) → ((j : ℕ) → j < i → key_at d l j < n) → i ≤ length l → (q : ℕ)
    → number_in (insert l i (n, v)) q ≡ cond (q == n) (Some v) (number_in l q)
has_inserted l n v zero d less h q = ap (λ t. cond t (Some v) (number_in l q)) (equality_turned n q)
has_inserted [] n v (suc i) d less h q = absurd (omega (arith, h))
has_inserted (x ∷ l) n v (suc i) d less h q =
    let first = less 0 (omega arith) in
    ap (cond (x.0 == q) (Some x.1)) (has_inserted l n v i d (λ j lt. less (suc j) (omega (arith, lt))) (omega (arith, h)) q)
    ∙ (elim (x.0 == q) as (λ t. (x.0 == q) ≡ t → cond t (Some x.1) (cond (q == n) (Some v) (number_in l q)) ≡ cond (q == n) (Some v)
    (cond t (Some x.1) (number_in l q))) [
      | true ↦ λ t. let same = eqb-true x.0 q t in ap (λ b. cond b (Some v) (Some x.1)) (sym (below_differs q n (omega (arith, first, same))))
      | false ↦ λ t. refl
    ]) refl

-- the pair that has the key written over
has_set : (l : List (ℕ × ℕ)) (n v i : ℕ) (d : ℕ × ℕ) → ((j : ℕ) → j < i → key_at d l j < n) → i < length l → key_at d l i ≡ n → (q : ℕ)
    → number_in (set l i (n, v)) q ≡ cond (q == n) (Some v) (number_in l q)
has_set [] n v i d less h at q = absurd (omega (arith, h))
has_set (x ∷ l) n v zero d less h at q =
    (elim (q == n) as (λ t. (q == n) ≡ t → cond (n == q) (Some v) (number_in l q) ≡ cond t (Some v) (cond (x.0 == q) (Some x.1) (number_in l q))) [
      | true ↦ λ t. ap (λ b. cond b (Some v) (number_in l q)) (equality_turned n q ∙ t)
      | false ↦ λ t. ap (λ b. cond b (Some v) (number_in l q)) (equality_turned n q ∙ t)
          ∙ ap (λ b. cond b (Some x.1) (number_in l q)) (sym (ap (λ m. m == q) at ∙ equality_turned n q ∙ t))
    ]) refl
has_set (x ∷ l) n v (suc i) d less h at q =
    let first = less 0 (omega arith) in
    ap (cond (x.0 == q) (Some x.1)) (has_set l n v i d (λ j lt. less (suc j) (omega (arith, lt))) (omega (arith, h)) at q)
    ∙ (elim (x.0 == q) as (λ t. (x.0 == q) ≡ t → cond t (Some x.1) (cond (q == n) (Some v) (number_in l q)) ≡ cond (q == n) (Some v)
    (cond t (Some x.1) (number_in l q))) [
      | true ↦ λ t. let same = eqb-true x.0 q t in ap (λ b. cond b (Some v) (Some x.1)) (sym (below_differs q n (omega (arith, first, same))))
      | false ↦ λ t. refl
    ]) refl

module _ (l : List (ℕ × ℕ)) (up : Rises l) where
  -- a pair that is the first at or below the key
  greatest_at : (key i : ℕ) (x : ℕ × ℕ) → i < length l → x ≡ get_or l i x → x.0 ≤ key → ((j : ℕ) → i < j → j < length l → key < key_at x l j) → IsBestOf l key x
  greatest_at key i x h is low above = record {
    noted = first_has l x.0 i x h (ap (λ (y : ℕ × ℕ). y.0) (sym is))
        (λ j lt same. let less = up x j i lt h in let here = ap (λ (y : ℕ × ℕ). y.0) is in omega (arith, less, here, same))
        ∙ ap (λ (y : ℕ × ℕ). Some y.1) (sym is);
    low = low;
    greatest = λ q at_most some.
        let place = some_place l q some in
        let same = place.1.1 x in
        let here : key_at x l i ≡ x.0 = ap (λ (y : ℕ × ℕ). y.0) (sym is) in
        grind (arith, above place.0, place.1.0, up x place.0 i, λ (e : place.0 ≡ i). ap (key_at x l) e);
  }

  pub best_at : (key i : ℕ) (x : ℕ × ℕ) → IsAt l key i → x ≡ get_or l i x → IsBestOf l key x
  best_at key i x at is =
      let here : key_at x l i ≡ x.0 = ap (λ (y : ℕ × ℕ). y.0) (sym is) in
      let same = at.has x in
      greatest_at key i x at.in_range is (omega (arith, here, same)) (λ j lt h. let above = up x i j lt h in omega (arith, above, same))

  pub best_before : (key i : ℕ) (x : ℕ × ℕ) → IsGapFor l key i → 0 < i → x ≡ get_or l (i - 1) x → IsBestOf l key x
  best_before key i x gap some is =
      let here : key_at x l (i - 1) ≡ x.0 = ap (λ (y : ℕ × ℕ). y.0) (sym is) in
      let range = gap.in_range in
      let lower = gap.smaller x (i - 1) (omega (arith, some)) in
      greatest_at key (i - 1) x (omega (arith, some, range)) is (omega (arith, here, lower)) (λ j lt h. gap.greater x j (omega (arith, lt)) h)

  pub none_low : (key i : ℕ) → IsGapFor l key i → i ≡ 0 → (q : ℕ) → q ≤ key → number_in l q ≡ None
  none_low key i gap first q low = none_has l q (λ d j h same. let above = gap.greater d j (omega (arith, first)) h in omega (arith, above, same, low))

  -- a pair written over
  module _ (key i number : ℕ) (at : IsAt l key i) where
    pub set_sets : SetsOne (number_in l) (number_in (set l i (key, number))) key number
    set_sets = has_set l key number i (0, 0) (λ j lt. let less = up (0, 0) j i lt at.in_range in let same = at.has (0, 0) in omega (arith, less, same))
        at.in_range (at.has (0, 0))

  -- a new pair
  module _ (key i number : ℕ) (gap : IsGapFor l key i) where
    pub insert_sets : SetsOne (number_in l) (number_in (insert l i (key, number))) key number
    insert_sets = has_inserted l key number i (0, 0) (λ j lt. gap.smaller (0, 0) j lt) gap.in_range

-- ---- the search

module _ (l : List (ℕ × ℕ)) (up : Rises l) (n : ℕ) where
  comparisons_rise : IsNonDecreasingBy (λ (pair : ℕ × ℕ). ordering_index (nat_cmp pair.0 n)) l
  comparisons_rise = IsNonDecreasingBy-from_default (λ (pair : ℕ × ℕ). ordering_index (nat_cmp pair.0 n)) l (0, 0) (λ i j le in_range.
      let keys_rise : key_at (0, 0) l i ≤ key_at (0, 0) l j = grind (arith, up (0, 0) i j, λ (same : i ≡ j). ap (key_at (0, 0) l) same) in
      grind (arith, nat_tests))

  pub searched : (r : Result ℕ ℕ) → IsSearchInRange r (length l) → IsBinarySearchResult (λ (pair : ℕ × ℕ). nat_cmp pair.0 n) l r
      → IfOk r (IsAt l n) × IfErr r (IsGapFor l n)
  searched (Ok at) in_range equal = (record { in_range = in_range; has = λ d. ranked _ n _ (sym (equal d)) }, tt)
  searched (Err at) in_range parted = (
    tt,
    record {
      in_range = in_range;
      smaller = λ d j lt. ranked _ n _ (sym ((parted comparisons_rise).0 j d (omega arith) lt));
      greater = λ d j le lt. ranked _ n _ (sym ((parted comparisons_rise).1 j d le lt));
    },
  )
