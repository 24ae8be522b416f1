-- What a search finds among pairs whose numbers rise, and what an edit at that place does.
use Rattle.lucid_tasks.proofs.Common.{◌≡◌, ℕ, zero, suc, ◌+◌, ◌-◌, ◌<◌, ◌≤◌, ◌≢◌, ◌==◌, true, false, cond, List, [], ◌∷◌, length, get_or, Some, None, Ok, Err, refl, sym, ap, subst, ◌∙◌, arith, nat_tests, none-some, eqb-true, number_itself, below_differs, value_at, SetsOne, Result, IfOk, IfErr, IsSearchInRange, IsBinarySearchResult, IsNonDecreasingBy, nat_cmp, ordering_index, ranked, get_or_default, IsNonDecreasingBy-from_default, length-insert, length-remove, get_or-insert_below, get_or-insert_at, get_or-insert_above, get_or-remove_below, get_or-remove_above}
use Rattle.std.proofs.Common.{slice_get}
use Rattle.std.specs.List.{insert, remove}
use Rattle.lucid_lists.proofs.Numbers.{equality_turned}
use Rattle.lucid_tasks.specs.Numbered.{number_at, Rises, AreBelow, IsAt, IsGapFor}
use Rattle.lucid_tasks.proofs.Cases.{chosen}

module _ {X : Type 0} where
  -- no pair has the number
  none_has : (l : List (ℕ × X)) (n : ℕ) → ((d : ℕ × X) (j : ℕ) → j < length l → number_at d l j ≢ n) → value_at l n ≡ None
  none_has [] n none = refl
  none_has (x ∷ l) n none = (elim (x.0 == n) as (λ t. (x.0 == n) ≡ t → cond t (Some x.1) (value_at l n) ≡ None) [
    | true ↦ λ t. absurd (none x 0 (omega arith) (eqb-true x.0 n t))
    | false ↦ λ t. none_has l n (λ d j h. none d (suc j) (omega (arith, h)))
  ]) refl

  -- the first pair that has the number gives the value
  first_has : (l : List (ℕ × X)) (n i : ℕ) (d : ℕ × X) → i < length l → number_at d l i ≡ n → ((j : ℕ) → j < i → number_at d l j ≢ n)
      → value_at l n ≡ Some (get_or l i d).1
  first_has [] n i d h at none = absurd (omega (arith, h))
  first_has (x ∷ l) n zero d h at none = ap (λ t. cond t (Some x.1) (value_at l n)) (ap (λ m. m == n) at ∙ number_itself n)
  first_has (x ∷ l) n (suc i) d h at none = (elim (x.0 == n) as (λ t. (x.0 == n) ≡ t → cond t (Some x.1) (value_at l n) ≡ Some (get_or l i d).1) [
    | true ↦ λ t. absurd (none 0 (omega arith) (eqb-true x.0 n t))
    | false ↦ λ t. first_has l n i d (omega (arith, h)) at (λ j lt. none (suc j) (omega (arith, lt)))
  ]) refl

  -- a new pair before any pair that has the number
  has_inserted : (l : List (ℕ × X)) (n : ℕ) (v : X) (i : ℕ) (d : ℕ × X) → ((j : ℕ) → j < i → number_at d l j < n) → i ≤ length l → (q : ℕ)
      → value_at (insert l i (n, v)) q ≡ cond (q == n) (Some v) (value_at l q)
  has_inserted l n v zero d none h q = ap (λ t. cond t (Some v) (value_at l q)) (equality_turned n q)
  has_inserted [] n v (suc i) d none h q = absurd (omega (arith, h))
  has_inserted (x ∷ l) n v (suc i) d none h q =
      let less = none 0 (omega arith) in
      ap (cond (x.0 == q) (Some x.1)) (has_inserted l n v i d (λ j lt. none (suc j) (omega (arith, lt))) (omega (arith, h)) q)
      ∙ (elim (x.0 == q) as (λ t. (x.0 == q) ≡ t → cond t (Some x.1) (cond (q == n) (Some v) (value_at l q)) ≡ cond (q == n) (Some v)
      (cond t (Some x.1) (value_at l q))) [
        | true ↦ λ t. let same = eqb-true x.0 q t in ap (λ b. cond b (Some v) (Some x.1)) (sym (below_differs q n (omega (arith, less, same))))
        | false ↦ λ t. refl
      ]) refl

  -- the pair at a place taken out, where the numbers rise
  has_removed : (l : List (ℕ × X)) (n i : ℕ) (d : ℕ × X) → Rises l → i < length l → number_at d l i ≡ n → (q : ℕ)
      → value_at (remove l i) q ≡ cond (q == n) None (value_at l q)
  has_removed [] n i d up h at q = absurd (omega (arith, h))
  has_removed (x ∷ l) n zero d up h at q = (elim (q == n) as (λ t. (q == n) ≡ t → value_at l q ≡ cond t None (cond (x.0 == q) (Some x.1) (value_at l q))) [
    | true ↦ λ t. let same = eqb-true q n t in none_has l q
        (λ e j lt is. let above = up e 0 (suc j) (omega arith) (omega (arith, lt)) in omega (arith, above, is, same, at))
    | false ↦ λ t. ap (λ b. cond b (Some x.1) (value_at l q)) (sym (ap (λ m. m == q) at ∙ equality_turned n q ∙ t))
  ]) refl
  has_removed (x ∷ l) n (suc i) d up h at q =
      let less = up d 0 (suc i) (omega arith) h in
      ap (cond (x.0 == q) (Some x.1)) (has_removed l n i d (λ e a b lt in_range. up e (suc a) (suc b) (omega (arith, lt)) (omega (arith, in_range)))
      (omega (arith, h)) at q)
      ∙ (elim (x.0 == q) as (λ t. (x.0 == q) ≡ t → cond t (Some x.1) (cond (q == n) None (value_at l q)) ≡ cond (q == n) None
      (cond t (Some x.1) (value_at l q))) [
        | true ↦ λ t. let same = eqb-true x.0 q t in ap (λ b. cond b None (Some x.1)) (sym (below_differs q n (omega (arith, less, same, at))))
        | false ↦ λ t. refl
      ]) refl

  -- numbers that rise are at least their places
  at_least_place : (l : List (ℕ × X)) (d : ℕ × X) → Rises l → (i : ℕ) → i < length l → i ≤ number_at d l i
  at_least_place l d up zero h = omega arith
  at_least_place l d up (suc i) h =
      let lower : i < length l = omega (arith, h) in
      let before = at_least_place l d up i lower in
      let above = up d i (suc i) (omega arith) h in omega (arith, before, above)

  -- so there are no more of them than the bound
  pub no_more : (d : ℕ × X) (room : ℕ) (l : List (ℕ × X)) → Rises l → AreBelow room l → length l ≤ room
  no_more d room [] up below = omega arith
  no_more d room (x ∷ l) up below =
      let last : length l < length (x ∷ l) = omega arith in
      let place = at_least_place (x ∷ l) d up (length l) last in
      let low = below d (length l) last in omega (arith, place, low)

module _ {X : Type 0} (l : List (ℕ × X)) (d : ℕ × X) (up : Rises l) (n i : ℕ) (at : IsAt l n i) where
  pub value_there : value_at l n ≡ Some (get_or l i d).1
  value_there = first_has l n i d at.in_range (at.has d)
      (λ j lt is. let above = up d j i lt at.in_range in let here = at.has d in omega (arith, above, is, here))

  pub removed_sets : SetsOne (value_at l) (value_at (remove l i)) n None
  removed_sets = has_removed l n i d up at.in_range (at.has d)

  pub removed_rises : Rises (remove l i)
  removed_rises e a b lt in_range =
      let len = length-remove l i at.in_range in
      let key = λ (x : ℕ × X). x.0 in
      let below : (k : ℕ) → k < i → number_at e (remove l i) k ≡ number_at e l k = λ k h. ap key (get_or-remove_below l i e k h at.in_range) in
      let above : (k : ℕ) → i ≤ k → number_at e (remove l i) k ≡ number_at e l (k + 1) = λ k h. ap key (get_or-remove_above l i e k h at.in_range) in
      grind (arith, below a, below b, above a, above b, up e a b, up e a (b + 1), up e (a + 1) (b + 1))

  pub removed_below : (room : ℕ) → AreBelow room l → AreBelow room (remove l i)
  removed_below room low e a in_range =
      let len = length-remove l i at.in_range in
      let key = λ (x : ℕ × X). x.0 in
      let below : a < i → number_at e (remove l i) a ≡ number_at e l a = λ h. ap key (get_or-remove_below l i e a h at.in_range) in
      let above : i ≤ a → number_at e (remove l i) a ≡ number_at e l (a + 1) = λ h. ap key (get_or-remove_above l i e a h at.in_range) in
      grind (arith, below, above, low e a, low e (a + 1))

module _ {X : Type 0} (l : List (ℕ × X)) (n i : ℕ) (gap : IsGapFor l n i) where
  pub value_in_gap : value_at l n ≡ None
  value_in_gap = none_has l n (λ d j lt is. grind (arith, gap.smaller d j, gap.greater d j))

  module _ (v : X) where
    pub inserted_sets : SetsOne (value_at l) (value_at (insert l i (n, v))) n (Some v)
    inserted_sets = has_inserted l n v i (n, v) (λ j lt. gap.smaller (n, v) j lt) gap.in_range

    pub inserted_rises : Rises l → Rises (insert l i (n, v))
    inserted_rises up e a b lt in_range =
        let new = insert l i (n, v) in
        let len = length-insert l i (n, v) gap.in_range in
        let key = λ (x : ℕ × X). x.0 in
        let below : (k : ℕ) → k < i → number_at e new k ≡ number_at e l k = λ k h. ap key (get_or-insert_below l i (n, v) e k h gap.in_range) in
        let here : (k : ℕ) → k ≡ i → number_at e new k ≡ n = λ k h. rw h (ap key (get_or-insert_at l i (n, v) e gap.in_range)) in
        let above : (k : ℕ) → i < k → number_at e new k ≡ number_at e l (k - 1) =
        λ k h. subst (λ q. number_at e new q ≡ number_at e l (k - 1)) {x = k - 1 + 1} (omega arith)
        (ap key (get_or-insert_above l i (n, v) e (k - 1) (omega arith) gap.in_range)) in
        grind (
          arith,
          below a,
          here a,
          above a,
          below b,
          here b,
          above b,
          up e a b,
          up e a (b - 1),
          up e (a - 1) (b - 1),
          gap.smaller e a,
          gap.greater e
              (b - 1),
        )

    pub inserted_below : (room : ℕ) → AreBelow room l → n < room → AreBelow room (insert l i (n, v))
    inserted_below room low h e a in_range =
        let new = insert l i (n, v) in
        let len = length-insert l i (n, v) gap.in_range in
        let key = λ (x : ℕ × X). x.0 in
        let below : a < i → number_at e new a ≡ number_at e l a = λ h. ap key (get_or-insert_below l i (n, v) e a h gap.in_range) in
        let here : a ≡ i → number_at e new a ≡ n = λ h. rw h (ap key (get_or-insert_at l i (n, v) e gap.in_range)) in
        let above : i < a → number_at e new a ≡ number_at e l (a - 1) =
        λ h. subst (λ q. number_at e new q ≡ number_at e l (a - 1)) {x = a - 1 + 1} (omega arith)
        (ap key (get_or-insert_above l i (n, v) e (a - 1) (omega arith) gap.in_range)) in
        grind (arith, below, here, above, low e a, low e (a - 1))

    -- so there was room for it
    pub room_for : (room : ℕ) → Rises l → AreBelow room l → n < room → length l < room
    room_for room up low h =
        let len = length-insert l i (n, v) gap.in_range in
        let all = no_more (n, v) room (insert l i (n, v)) (inserted_rises up) (inserted_below room low h) in omega (arith, len, all)

-- ---- the search

module _ {X : Type 0} (l : List (ℕ × X)) (up : Rises l) (n : ℕ) where
  comparisons_rise : (d : ℕ × X) → IsNonDecreasingBy (λ (pair : ℕ × X). ordering_index (nat_cmp pair.0 n)) l
  comparisons_rise d = IsNonDecreasingBy-from_default (λ (pair : ℕ × X). ordering_index (nat_cmp pair.0 n)) l d (λ i j le in_range.
      let keys_rise : number_at d l i ≤ number_at d l j = grind (arith, up d i j, λ (same : i ≡ j). ap (number_at d l) same) in
      grind (arith, nat_tests))

  pub searched : (r : Result ℕ ℕ) → IsSearchInRange r (length l) → IsBinarySearchResult (λ (pair : ℕ × X). nat_cmp pair.0 n) l r
      → IfOk r (IsAt l n) × IfErr r (IsGapFor l n)
  searched (Ok at) in_range equal = (record { in_range = in_range; has = λ d. ranked _ n _ (sym (equal d)) }, tt)
  searched (Err at) in_range parted = (
    tt,
    record {
      in_range = in_range;
      smaller = λ d j lt. ranked _ n _ (sym ((parted (comparisons_rise d)).0 j d (omega arith) lt));
      greater = λ d j le lt. ranked _ n _ (sym ((parted (comparisons_rise d)).1 j d le lt));
    },
  )

-- ---- by the pool's own list

module _ {X : Type 0} (l items : List (ℕ × X)) (e : items ≡ l) (n i : ℕ) (up : Rises items) where
  pub found_value : (x : ℕ × X) → IsAt l n i → x ≡ get_or items i x → Some x.1 ≡ value_at l n
  found_value x at is = ap (λ (y : ℕ × X). Some y.1) (is ∙ ap (λ (xs : List (ℕ × X)). get_or xs i x) e) ∙ sym (value_there l x (subst Rises e up) n i at)

  pub found_removed : (d : ℕ × X) (left : List (ℕ × X)) → IsAt l n i → left ≡ remove items i → SetsOne (value_at l) (value_at left) n None
  found_removed d left at is = subst (λ xs. SetsOne (value_at l) (value_at xs) n None) (sym (is ∙ ap (λ (xs : List (ℕ × X)). remove xs i) e))
      (removed_sets l d (subst Rises e up) n i at)

  pub found_keeps : (d : ℕ × X) (room more : ℕ) (left : List (ℕ × X)) → IsAt l n i → AreBelow room items → more ≡ room → left ≡ remove items i
      → Rises left × AreBelow more left
  found_keeps d room more left at low same is =
      let there = subst (λ xs. IsAt xs n i) (sym e) at in
      let below = removed_below items d up n i there room low in
      subst (λ xs. Rises xs × AreBelow more xs) (sym is) (removed_rises items d up n i there, λ x a b. let under = below x a b in omega (arith, under, same))

  pub not_found : (d : ℕ × X) → IsAt l n i → value_at l n ≡ None → ⊥
  not_found d at none = none-some (get_or l i d).1 (sym none ∙ value_there l d (subst Rises e up) n i at)

  pub put_room : (v : X) (room : ℕ) → IsGapFor l n i → AreBelow room items → n < room → length items < room
  put_room v room gap low h = room_for items n i (subst (λ xs. IsGapFor xs n i) (sym e) gap) v room up low h

  pub put_sets : (v : X) (after : List (ℕ × X)) → IsGapFor l n i → after ≡ insert items i (n, v) → SetsOne (value_at l) (value_at after) n (Some v)
  put_sets v after gap is = subst (λ xs. SetsOne (value_at l) (value_at xs) n (Some v)) (sym (is ∙ ap (λ (xs : List (ℕ × X)). insert xs i (n, v)) e))
      (inserted_sets l n i gap v)

  pub put_keeps : (v : X) (room more : ℕ) (after : List (ℕ × X)) → IsGapFor l n i → AreBelow room items → n < room → room ≤ more → after ≡ insert items i (n, v)
      → Rises after × AreBelow more after
  put_keeps v room more after gap low h grows is =
      let there = subst (λ xs. IsGapFor xs n i) (sym e) gap in
      let below = inserted_below items n i there v room low h in
      subst (λ xs. Rises xs × AreBelow more xs) (sym is) (inserted_rises items n i there v up, λ d a b. let under = below d a b in omega (arith, under, grows))

pub unset : {X : Type 0} (l : List (ℕ × X)) (n : ℕ) → value_at l n ≡ None → SetsOne (value_at l) (value_at l) n None
unset l n none q = chosen q n (value_at l q) None (value_at l q) (λ e. ap (value_at l) e ∙ none) (λ _. refl)

-- no number from one on has a value where that would stand at the end
pub none_past : {X : Type 0} (l : List (ℕ × X)) (n : ℕ) → IsGapFor l n (length l) → (q : ℕ) → n ≤ q → value_at l q ≡ None
none_past l n gap q le = none_has l q (λ d j lt is. let below = gap.smaller d j lt in omega (arith, below, is, le))

-- a number between those of the last two pairs
pub between_last : {X : Type 0} (l items : List (ℕ × X)) → items ≡ l → Rises items → (n i j : ℕ) (a b : ℕ × X) → j ≡ i + 1 → j + 1 ≡ length items
    → a ≡ get_or items i a → b ≡ get_or items j b → a.0 < n → n < b.0 → IsGapFor l n j
between_last {X} l items e up n i j a b next len before last less more = subst (λ xs. IsGapFor xs n j) e (record {
  in_range = omega (arith, len);
  smaller = λ d k lt.
      let here : number_at d items i ≡ a.0 = ap (λ (x : ℕ × X). x.0) (get_or_default items i d a (omega (arith, len, next)) ∙ sym before) in
      grind (arith, less, here, up d k i, λ (same : k ≡ i). ap (number_at d items) same);
  greater = λ d k le lt.
      let here : number_at d items j ≡ b.0 = ap (λ (x : ℕ × X). x.0) (get_or_default items j d b (omega (arith, len)) ∙ sym last) in
      let same : k ≡ j = omega (arith, le, lt, len) in
      let there = ap (number_at d items) same in omega (arith, more, here, there);
})

at_place : {X : Type 0} (xs : List X) (i : ℕ) (x d : X) → Some x ≡ slice_get xs i → (i < length xs) × (get_or xs i d ≡ x)
at_place [] i x d e = absurd (cc)
at_place (y ∷ xs) zero x d e = let same : y ≡ x = cc in (omega arith, same)
at_place (y ∷ xs) (suc i) x d e = let rest = at_place xs i x d e in (omega (arith, rest.0), rest.1)

-- The last pair stands at the last place.
pub last_is_at : {X : Type 0} (l items xs : List (ℕ × X)) (n : ℕ) (pair : ℕ × X) → xs ≡ items → items ≡ l → Some pair ≡ slice_get xs (length xs - 1)
    → pair.0 ≡ n → IsAt l n (length l - 1)
last_is_at {X} l items xs n pair same is e has =
    subst (λ (ys : List (ℕ × X)). IsAt ys n (length ys - 1)) (same ∙ is) (record {
      in_range = (at_place xs (length xs - 1) pair pair e).0;
      has = λ d. ap (λ (p : ℕ × X). p.0) ((at_place xs (length xs - 1) pair d e).1) ∙ has;
    })
