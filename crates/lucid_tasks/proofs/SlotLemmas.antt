-- Lists of slots that rise.
use Rattle.lucid_tasks.proofs.Common.{◌≡◌, ℕ, zero, suc, ◌<◌, ◌≤◌, ◌-◌, Bool, true, false, cond, ◌==◌, List, [], ◌∷◌, ◌++◌, length, get_or, Some, refl, ap, sym, subst, ◌∙◌, arith, true≢false, nat_tests, none-some, eqb-true, number_itself, below_differs, above_differs, is_listed, RiseFrom, ◌||◌}
use Rattle.std.specs.Prelude.{slice_get, insert, remove}
use Rattle.lucid_tasks.proofs.EndLemmas.{end_of}
use Rattle.lucid_tasks.proofs.Cases.{chosen, some_is}

-- what is listed is at least the bound
pub none_below : (low : ℕ) (xs : List ℕ) (q : ℕ) → RiseFrom low xs → q < low → is_listed xs q ≡ false
none_below low [] q r h = refl
none_below low (s ∷ xs) q r h =
    let above : q < s = omega (arith, r.0) in
    let above_next : q < suc s = omega (arith, r.0) in
    ap (λ b. b || is_listed xs q) (above_differs s q above) ∙ none_below (suc s) xs q r.1 above_next

pub at_least : (low : ℕ) (xs : List ℕ) (j : ℕ) → RiseFrom low xs → j < length xs → low ≤ get_or xs j 0
at_least low [] j r h = absurd (omega (arith, h))
at_least low (x ∷ xs) zero r h = r.0
at_least low (x ∷ xs) (suc j) r h =
    let shorter : j < length xs = omega (arith, h) in
    let rest = at_least (suc x) xs j r.1 shorter in omega (arith, r.0, rest)

pub rise_sorted : (low : ℕ) (xs : List ℕ) → RiseFrom low xs → (i j : ℕ) → i ≤ j → j < length xs → get_or xs i 0 ≤ get_or xs j 0
rise_sorted low [] r i j h l = absurd (omega (arith, l))
rise_sorted low (x ∷ xs) r zero zero h l = omega arith
rise_sorted low (x ∷ xs) r zero (suc j) h l =
    let shorter : j < length xs = omega (arith, l) in
    let rest = at_least (suc x) xs j r.1 shorter in omega (arith, rest)
rise_sorted low (x ∷ xs) r (suc i) zero h l = absurd (omega (arith, h))
rise_sorted low (x ∷ xs) r (suc i) (suc j) h l = rise_sorted (suc x) xs r.1 i j (omega (arith, h)) (omega (arith, l))

pub rise_strict : (low : ℕ) (xs : List ℕ) → RiseFrom low xs → (i j : ℕ) → i < j → j < length xs → get_or xs i 0 < get_or xs j 0
rise_strict low [] r i j h l = absurd (omega (arith, l))
rise_strict low (x ∷ xs) r i zero h l = absurd (omega (arith, h))
rise_strict low (x ∷ xs) r zero (suc j) h l =
    let shorter : j < length xs = omega (arith, l) in
    let rest = at_least (suc x) xs j r.1 shorter in omega (arith, rest)
rise_strict low (x ∷ xs) r (suc i) (suc j) h l = rise_strict (suc x) xs r.1 i j (omega (arith, h)) (omega (arith, l))

pub rise_weaken : (low high : ℕ) (xs : List ℕ) → low ≤ high → RiseFrom high xs → RiseFrom low xs
rise_weaken low high [] h r = tt
rise_weaken low high (x ∷ xs) h r = (omega (arith, h, r.0), r.1)

-- ---- a slot that is taken out

pub rise_remove : (low : ℕ) (xs : List ℕ) (i : ℕ) → RiseFrom low xs → RiseFrom low (remove xs i)
rise_remove low [] zero r = tt
rise_remove low [] (suc i) r = tt
rise_remove low (x ∷ xs) zero r = let h : low ≤ suc x = omega (arith, r.0) in rise_weaken low (suc x) xs h r.1
rise_remove low (x ∷ xs) (suc i) r = (r.0, rise_remove (suc x) xs i r.1)

pub place_above : (low : ℕ) (xs : List ℕ) (i s : ℕ) → RiseFrom low xs → slice_get xs i ≡ Some s → low ≤ s
place_above low [] i s r e = absurd (none-some s e)
place_above low (x ∷ xs) zero s r e = let same : x ≡ s = some_is 0 x s e in omega (arith, r.0, same)
place_above low (x ∷ xs) (suc i) s r e = let rest = place_above (suc x) xs i s r.1 e in omega (arith, r.0, rest)

pub place_below : (xs : List ℕ) (i s : ℕ) → slice_get xs i ≡ Some s → i < length xs
place_below [] i s e = absurd (none-some s e)
place_below (x ∷ xs) zero s e = omega arith
place_below (x ∷ xs) (suc i) s e = let rest = place_below xs i s e in omega (arith, rest)

or_false : (b c : Bool) → b ≡ false → c ≡ b || c
or_false b c e = sym (ap (λ t. t || c) e)

or_cond : (b c t : Bool) → (t ≡ true → b ≡ false) → b || cond t false c ≡ cond t false (b || c)
or_cond b c true h = ap (λ x. x || false) (h refl)
or_cond b c false h = refl

pub listed_remove : (low : ℕ) (xs : List ℕ) (i s : ℕ) → RiseFrom low xs → slice_get xs i ≡ Some s
    → (q : ℕ) → is_listed (remove xs i) q ≡ cond (q == s) false (is_listed xs q)
listed_remove low [] i s r e q = absurd (none-some s e)
listed_remove low (x ∷ xs) zero s r e q =
    let same : x ≡ s = some_is 0 x s e in
    chosen q s (is_listed xs q) false (is_listed (x ∷ xs) q)
    (λ is. none_below (suc x) xs q r.1 (let h : q < suc x = omega (arith, same, is) in h))
    (λ other. or_false (x == q) (is_listed xs q) ((elim (x == q) as (λ t. (x == q) ≡ t → t ≡ false) [
      | true ↦ λ t. absurd (other (sym (eqb-true x q t) ∙ same))
      | false ↦ λ t. refl
    ]) refl))
listed_remove low (x ∷ xs) (suc i) s r e q =
    let above = place_above (suc x) xs i s r.1 e in
    ap (λ b. (x == q) || b) (listed_remove (suc x) xs i s r.1 e q)
    ∙ or_cond (x == q) (is_listed xs q) (q == s) (λ t. let is = eqb-true q s t in below_differs x q (let h : x < q = omega (arith, above, is) in h))

-- ---- a slot that is put in

or_true : (b t c : Bool) → b || cond t true c ≡ cond t true (b || c)
or_true true true c = refl
or_true true false c = refl
or_true false true c = refl
or_true false false c = refl

turned : (s q : ℕ) (c : Bool) → (s == q) || c ≡ cond (q == s) true c
turned s q c = chosen q s ((s == q) || c) true c
    (λ is. ap (λ b. b || c) (ap (λ n. s == n) is ∙ number_itself s))
    (λ other. (elim (s == q) as (λ t. (s == q) ≡ t → t || c ≡ c) [
      | true ↦ λ t. absurd (other (sym (eqb-true s q t)))
      | false ↦ λ t. refl
    ]) refl)

pub listed_insert : (xs : List ℕ) (i s q : ℕ) → is_listed (insert xs i s) q ≡ cond (q == s) true (is_listed xs q)
listed_insert xs zero s q = turned s q (is_listed xs q)
listed_insert [] (suc i) s q = turned s q false
listed_insert (x ∷ xs) (suc i) s q = ap (λ b. (x == q) || b) (listed_insert xs i s q) ∙ or_true (x == q) (q == s) (is_listed xs q)

or_first : (b c : Bool) → b || c ≡ false → b ≡ false
or_first true c h = cc
or_first false c h = refl

strictly : (s x : ℕ) → (x == s) ≡ false → s ≤ x → suc s ≤ x
strictly s x ne h = grind (arith, nat_tests)

pub rise_insert : (low : ℕ) (xs : List ℕ) (i s : ℕ) → RiseFrom low xs → low ≤ s → is_listed xs s ≡ false
    → ((k : ℕ) → k < i → get_or xs k 0 < s) → ((k : ℕ) → i ≤ k → k < length xs → s ≤ get_or xs k 0) → i ≤ length xs → RiseFrom low (insert xs i s)
rise_insert low [] zero s r l absent below from h = (l, tt)
rise_insert low [] (suc i) s r l absent below from h = absurd (omega (arith, h))
rise_insert low (x ∷ xs) zero s r l absent below from h =
    let at_most : s ≤ x = from 0 (omega arith) (omega arith) in
    (l, (strictly s x (or_first (x == s) (is_listed xs s) absent) at_most, r.1))
rise_insert low (x ∷ xs) (suc i) s r l absent below from h =
    let head : x < s = below 0 (omega arith) in
    let next : suc x ≤ s = omega (arith, head) in
    let rest : is_listed xs s ≡ false = or_false (x == s) (is_listed xs s) (below_differs x s head) ∙ absent in (
      r.0,
      rise_insert (suc x) xs i s r.1 next rest
          (λ k m. below (suc k) (omega (arith, m)))
          (λ k m n. from (suc k) (omega (arith, m)) (omega (arith, n)))
          (omega (arith, h)),
    )

-- ---- a slot past all others, at the end

pub listed_push : (xs : List ℕ) (s q : ℕ) → is_listed (xs ++ s ∷ []) q ≡ cond (q == s) true (is_listed xs q)
listed_push [] s q = turned s q false
listed_push (x ∷ xs) s q = ap (λ b. (x == q) || b) (listed_push xs s q) ∙ or_true (x == q) (q == s) (is_listed xs q)

or_second : (b c : Bool) → c ≡ true → b || c ≡ true
or_second true c h = refl
or_second false c h = h

pub rise_push : (low : ℕ) (xs : List ℕ) (s : ℕ) → RiseFrom low xs → low ≤ s → ((q : ℕ) → is_listed xs q ≡ true → q < s) → RiseFrom low (xs ++ s ∷ [])
rise_push low [] s r l below = (l, tt)
rise_push low (x ∷ xs) s r l below =
    let head : x < s = below x (ap (λ b. b || is_listed xs x) (number_itself x)) in
    (r.0, rise_push (suc x) xs s r.1 (omega (arith, head)) (λ q h. below q (or_second (x == q) (is_listed xs q) h)))

-- ---- the place of a slot

-- the place before which all is below a slot, and from which nothing is, is that of the slot, if it is listed
pub place_is : (low : ℕ) (xs : List ℕ) (i s : ℕ) → RiseFrom low xs → is_listed xs s ≡ true
    → ((k : ℕ) → k < i → get_or xs k 0 < s) → ((k : ℕ) → i ≤ k → k < length xs → s ≤ get_or xs k 0) → slice_get xs i ≡ Some s
place_is low [] i s r h below from = absurd (true≢false (sym h))
place_is low (x ∷ xs) zero s r h below from =
    let at_most : s ≤ x = from 0 (omega arith) (omega arith) in
    let next : s < suc x = omega (arith, at_most) in
    (elim (x == s) as (λ t. (x == s) ≡ t → Some x ≡ Some s) [
      | true ↦ λ t. ap Some (eqb-true x s t)
      | false ↦ λ t. absurd (true≢false (sym h ∙ ap (λ b. b || is_listed xs s) t ∙ none_below (suc x) xs s r.1 next))
    ]) refl
place_is low (x ∷ xs) (suc i) s r h below from =
    let head : x < s = below 0 (omega arith) in
    place_is (suc x) xs i s r.1 (or_false (x == s) (is_listed xs s) (below_differs x s head) ∙ h)
    (λ k m. below (suc k) (omega (arith, m)))
    (λ k m n. from (suc k) (omega (arith, m)) (omega (arith, n)))

-- ---- what is listed

pub some_listed : (xs : List ℕ) (q : ℕ) → is_listed xs q ≡ true → 0 < length xs
some_listed [] q h = absurd (true≢false (sym h))
some_listed (x ∷ xs) q h = omega arith

-- the same, by a list that is equal
pub place_in : (xs items : List ℕ) (i s : ℕ) → xs ≡ items → RiseFrom 0 items → is_listed items s ≡ true
    → ((k : ℕ) → k < i → get_or xs k 0 < s) → ((k : ℕ) → i ≤ k → k < length xs → s ≤ get_or xs k 0) → slice_get items i ≡ Some s
place_in xs items i s e r l below from =
    place_is 0 items i s r l (subst (λ ys. (k : ℕ) → k < i → get_or ys k 0 < s) e below)
    (subst (λ ys. (k : ℕ) → i ≤ k → k < length ys → s ≤ get_or ys k 0) e from)

pub insert_in : (xs items : List ℕ) (i s : ℕ) → xs ≡ items → RiseFrom 0 items → is_listed items s ≡ false
    → ((k : ℕ) → k < i → get_or xs k 0 < s) → ((k : ℕ) → i ≤ k → k < length xs → s ≤ get_or xs k 0) → i ≤ length xs → RiseFrom 0 (insert items i s)
insert_in xs items i s e r l below from h =
    rise_insert 0 items i s r (omega arith) l (subst (λ ys. (k : ℕ) → k < i → get_or ys k 0 < s) e below)
    (subst (λ ys. (k : ℕ) → i ≤ k → k < length ys → s ≤ get_or ys k 0) e from) (subst (λ ys. i ≤ length ys) e h)

-- ---- by the last slot

last_is : (xs : List ℕ) (i x : ℕ) → Some x ≡ slice_get xs i → (i < length xs) × (get_or xs i 0 ≡ x)
last_is [] i x e = absurd (none-some x (sym e))
last_is (y ∷ xs) zero x e = (omega arith, some_is 0 y x (sym e))
last_is (y ∷ xs) (suc i) x e = let rest = last_is xs i x e in (omega (arith, rest.0), rest.1)

pub below_last : (xs : List ℕ) (s x : ℕ) → RiseFrom 0 xs → Some x ≡ slice_get xs (length xs - 1) → x < s → (k : ℕ) → k < length xs → get_or xs k 0 < s
below_last xs s x r e h k l =
    let last = last_is xs (length xs - 1) x e in
    let up = rise_sorted 0 xs r k (length xs - 1) (omega (arith, l)) last.0 in omega (arith, up, last.1, h)

pub below_before_last : (xs : List ℕ) (s x : ℕ) → RiseFrom 0 xs → Some x ≡ slice_get xs (length xs - 1) → x ≡ s → (k : ℕ) → k < length xs - 1
    → get_or xs k 0 < s
below_before_last xs s x r e h k l =
    let last = last_is xs (length xs - 1) x e in
    let up = rise_strict 0 xs r k (length xs - 1) l last.0 in omega (arith, up, last.1, h)

-- The last slot stands at the last place.
pub last_there : (xs items : List ℕ) (s x : ℕ) → xs ≡ items → Some x ≡ slice_get xs (length xs - 1) → x ≡ s
    → (0 < length items) × (slice_get items (length items - 1) ≡ Some s)
last_there xs items s x same e is =
    let there = last_is xs (length xs - 1) x e in
    subst (λ (ys : List ℕ). (0 < length ys) × (slice_get ys (length ys - 1) ≡ Some s)) same (omega (arith, there.0), sym e ∙ ap Some is)

-- A slot past the last one is put at the end.
pub pushed_past : (xs items after : List ℕ) (s x : ℕ) → xs ≡ items → RiseFrom 0 items → is_listed items s ≡ false → Some x ≡ slice_get xs (length xs - 1)
    → x < s → after ≡ items ++ s ∷ []
    → RiseFrom 0 after
pushed_past xs items after s x same r absent e less is =
    let last = subst (λ (ys : List ℕ). Some x ≡ slice_get ys (length ys - 1)) same e in
    subst (λ (ys : List ℕ). RiseFrom 0 ys) (sym (end_of items after s (length items) refl is))
    (rise_insert 0 items (length items) s r (omega arith) absent (λ k h. below_last items s x r last less k h) (λ k h l. absurd (omega (arith, h, l)))
    (omega arith))
