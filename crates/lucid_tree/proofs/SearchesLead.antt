-- True values counted below a time lead a search there along its plan, also where the time lies past the plan's last look.
use Rattle.lucid_tree.proofs.Common.{◌≡◌, ℕ, zero, suc, ◌<◌, ◌≤◌, ◌⊎◌, inl, inr, [], ◌∷◌, Option, Some, None, refl, sym, ap, ◌∙◌, subst, nat_le, if◌then◌else◌, arith, PlainValue, truth, Head, whenever, asa, upon, Look, Plan, nothing, plan, find_true, count_true, LeadsTo, at_start, and_then, ◌-◌, cases_lt}
use Rattle.std.specs.Prelude.{Bool, true, false}
use Rattle.lucid_tree.specs.Rests.{count_on, count_below, rest_at, CanStandAt}
use Rattle.lucid_tree.proofs.Plans.{Keeps}

-- how a count that goes on went on: the value was a truth
pub record CountedOn (o : Option ℕ) (v : Option PlainValue) (n : ℕ) : Type 0 where
  pub before : ℕ
  pub truth_is : Bool
  pub had : o ≡ Some before
  pub value : v ≡ Some (truth truth_is)
  pub now : ((truth_is ≡ true) × (n ≡ suc before)) ⊎ ((truth_is ≡ false) × (n ≡ before))

pub counted_on : (o : Option ℕ) (v : Option PlainValue) (n : ℕ) → count_on o v ≡ Some n → CountedOn o v n
counted_on None v n e = absurd (cc)
counted_on (Some k) (Some (truth true)) n e = record {
  before = k;
  truth_is = true;
  had = refl;
  value = refl;
  now = inl (refl, let x : suc k ≡ n = cc in sym x);
}
counted_on (Some k) (Some (truth false)) n e = record { before = k; truth_is = false; had = refl; value = refl; now = inr (refl, let x : k ≡ n = cc in sym x) }
counted_on (Some k) _ n e = absurd (cc)

-- a count stays where the stream has more values
pub count-keeps : (f g : ℕ → Option PlainValue) → ((u : ℕ) → Keeps (f u) (g u)) → (j : ℕ) → Keeps (count_below f j) (count_below g j)
count-keeps f g h zero n e = e
count-keeps f g h (suc j) n e =
    let c = counted_on (count_below f j) (f j) n e in
    rw (count-keeps f g h j c.before c.had, h j (truth c.truth_is) c.value)
    (sym (ap (λ o. count_on o (f j)) c.had ∙ ap (λ o. count_on (Some c.before) o) c.value) ∙ e)

-- all that was counted are truths
pub counted_truth : (f : ℕ → Option PlainValue) (j n : ℕ) → count_below f j ≡ Some n → (u : ℕ) → u < j → (b : Bool) × (f u ≡ Some (truth b))
counted_truth f zero n e u lt = absurd (omega (arith, lt))
counted_truth f (suc j) n e u lt =
    let c = counted_on (count_below f j) (f j) n e in
    elim (cases_lt u j) [
      | inl l ↦ counted_truth f j c.before c.had u l
      | inr l ↦ (c.truth_is, subst (λ k. f k ≡ Some (truth c.truth_is)) (let z : j ≡ u = omega (arith, l, lt) in z) c.value)
    ]

-- a look at the test of a search
abbrev pub test_look : (time space least : ℕ) → Look
test_look u s l = record { part = 1; time = u; space = s; least = l }

-- each truth of the stream below a time answers the look at it
abbrev pub Answered : (Look → PlainValue → Type 0) → (stream : ℕ → Option PlainValue) → (least : ℕ → ℕ) → (space time : ℕ) → Type 0
Answered M f l s j = (u : ℕ) (b : Bool) → u < j → f u ≡ Some (truth b) → M (test_look u s (l u)) (truth b)

module _ (M : Look → PlainValue → Type 0) (f : ℕ → Option PlainValue) (m t s : ℕ) where
  -- the search of m for the true value number t stands at the time j with n true values below it
  abbrev pub StandsAt : (j n : ℕ) → Type 0
  StandsAt j n = LeadsTo M (find_true m 0 t s) (find_true (m - j) j (t - n) s)

  on_true : (j n : ℕ) → j < m → suc n ≤ t → M (test_look j s (suc j)) (truth true) → StandsAt j n → StandsAt (suc j) (suc n)
  on_true j n lt le h a =
      let left : m - j ≡ suc (m - suc j) = omega (arith, lt) in
      let more : t - n ≡ suc (t - suc n) = omega (arith, le) in
      and_then (truth true ∷ []) (subst (λ q. LeadsTo M (find_true m 0 t s) (find_true (suc (m - suc j)) j q s)) more
      (subst (λ q. LeadsTo M (find_true m 0 t s) (find_true q j (t - n) s)) left a)) (h, tt)

  on_false : (j n : ℕ) → j < m → M (test_look j s (suc j)) (truth false) → StandsAt j n → StandsAt (suc j) n
  on_false j n lt h a =
      let left : m - j ≡ suc (m - suc j) = omega (arith, lt) in
      and_then (truth false ∷ []) (subst (λ q. LeadsTo M (find_true m 0 t s) (find_true q j (t - n) s)) left a) (h, tt)

  -- past the last look nothing changes
  past : (j k n : ℕ) → m ≤ j → StandsAt j k → StandsAt (suc j) n
  past j k n le a =
      let here : m - j ≡ 0 = omega (arith, le) in
      let there : 0 ≡ m - suc j = omega (arith, le) in
      subst (λ q. LeadsTo M (find_true m 0 t s) (find_true q (suc j) (t - n) s)) there
      (subst (λ q. LeadsTo M (find_true m 0 t s) (find_true q j (t - k) s)) here a)

  on_by : (j k n : ℕ) (b : Bool) → n ≤ t → M (test_look j s (suc j)) (truth b) → ((b ≡ true) × (n ≡ suc k)) ⊎ ((b ≡ false) × (n ≡ k)) → StandsAt j k
      → (j < m) ⊎ (m ≤ j) → StandsAt (suc j) n
  on_by j k n b le h c a (inr g) = past j k n g a
  on_by j k n b le h (inl e) a (inl g) =
      subst (λ q. StandsAt (suc j) q) (sym e.1)
      (on_true j k g (omega (arith, le, e.1)) (subst (λ q. M (test_look j s (suc j)) (truth q)) e.0 h) a)
  on_by j k n b le h (inr e) a (inl g) =
      subst (λ q. StandsAt (suc j) q) (sym e.1)
      (on_false j k g (subst (λ q. M (test_look j s (suc j)) (truth q)) e.0 h) a)

  fewer_trues : (b : Bool) (n k : ℕ) → ((b ≡ true) × (n ≡ suc k)) ⊎ ((b ≡ false) × (n ≡ k)) → n ≤ t → k ≤ t
  fewer_trues b n k (inl e) le = omega (arith, le, e.1)
  fewer_trues b n k (inr e) le = omega (arith, le, e.1)

  -- a counted time is reached, whatever the limit
  pub finding_leads : (j n : ℕ) → Answered M f suc s j → count_below f j ≡ Some n → n ≤ t → StandsAt j n
  finding_leads zero n h e le =
      let none : 0 ≡ n = cc in
      let whole : m ≡ m - 0 = omega arith in
      let all : t ≡ t - n = omega (arith, none) in
      subst (λ q. LeadsTo M (find_true m 0 t s) (find_true q 0 (t - n) s)) whole (subst (λ q. LeadsTo M (find_true m 0 t s) (find_true m 0 q s)) all at_start)
  finding_leads (suc j) n h e le =
      let c = counted_on (count_below f j) (f j) n e in
      on_by j c.before n c.truth_is le (h j c.truth_is (omega arith) c.value) c.now
      (finding_leads j c.before (λ u b l. h u b (omega (arith, l))) c.had (fewer_trues c.truth_is n c.before c.now le)) (cases_lt j m)

module _ (M : Look → PlainValue → Type 0) (f : ℕ → Option PlainValue) (t s l : ℕ) where
  -- the count up to the time t stands at the time j with n true values below it
  abbrev pub CountsAt : (j n : ℕ) → Type 0
  CountsAt j n = LeadsTo M (count_true t 0 0 s l) (count_true (t - j) j n s l)

  count_by : (j k n : ℕ) (b : Bool) → j < t → M (test_look j s l) (truth b) → ((b ≡ true) × (n ≡ suc k)) ⊎ ((b ≡ false) × (n ≡ k)) → CountsAt j k
      → CountsAt (suc j) n
  count_by j k n b lt h (inl e) a =
      let left : t - j ≡ suc (t - suc j) = omega (arith, lt) in
      subst (λ q. CountsAt (suc j) q) (sym e.1) (and_then (truth true ∷ []) (subst (λ q. LeadsTo M (count_true t 0 0 s l) (count_true q j k s l)) left a)
      (subst (λ q. M (test_look j s l) (truth q)) e.0 h, tt))
  count_by j k n b lt h (inr e) a =
      let left : t - j ≡ suc (t - suc j) = omega (arith, lt) in
      subst (λ q. CountsAt (suc j) q) (sym e.1) (and_then (truth false ∷ []) (subst (λ q. LeadsTo M (count_true t 0 0 s l) (count_true q j k s l)) left a)
      (subst (λ q. M (test_look j s l) (truth q)) e.0 h, tt))

  -- a counted time up to t is reached
  pub counting_leads : (j n : ℕ) → Answered M f (λ u. l) s j → count_below f j ≡ Some n → j ≤ t → CountsAt j n
  counting_leads zero n h e le =
      let none : 0 ≡ n = cc in
      let whole : t ≡ t - 0 = omega arith in
      subst (λ q. LeadsTo M (count_true t 0 0 s l) (count_true (t - 0) 0 q s l)) none
      (subst (λ q. LeadsTo M (count_true t 0 0 s l) (count_true q 0 0 s l)) whole at_start)
  counting_leads (suc j) n h e le =
      let c = counted_on (count_below f j) (f j) n e in
      count_by j c.before n c.truth_is (omega (arith, le)) (h j c.truth_is (omega arith) c.value) c.now
      (counting_leads j c.before (λ u b g. h u b (omega (arith, g))) c.had (omega (arith, le)))

-- the least limit that takes a search's look at a time
abbrev pub least_of : Head → (time : ℕ) → ℕ → ℕ
least_of upon t u = t
least_of f t u = suc u

either_way : (M : Look → PlainValue → Type 0) (b : Bool) (p q : Plan) → LeadsTo M p q → LeadsTo M (if b then p else nothing) (if b then q else nothing)
either_way M true p q a = a
either_way M false p q a = at_start

-- A search stands at a counted time after looks that were answered.
pub search_leads : (M : Look → PlainValue → Type 0) (stream : ℕ → Option PlainValue) (f : Head) (m j n t s : ℕ) → Answered M stream (least_of f t) s j
    → CanStandAt f j n t → count_below stream j ≡ Some n → LeadsTo M (plan m f t s) (rest_at f m j n t s)
search_leads M stream whenever m j n t s h c e = finding_leads M stream m t s j n h e c
search_leads M stream asa m j n t s h c e = finding_leads M stream m 0 s j n h e (omega (arith, c))
search_leads M stream upon m j n t s h c e = either_way M (nat_le t m) (count_true t 0 0 s t) (count_true (t - j) j n s t)
    (counting_leads M stream t s t j n h e c)
search_leads M stream _ m j n t s h c e = at_start

less_none : (n : ℕ) → n - 0 ≡ n
less_none n = omega arith

-- a search that has not begun stands at its plan
pub rest_at_start : (f : Head) (m t s : ℕ) → rest_at f m 0 0 t s ≡ plan m f t s
rest_at_start whenever m t s = ap (λ a. find_true a 0 (t - 0) s) (less_none m) ∙ ap (λ n. find_true m 0 n s) (less_none t)
rest_at_start asa m t s = ap (λ a. find_true a 0 (0 - 0) s) (less_none m) ∙ ap (λ n. find_true m 0 n s) (less_none 0)
rest_at_start upon m t s = ap (λ a. if nat_le t m then count_true a 0 0 s t else nothing) (less_none t)
rest_at_start _ m t s = refl
