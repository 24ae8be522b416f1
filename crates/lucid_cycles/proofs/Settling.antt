-- Levels of potentials as they are made, and how high they are.
use Rattle.lucid_cycles.proofs.Common.{◌≡◌, ℕ, zero, suc, ◌+◌, ◌*◌, ◌<◌, ◌≤◌, List, [], ◌∷◌, ◌++◌, length, get_or, ◌⊎◌, inl, inr, Vec, refl, sym, ap, subst, ◌∙◌, arith, length-append, append_assoc, add-one, ℤ, pos, negsuc, ◌+ℤ◌, ◌*ℤ◌, ◌≤ℤ◌, Global, All, ints, get_or_past, map-append, length-replicate, mul-le-mul_left, Edge, factor_of, IsLeastEnough, potential, Falls, ArePotentials, IsSmall, IsDue, IsRound, AreLevels, AreLeastAdded, levels_of, replicate}
use Rattle.lucid_cycles.specs.Rounds.{IsStep}
use Rattle.lucid_cycles.proofs.Sums.{potentials-delay}
use Rattle.lucid_cycles.proofs.Levels.{Below, round-below, settled}
use Rattle.lucid_cycles.proofs.Lists.{all-in}

-- the levels with a last one are levels; the last one is below all potentials, and not high
pub record Settling (g : List Edge) (factor names : ℕ) (levels : List (Vec ℕ Global)) (last : List ℕ) : Type 0 where
  pub each : length last ≡ names
  pub few : length levels ≤ names + 1
  pub made : AreLevels g factor names (levels_of levels ++ last ∷ [])
  pub below : (q : List ℕ) → All (Falls factor q) g → Below last q
  pub low : (x : ℕ) → potential last x ≤ length levels * 70368744177664

zero-at : (n x : ℕ) → potential (replicate n 0) x ≡ 0
zero-at zero x = get_or_past [] x 0 (omega arith)
zero-at (suc n) zero = refl
zero-at (suc n) (suc x) = zero-at n x

pub settling-start : (g : List Edge) (a n : ℕ) (p : List ℕ) → p ≡ replicate n 0 → Settling g a n [] p
settling-start g a n p e = record {
  each = ap length e ∙ length-replicate n 0;
  few = omega arith;
  made = record { starts = e; steps = λ k h. absurd (omega (arith, h)) };
  below = λ q f x. omega (arith, ap (λ l. potential l x) e, zero-at n x);
  low = λ x. omega (arith, ap (λ l. potential l x) e, zero-at n x);
}

-- a step of a list of levels with one more
at-last : (ls : List (List ℕ)) (p q : List ℕ) (k : ℕ) → k ≡ length ls → (get_or (ls ++ p ∷ q ∷ []) k [] ≡ p) × (get_or (ls ++ p ∷ q ∷ []) (suc k) [] ≡ q)
at-last [] p q zero h = (refl, refl)
at-last [] p q (suc k) h = absurd (omega (arith, h))
at-last (l ∷ ls) p q zero h = absurd (omega (arith, h))
at-last (l ∷ ls) p q (suc k) h = at-last ls p q k (omega (arith, h))

before-last : (ls : List (List ℕ)) (p q : List ℕ) (k : ℕ) → k < length ls + 1 → get_or (ls ++ p ∷ q ∷ []) k [] ≡ get_or (ls ++ p ∷ []) k []
before-last [] p q zero h = refl
before-last [] p q (suc k) h = absurd (omega (arith, h))
before-last (l ∷ ls) p q zero h = refl
before-last (l ∷ ls) p q (suc k) h = before-last ls p q k (omega (arith, h))

step-at : (g : List Edge) (a n : ℕ) (ls : List (List ℕ)) (p q : List ℕ) → AreLevels g a n (ls ++ p ∷ []) → IsStep g a p q → (k : ℕ)
    → k + 1 < length (ls ++ p ∷ q ∷ []) → (k + 1 < length ls + 1) ⊎ (k + 1 ≡ length ls + 1)
    → IsStep g a (get_or (ls ++ p ∷ q ∷ []) k []) (get_or (ls ++ p ∷ q ∷ []) (k + 1) [])
step-at g a n ls p q l s k h (inl i) =
    subst (λ y. IsStep g a y (get_or (ls ++ p ∷ q ∷ []) (k + 1) [])) (sym (before-last ls p q k (omega (arith, i))))
    (subst (IsStep g a (get_or (ls ++ p ∷ []) k [])) (sym (before-last ls p q (k + 1) i)) (l.steps k (omega (arith, i, length-append ls (p ∷ [])))))
step-at g a n ls p q l s k h (inr e) =
    let r = at-last ls p q k (omega (arith, e)) in
    subst (λ y. IsStep g a y (get_or (ls ++ p ∷ q ∷ []) (k + 1) [])) (sym r.0)
    (subst (IsStep g a p) (sym (ap (λ j. get_or (ls ++ p ∷ q ∷ []) j []) (add-one k) ∙ r.1)) s)

below-or-at : (k n : ℕ) → k + 1 < n + 2 → (k + 1 < n + 1) ⊎ (k + 1 ≡ n + 1)
below-or-at zero zero h = inr (omega arith)
below-or-at zero (suc n) h = inl (omega arith)
below-or-at (suc k) zero h = absurd (omega (arith, h))
below-or-at (suc k) (suc n) h = elim (below-or-at k n (omega (arith, h))) [ inl i ↦ inl (omega (arith, i)) | inr e ↦ inr (omega (arith, e)) ]

starts-first : (ls : List (List ℕ)) (p q : List ℕ) → get_or (ls ++ p ∷ q ∷ []) 0 [] ≡ get_or (ls ++ p ∷ []) 0 []
starts-first [] p q = refl
starts-first (l ∷ ls) p q = refl

levels-more : (g : List Edge) (a n : ℕ) (ls : List (List ℕ)) (p q : List ℕ) → AreLevels g a n (ls ++ p ∷ []) → IsStep g a p q
    → AreLevels g a n (ls ++ p ∷ q ∷ [])
levels-more g a n ls p q l s = record {
  starts = starts-first ls p q ∙ l.starts;
  steps = λ k h. step-at g a n ls p q l s k h (below-or-at k (length ls) (omega (arith, h, length-append ls (p ∷ q ∷ []))));
}

-- how high a round makes potentials
rise-up : (a y x v : ℕ) → a ≤ 2000 → v ≤ 4294967296 → pos (y + 1) ≡ pos x +ℤ (pos a *ℤ pos v) → x ≤ y + 70368744177664
rise-up a y x v h f e = omega (arith, ints, e)

rise-down : (a y x v : ℕ) → a ≤ 2000 → suc v ≤ 4294967296 → pos (y + 1) ≡ pos x +ℤ (pos a *ℤ negsuc v) → x ≤ y + 70368744177664
rise-down a y x v h f e =
    let m : a * suc v ≤ a * 4294967296 = mul-le-mul_left a f in
    let q : a * 4294967296 ≤ 2000 * 4294967296 = omega (arith, h) in
    omega (arith, ints, e, m, q)

rise : (a y x : ℕ) (w : ℤ) → a ≤ 2000 → w ≤ℤ pos 4294967296 → pos 0 ≤ℤ (w +ℤ pos 4294967296) → pos (y + 1) ≡ pos x +ℤ (pos a *ℤ w) → x ≤ y + 70368744177664
rise a y x (pos v) h f l e = rise-up a y x v h (omega (arith, ints, f)) e
rise a y x (negsuc v) h f l e = rise-down a y x v h (omega (arith, ints, l)) e

rise-or : (g : List Edge) (a n : ℕ) (p : List ℕ) (k x q : ℕ) → a ≤ 2000 → All (IsSmall n) g → ((y : ℕ) → potential p y ≤ k * 70368744177664)
    → (q ≡ potential p x) ⊎ IsDue g a p x q → q ≤ (k + 1) * 70368744177664
rise-or g a n p k x q h s l (inl e) = omega (arith, e, l x)
rise-or g a n p k x q h s l (inr d) =
    let small = all-in (IsSmall n) _ g d.stands s in
    let r : q ≤ potential p d.to + 70368744177664 = rise a (potential p d.to) q d.delay h small.high small.low d.is in
    omega (arith, r, l d.to)

pub settling-more : (g : List Edge) (a n : ℕ) (levels levels' : List (Vec ℕ Global)) (last next : List ℕ) (v : Vec ℕ Global) (name : ℕ) → a ≤ 2000
    → All (IsSmall n) g → v.items ≡ last → levels' ≡ levels ++ v ∷ [] → length levels ≤ n
    → Settling g a n levels last → IsRound g a last next → potential last name < potential next name → Settling g a n levels' next
settling-more g a n levels levels' last next v name h small e m f s r rises =
    let many : length levels' ≡ length levels + 1 = ap length m ∙ length-append levels (v ∷ []) in
    let same : levels_of levels' ++ next ∷ [] ≡ levels_of levels ++ last ∷ next ∷ [] =
    ap (λ l. levels_of l ++ next ∷ []) m ∙ ap (λ l. l ++ next ∷ []) (map-append (λ (x : Vec ℕ Global). x.items) levels (v ∷ []))
    ∙ append_assoc (levels_of levels) (v.items ∷ []) (next ∷ [])
    ∙ ap (λ l. levels_of levels ++ l ∷ next ∷ []) e in
    record {
      each = r.same ∙ s.each;
      few = omega (arith, many, f);
      made = subst (AreLevels g a n) (sym same) (levels-more g a n (levels_of levels) last next s.made (record { round = r; name = name; rises = rises }));
      below = λ q l. round-below g a last next q r l (s.below q l);
      low = λ x. subst (λ k. potential next x ≤ k * 70368744177664) (sym many)
          (rise-or g a n last (length levels) x (potential next x) h small s.low (r.due x));
    }

pub made-levels : (g : List Edge) (a n : ℕ) (levels levels' : List (Vec ℕ Global)) (last : List ℕ) (v : Vec ℕ Global) → Settling g a n levels last
    → v.items ≡ last → levels' ≡ levels ++ v ∷ [] → AreLevels g a n (levels_of levels')
made-levels g a n levels levels' last v s e m =
    subst (AreLevels g a n) (sym (ap levels_of m ∙ map-append (λ (x : Vec ℕ Global). x.items) levels (v ∷ []) ∙ ap (λ l. levels_of levels ++ l ∷ []) e)) s.made

pub low-enough : (k n x : ℕ) → k ≤ n + 1 → n ≤ 2000 → x ≤ k * 70368744177664 → x ≤ 4611686018427387904
low-enough k n x h f l = omega (arith, h, f, l)

-- where nothing rises, it is the judgment
pub settled-enough : (g : List Edge) (a n add : ℕ) (levels : List (Vec ℕ Global)) (last next : List ℕ) → a ≡ factor_of n → Settling g a n levels last
    → IsRound g a last next → Below next last → AreLeastAdded a last add g
    → IsLeastEnough g n a add last
settled-enough g a n add levels last next e s r h d =
    let falls : All (Falls (factor_of n) last) g = subst (λ f. All (Falls f last) g) e (settled g a last next r h) in
    let are : ArePotentials g n last = record { each = s.each; fall = falls } in
    let added : AreLeastAdded (factor_of n) last add g = subst (λ f. AreLeastAdded f last add g) e d in
    record {
      delays = potentials-delay g n last are;
      factor_is = e;
      potentials = record { are = are; least = λ q p. s.below q (subst (λ f. All (Falls f q) g) (sym e) p.fall) };
      added = record {
        enough = record { two = added.enough.two; adds = added.enough.adds };
        least = λ c p. added.least c (record { two = p.two; adds = p.adds });
      };
    }

pub settling-begins : (g : List Edge) (a n : ℕ) (levels : List (Vec ℕ Global)) (p : List ℕ) → levels ≡ [] → p ≡ replicate n 0 → Settling g a n levels p
settling-begins g a n levels p e f = subst (λ x. Settling g a n x p) (sym e) (settling-start g a n p f)

pub small-for : (g : List Edge) (a n : ℕ) (levels : List (Vec ℕ Global)) (last now : List ℕ) → Settling g a n levels last → now ≡ last → All (IsSmall n) g
    → All (IsSmall (length now)) g
small-for g a n levels last now s e h = subst (λ k. All (IsSmall k) g) (sym (ap length e ∙ s.each)) h

pub low-for : (g : List Edge) (a n : ℕ) (levels : List (Vec ℕ Global)) (last now : List ℕ) → Settling g a n levels last → now ≡ last → n ≤ 2000 → (x : ℕ)
    → potential now x ≤ 4611686018427387904
low-for g a n levels last now s e h x =
    let q : potential now x ≡ potential last x = ap (λ l. potential l x) e in
    let r = low-enough (length levels) n (potential last x) s.few h (s.low x) in
    omega (arith, q, r)
