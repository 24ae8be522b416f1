-- Sums of delays along edges, and potentials.
use Rattle.lucid_cycles.proofs.Common.{◌≡◌, ◌≢◌, ℕ, zero, suc, ◌+◌, ◌<◌, ◌≤◌, List, [], ◌∷◌, length, refl, ap, arith, ℤ, pos, negsuc, ◌+ℤ◌, ◌*ℤ◌, ◌≤ℤ◌, ◌<ℤ◌, All, ints, Edge, factor_of, edge, first_or, total, potential, Falls, ArePotentials}
use lib.IntN.{zero-*ℤ, suc_ℤ-*ℤ}
use Rattle.lucid_cycles.specs.Cycles.{Leads, EveryCycleDelays}
use Rattle.lucid_cycles.proofs.Lists.{all-in}

-- a times the delay
abbrev pub by : ℕ → ℤ → ℤ
by a w = pos a *ℤ w

pub by-sum : (a : ℕ) (v w : ℤ) → by a (v +ℤ w) ≡ by a v +ℤ by a w
by-sum zero v w = let e = zero-*ℤ (v +ℤ w) in let f = zero-*ℤ v in let g = zero-*ℤ w in omega (arith, ints, e, f, g)
by-sum (suc a) v w =
    let e = suc_ℤ-*ℤ (pos a) (v +ℤ w) in
    let f = suc_ℤ-*ℤ (pos a) v in
    let g = suc_ℤ-*ℤ (pos a) w in
    let h = by-sum a v w in
    omega (arith, ints, e, f, g, h)

pub by-none : (a : ℕ) → by a (pos 0) ≡ pos 0
by-none a = ap pos (omega arith)

step-sum : (z n f x : ℕ) (w t s : ℤ) → s ≡ w +ℤ t → pos (z + n) ≤ℤ (pos f +ℤ t) → pos (f + 1) ≤ℤ (pos x +ℤ w) → pos (z + (suc n)) ≤ℤ (pos x +ℤ s)
step-sum z n f x w t s e h g = omega (arith, ints)

-- potentials fall along edges that lead on
pub leads-fall : (g : List Edge) (a : ℕ) (p : List ℕ) → All (Falls a p) g → (xs : List ℕ) (ws : List ℤ) (z : ℕ) → Leads g xs ws z
    → pos (potential p z + length xs) ≤ℤ (pos (potential p (first_or z xs)) +ℤ by a (total ws))
leads-fall g a p f [] [] z h = let e = by-none a in omega (arith, ints, e)
leads-fall g a p f [] (w ∷ ws) z h = absurd h
leads-fall g a p f (x ∷ xs) [] z h = absurd h
leads-fall g a p f (x ∷ xs) (w ∷ ws) z h =
    step-sum (potential p z) (length xs) (potential p (first_or z xs)) (potential p x) (by a w) (by a (total ws)) (by a (w +ℤ total ws)) (by-sum a w (total ws))
    (leads-fall g a p f xs ws z h.1) (all-in (Falls a p) (edge x (first_or z xs) w) g h.0 f)

positive : (a n : ℕ) (w : ℤ) → 0 < n → pos n ≤ℤ by a w → pos 0 <ℤ w
positive a n (pos zero) h g = absurd (omega (arith, ints, g))
positive a n (pos (suc v)) h g = omega (arith, ints)
positive a n (negsuc v) h g = absurd (omega (arith, ints, g))

cancel : (x n : ℕ) (t : ℤ) → pos (x + n) ≤ℤ (pos x +ℤ t) → pos n ≤ℤ t
cancel x n t h = omega (arith, ints)

cycle-delays : (g : List Edge) (a : ℕ) (p : List ℕ) → All (Falls a p) g → (xs : List ℕ) (ws : List ℤ) → xs ≢ [] → Leads g xs ws (first_or 0 xs)
    → pos 0 <ℤ total ws
cycle-delays g a p f [] ws h l = absurd (h refl)
cycle-delays g a p f (x ∷ xs) ws h l =
    positive a (suc (length xs)) (total ws) (omega arith) (cancel (potential p x) (suc (length xs)) (by a (total ws)) (leads-fall g a p f (x ∷ xs) ws x l))

-- where there are potentials, every cycle has a sum of at least 1
pub potentials-delay : (g : List Edge) (n : ℕ) (p : List ℕ) → ArePotentials g n p → EveryCycleDelays g
potentials-delay g n p h xs ws c = cycle-delays g (factor_of n) p h.fall xs ws c.some c.leads

-- a sum that the factor makes less than the number of the names is at most 0
pub not-positive : (a n : ℕ) (w : ℤ) → by a w <ℤ pos n → n ≤ a → w ≤ℤ pos 0
not-positive a n (pos zero) h g = omega (arith, ints)
not-positive a n (pos (suc v)) h g = absurd (omega (arith, ints, h))
not-positive a n (negsuc v) h g = omega (arith, ints)
