-- A search over `next X` and `next P` is the search over X and P one time later.
use Rattle.lucid_tree.proofs.Common.{◌≡◌, ℕ, zero, suc, ◌+◌, ◌≤◌, ◌<◌, [], Option, Some, None, refl, sym, subst, ◌∙◌, arith, PlainValue, truth, Plan, gives_part, single, by_test, at_zero, find_true, count_true, last, Reader, add_value, with_values, run}
use Rattle.std.proofs.Common.{true, false}
use Rattle.lucid_tree.proofs.Plans.{Keeps}
use Rattle.lucid_tree.proofs.Undone.{alone}

-- what one look at a test gives, with two ways on
abbrev pub tested : Option PlainValue → (on off : Plan) → Reader (Option PlainValue) → Option PlainValue
tested o a b r = with_values (add_value o (Some [])) None (λ vs. run (single (λ v. by_test v a b) vs) r)

-- the same test, with ways on that give the same
pub tested-same : (o : Option PlainValue) (a b a' b' : Plan) (r r' : Reader (Option PlainValue)) → run a r ≡ run a' r' → run b r ≡ run b' r'
    → tested o a b r ≡ tested o a' b' r'
tested-same (Some (truth true)) a b a' b' r r' h k = h
tested-same (Some (truth false)) a b a' b' r r' h k = k
tested-same _ a b a' b' r r' h k = refl

-- a test that keeps its value, with ways on that keep theirs
test-keeps : (v : PlainValue) (a b a' b' : Plan) (r r' : Reader (Option PlainValue)) → Keeps (run a r) (run a' r') → Keeps (run b r) (run b' r')
    → Keeps (run (by_test v a b) r) (run (by_test v a' b') r')
test-keeps (truth true) a b a' b' r r' h k x e = h x e
test-keeps (truth false) a b a' b' r r' h k x e = k x e
test-keeps _ a b a' b' r r' h k x e = e

pub tested-keeps : (o o' : Option PlainValue) (a b a' b' : Plan) (r r' : Reader (Option PlainValue)) → Keeps o o' → Keeps (run a r) (run a' r')
    → Keeps (run b r) (run b' r') → Keeps (tested o a b r) (tested o' a' b' r')
tested-keeps None o' a b a' b' r r' g h k x e = absurd (grind arith)
tested-keeps (Some v) o' a b a' b' r r' g h k x e = rw (g v refl) (test-keeps v a b a' b' r r' h k x e)

-- where the second reader has at each time what the first has one time later
module _ (r r' : Reader (Option PlainValue)) (h : (i j s : ℕ) → j < last → r' i j s ≡ r i (suc j) s) where
  part_shift : (j s : ℕ) → j < last → run (gives_part 0 j s) r' ≡ run (gives_part 0 (suc j) s) r
  part_shift j s l = alone (r' 0 j s) r' ∙ h 0 j s l ∙ sym (alone (r 0 (suc j) s) r)

  at_zero_shift : (n j s : ℕ) (f f' : ℕ → Plan) → j < last → ((k : ℕ) → run (f k) r' ≡ run (f' k) r)
      → run (at_zero n (gives_part 0 j s) f) r' ≡ run (at_zero n (gives_part 0 (suc j) s) f') r
  at_zero_shift zero j s f f' l g = part_shift j s l
  at_zero_shift (suc n) j s f f' l g = g n

  pub find_shift : (left j n s : ℕ) → left + j ≤ last → run (find_true left j n s) r' ≡ run (find_true left (suc j) n s) r
  find_shift zero j n s l = refl
  find_shift (suc left) j n s l =
      rw (h 1 j s (omega arith)) (tested-same (r 1 (suc j) s) _ _ _ _ r' r
      (at_zero_shift n j s (λ k. find_true left (suc j) k s) (λ k. find_true left (suc (suc j)) k s) (omega arith)
      (λ k. find_shift left (suc j) k s (omega arith))) (find_shift left (suc j) n s (omega arith)))

-- where the second reader has as its test at each time what the first has one time later, and as what is counted to a number what
-- the first has at the number that goes with it
module _ (r r' : Reader (Option PlainValue)) (with : ℕ → ℕ) (steps : (n : ℕ) → with (suc n) ≡ suc (with n))
    (test : (j s : ℕ) → j < last → r' 1 j s ≡ r 1 (suc j) s) (value : (n s : ℕ) → n < last → r' 0 n s ≡ r 0 (with n) s) where
  pub count_shift : (left j n s l l' : ℕ) → left + j ≤ last → left + n < last → run (count_true left j n s l) r' ≡ run (count_true left (suc j) (with n) s l') r
  count_shift zero j n s l l' a b = alone (r' 0 n s) r' ∙ value n s (omega (arith, b)) ∙ sym (alone (r 0 (with n) s) r)
  count_shift (suc left) j n s l l' a b =
      let one_more : run (count_true left (suc j) (suc n) s l) r' ≡ run (count_true left (suc (suc j)) (with (suc n)) s l') r =
      count_shift left (suc j) (suc n) s l l' (omega (arith, a)) (omega (arith, b)) in
      rw (test j s (omega (arith, a))) (tested-same (r 1 (suc j) s) (count_true left (suc j) (suc n) s l) (count_true left (suc j) n s l)
      (count_true left (suc (suc j)) (suc (with n)) s l') (count_true left (suc (suc j)) (with n) s l') r' r
      (subst (λ k. run (count_true left (suc j) (suc n) s l) r' ≡ run (count_true left (suc (suc j)) k s l') r) (steps n) one_more)
      (count_shift left (suc j) n s l l' (omega (arith, a)) (omega (arith, b))))
