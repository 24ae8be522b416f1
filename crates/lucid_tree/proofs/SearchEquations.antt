-- The equations of `whenever` and `upon`, unfolded by one time.
use Rattle.lucid_tree.proofs.Common.{◌≡◌, ℕ, zero, suc, ◌+◌, ◌≤◌, ◌<◌, Option, None, refl, sym, ap, ◌∙◌, nat_le, if◌then◌else◌, arith, nat_tests, PlainValue, PlainTree, no_trees, tree, first_of, next_of, fby_of, whenever_of, Plan, nothing, gives_part, at_zero, find_true, count_true, last, Reader, run, Elements, nothing_held, below, Env, value, part_at, val}
use Rattle.std.proofs.Common.{true, false}
use Rattle.lucid_tree.specs.Tree.{upon_of, if_of}
use Rattle.lucid_tree.specs.Laws.{whenever_unfolded, upon_unfolded, WheneverEquation, UponEquation}
use Rattle.lucid_tree.proofs.Plans.{Keeps, run-keeps, find-grows, within_itself}
use Rattle.lucid_tree.proofs.LevelGrowth.{below-grows}
use Rattle.lucid_tree.proofs.Growth.{part_at-grows, value-grows, val-up}
use Rattle.lucid_tree.proofs.Undone.{alone, first_is, next_is}
use Rattle.lucid_tree.proofs.Shifts.{tested, tested-same, tested-keeps, find_shift, count_shift}

module _ (b : Elements) (env : Env) (x p : PlainTree) where
  -- the parts of a search
  abbrev pub here : ℕ → Reader (Option PlainValue)
  here m i u r = part_at m (below value (nothing_held b) m) (tree x (tree p no_trees)) env i u r

  -- one more in the limit
  here-grows : (m i u r : ℕ) → Keeps (here m i u r) (here (suc m) i u r)
  here-grows m i u r = part_at-grows m (below value (nothing_held b) m) (below value (nothing_held b) (suc m))
      (below-grows value value-grows (nothing_held b) m) (tree x (tree p no_trees)) env i u r

  module _ (at : ℕ → ℕ) where
    -- the parts of the search over `next X` and `next P`
    abbrev pub there : (j k : ℕ) → ℕ → Reader (Option PlainValue)
    there j k m i u r = part_at m (below value (nothing_held b) m) (tree (next_of j x) (tree (next_of k p) no_trees)) env i u r

    moved : (j k m i u s : ℕ) → u < last → there j k m i u s ≡ here m i (suc u) s
    moved j k m zero u s l = next_is b env m j u s x l
    moved j k m (suc zero) u s l = next_is b env m k u s p l
    moved j k m (suc (suc i)) u s l = refl

    abbrev rest : (i j k : ℕ) → PlainTree
    rest i j k = whenever_of i (next_of j x) (next_of k p)

    -- the parts of the right side
    abbrev of_right : ℕ → Reader (Option PlainValue)
    of_right m i u r = part_at m (below value (nothing_held b) m)
        (tree (first_of (at 1) p) (tree (fby_of (at 2) x (rest (at 3) (at 4) (at 5))) (tree (rest (at 6) (at 7) (at 8)) no_trees))) env i u r

    later : (i j k m u s : ℕ) → m ≤ last → val b m (rest i j k) env u s ≡ run (find_true m 1 u s) (here m)
    later i j k m u s l = find_shift (here m) (there j k m) (moved j k m) m 0 u s (omega arith)

    grown : (n u s : ℕ) → Keeps (run (find_true n 1 u s) (here (suc n))) (run (find_true (suc n) 1 u s) (here (suc n)))
    grown n u s = run-keeps (find-grows n 1 u s) (here (suc n)) (here (suc n)) (λ i t r y e. e)

    to_rest : (i j k n u s : ℕ) → suc n ≤ last → Keeps (run (find_true n 1 u s) (here (suc n))) (val b (suc n) (rest i j k) env u s)
    to_rest i j k n u s l y e = later i j k (suc n) u s l ∙ grown n u s y e

    if_true : (k t s : ℕ) → suc k ≤ last → Keeps (run (at_zero t (gives_part 0 0 s) (λ n. find_true k 1 n s)) (here (suc k)))
        (run (gives_part 1 t s) (of_right (suc k)))
    if_true k zero s l y e =
        alone (of_right (suc k) 1 0 s) (of_right (suc k)) ∙ alone (val b (suc k) x env 0 s) _ ∙ sym (alone (val b (suc k) x env 0 s) (here (suc k))) ∙ e
    if_true k (suc u) s l y e =
        alone (of_right (suc k) 1 (suc u) s) (of_right (suc k)) ∙ alone (val b (suc k) (rest (at 3) (at 4) (at 5)) env u s) _
        ∙ to_rest (at 3) (at 4) (at 5) k u s l y e

    if_false : (k t s : ℕ) → suc k ≤ last → Keeps (run (find_true k 1 t s) (here (suc k))) (run (gives_part 2 t s) (of_right (suc k)))
    if_false k t s l y e = alone (val b (suc k) (rest (at 6) (at 7) (at 8)) env t s) (of_right (suc k)) ∙ to_rest (at 6) (at 7) (at 8) k t s l y e

    same_test : (i m t s : ℕ) → Keeps (val b m p env 0 s) (val b m (first_of i p) env t s)
    same_test i m t s y e = first_is b env m i t s p ∙ e

    -- what `whenever` has, its right side has
    whenever-right : (i m t s : ℕ) → m ≤ last → Keeps (val b m (whenever_of i x p) env t s) (val b m (whenever_unfolded at x p) env t s)
    whenever-right i zero t s l y e = absurd (grind arith)
    whenever-right i (suc k) t s l y e =
        tested-keeps (val b (suc k) p env 0 s) (val b (suc k) (first_of (at 1) p) env t s) (at_zero t (gives_part 0 0 s) (λ n. find_true k 1 n s))
        (find_true k 1 t s) (gives_part 1 t s) (gives_part 2 t s) (here (suc k)) (of_right (suc k)) (same_test (at 1) (suc k) t s) (if_true k t s l)
        (if_false k t s l) y e

    from_rest : (i j k m u s : ℕ) → m ≤ last → Keeps (val b m (rest i j k) env u s) (run (find_true m 1 u s) (here (suc m)))
    from_rest i j k m u s l y e =
        run-keeps (within_itself (find_true m 1 u s)) (here m) (here (suc m)) (here-grows m) y (sym (later i j k m u s l) ∙ e)

    then_true : (m t s : ℕ) → m ≤ last → Keeps (run (gives_part 1 t s) (of_right m))
        (run (at_zero t (gives_part 0 0 s) (λ n. find_true m 1 n s)) (here (suc m)))
    then_true m zero s l y e =
        alone (val b (suc m) x env 0 s) (here (suc m)) ∙ here-grows m 0 0 s y (sym (alone (of_right m 1 0 s) (of_right m) ∙ alone (val b m x env 0 s) _) ∙ e)
    then_true m (suc u) s l y e =
        from_rest (at 3) (at 4) (at 5) m u s l y (sym (alone (of_right m 1 (suc u) s) (of_right m) ∙ alone (val b m (rest (at 3) (at 4) (at 5)) env u s) _) ∙ e)

    then_false : (m t s : ℕ) → m ≤ last → Keeps (run (gives_part 2 t s) (of_right m)) (run (find_true m 1 t s) (here (suc m)))
    then_false m t s l y e = from_rest (at 6) (at 7) (at 8) m t s l y (sym (alone (val b m (rest (at 6) (at 7) (at 8)) env t s) (of_right m)) ∙ e)

    -- what the right side has, `whenever` has at one more
    right-whenever : (i m t s : ℕ) → m ≤ last → Keeps (val b m (whenever_unfolded at x p) env t s) (val b (suc m) (whenever_of i x p) env t s)
    right-whenever i m t s l y e =
        tested-keeps (val b m (first_of (at 1) p) env t s) (val b (suc m) p env 0 s) (gives_part 1 t s) (gives_part 2 t s)
        (at_zero t (gives_part 0 0 s) (λ n. find_true m 1 n s)) (find_true m 1 t s) (of_right m) (here (suc m))
        (λ z d. here-grows m 1 0 s z (sym (first_is b env m (at 1) t s p) ∙ d)) (then_true m t s l) (then_false m t s l) y e

    -- the parts of the search over X and `next P`
    abbrev halfway : (k : ℕ) → ℕ → Reader (Option PlainValue)
    halfway k m i u r = part_at m (below value (nothing_held b) m) (tree x (tree (next_of k p) no_trees)) env i u r

    -- the parts of the right side behind `fby`
    abbrev of_choice : ℕ → Reader (Option PlainValue)
    of_choice m i u r = part_at m (below value (nothing_held b) m)
        (tree (first_of (at 2) p) (tree (upon_of (at 3) (next_of (at 4) x) (next_of (at 5) p)) (tree (upon_of (at 6) x (next_of (at 7) p)) no_trees))) env i u r

    in_reach : (t m : ℕ) (a : Plan) (r : Reader (Option PlainValue)) → t ≤ m → run (if nat_le t m then a else nothing) r ≡ run a r
    in_reach t m a r h = let e : nat_le t m ≡ true = grind (arith, nat_tests) in rw e refl

    -- past a true value both streams go on, past a false one the test alone
    past_true : (m u s l : ℕ) → u ≤ m → u < last → run (count_true u 1 1 s l) (here m) ≡ run (gives_part 1 u s) (of_choice m)
    past_true m u s l h g =
        sym (count_shift (here m) (there (at 4) (at 5) m) suc (λ n. refl) (λ j r k. moved (at 4) (at 5) m 1 j r k) (λ n r k. moved (at 4) (at 5) m 0 n r k) u 0
        0 s u l (omega (arith, g)) (omega (arith, g)))
        ∙ sym (in_reach u m (count_true u 0 0 s u) (there (at 4) (at 5) m) h)
        ∙ sym (alone (val b m (upon_of (at 3) (next_of (at 4) x) (next_of (at 5) p)) env u s) (of_choice m))

    past_false : (m u s l : ℕ) → u ≤ m → u < last → run (count_true u 1 0 s l) (here m) ≡ run (gives_part 2 u s) (of_choice m)
    past_false m u s l h g =
        sym (count_shift (here m) (halfway (at 7) m) (λ n. n) (λ n. refl) (λ j r k. next_is b env m (at 7) j r p k) (λ n r k. refl) u 0 0 s u l
        (omega (arith, g)) (omega (arith, g)))
        ∙ sym (in_reach u m (count_true u 0 0 s u) (halfway (at 7) m) h)
        ∙ sym (alone (val b m (upon_of (at 6) x (next_of (at 7) p)) env u s) (of_choice m))

    -- where the limit is at least the time, both sides are the same
    pub upon-same : (i m t s : ℕ) → t ≤ m → t ≤ last → val b m (upon_of i x p) env t s ≡ val b m (upon_unfolded at x p) env t s
    upon-same i m zero s h l = in_reach 0 m (count_true 0 0 0 s 0) (here m) h ∙ alone (val b m x env 0 s) (here m) ∙ sym (alone (val b m x env 0 s) _)
    upon-same i m (suc u) s h l =
        in_reach (suc u) m (count_true (suc u) 0 0 s (suc u)) (here m) h
        ∙ ap (λ o. tested o (count_true u 1 1 s (suc u)) (count_true u 1 0 s (suc u)) (here m)) (sym (first_is b env m (at 2) u s p))
        ∙ tested-same (val b m (first_of (at 2) p) env u s) (count_true u 1 1 s (suc u)) (count_true u 1 0 s (suc u)) (gives_part 1 u s) (gives_part 2 u s)
        (here m) (of_choice m) (past_true m u s (suc u) (omega (arith, h)) (omega (arith, l)))
        (past_false m u s (suc u) (omega (arith, h)) (omega (arith, l)))
        ∙ sym
        (alone (val b m (if_of (at 1) (first_of (at 2) p) (upon_of (at 3) (next_of (at 4) x) (next_of (at 5) p)) (upon_of (at 6) x (next_of (at 7) p))) env
        u s) _)

-- an advance is undefined below its time
too_early : (t m : ℕ) (a : Plan) (r : Reader (Option PlainValue)) → m < t → run (if nat_le t m then a else nothing) r ≡ None
too_early t m a r h = let e : nat_le t m ≡ false = grind (arith, nat_tests) in rw e refl

pub whenever-equation : WheneverEquation
whenever-equation b x p env i at = record {
  to_right = λ m t s v l e. whenever-right b env x p at i m t s l v e;
  to_left = λ m t s v l e. val-up b (suc m) (m + 1) (omega arith) (whenever_of i x p) env t s v (right-whenever b env x p at i m t s l v e);
}

pub upon-equation : UponEquation
upon-equation b x p env i at = record {
  same = λ m t s h l. upon-same b env x p at i m t s h l;
  undefined_before = λ m t s h. too_early t m (count_true t 0 0 s t) (here b env x p m) h;
}
