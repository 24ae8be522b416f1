-- What a block's names mean solves its equations, is continuous, and lies in each other solution.
use Rattle.lucid_fixed_point.proofs.Common.{List, with_arguments, ℕ, zero, suc, Option, PlainDefs, Elements, Env, empty, scope, args, Streams, Meanings, iterate, least, MeaningsWithin, PointsWithin, MeaningsApproached, IsChainOfMeanings, IsContinuous, equations, meanings}
use Rattle.lucid_fixed_point.proofs.Chains.{union-near, link-within, union-is-continuous, within-itself, near-itself}
use Rattle.lucid_fixed_point.proofs.Monotone.{equations-grow, with_arguments-within}
use Rattle.lucid_fixed_point.proofs.Continuous.{equations-near, iterates-near, with_arguments-near}

-- The iterates of a monotone step.
module _ (f : Meanings → Meanings) (grows : (x y : Meanings) → MeaningsWithin x y → MeaningsWithin (f x) (f y)) where
  pub iterate-chain : IsChainOfMeanings (iterate f)
  iterate-chain zero = record { streams = λ n t s v d. absurd d; maps = λ n a b h t s v d. absurd d }
  iterate-chain (suc k) = grows (iterate f k) (iterate f (suc k)) (iterate-chain k)

  pub iterate-monotone : (k : ℕ) → MeaningsWithin (iterate f k) (iterate f k)
  iterate-monotone zero = record { streams = λ n t s v d. absurd d; maps = λ n a b h t s v d. absurd d }
  iterate-monotone (suc k) = grows (iterate f k) (iterate f k) (iterate-monotone k)

  -- what some one of them has lies in each solution
  module _ (q : Meanings) (solution : PointsWithin (f q) q) where
    iterate-within : (k : ℕ) → MeaningsWithin (iterate f k) q
    iterate-within zero = record { streams = λ n t s v d. absurd d; maps = λ n a b h t s v d. absurd d }
    iterate-within (suc k) =
        let h = grows (iterate f k) q (iterate-within k) in record {
          streams = λ n t s v d. solution.streams n t s v (h.streams n t s v d);
          maps = λ n a b l t s v d. solution.maps n b t s v (h.maps n a b l t s v d);
        }

    pub least-lies : MeaningsWithin (least f) q
    least-lies =
        record {
          streams = λ n t s v d. (iterate-within d.0).streams n t s v d.1;
          maps = λ n a b l t s v d. (iterate-within d.0).maps n a b l t s v d.1;
        }

    pub least-below : PointsWithin (least f) q
    least-below = record { streams = least-lies.streams; maps = λ n a t s v d. least-lies.maps n a a (λ i t s v e. e) t s v d }

  -- The iterates of a step that is continuous too, and their union.
  module _ (near : (x : ℕ → Meanings) (y : Meanings) → IsChainOfMeanings x → MeaningsApproached x y → MeaningsApproached (λ k. f (x k)) (f y)) where
    pub iterate-continuous : (k : ℕ) → IsContinuous (iterate f k)
    iterate-continuous k = record { monotone = (iterate-monotone k).maps; continuous = (iterates-near (λ j. f) f (λ j. grows) near k).maps }

    pub least-is-continuous : IsContinuous (least f)
    least-is-continuous = union-is-continuous (iterate f) iterate-chain iterate-continuous

    pub least-solved : PointsWithin (f (least f)) (least f)
    least-solved =
        let h = near (iterate f) (least f) iterate-chain (union-near (iterate f) iterate-chain iterate-continuous) in record {
          streams = λ n t s v d. let o = h.streams n t s v d in (suc o.0, o.1);
          maps = λ n a t s v d. let o = h.maps n (λ k. a) a (λ k i t s v d. d) (λ i t s v d. (0, d)) t s v d in (suc o.0, o.1);
        }

    in-step : (k : ℕ) → MeaningsWithin (iterate f k) (f (least f))
    in-step zero = record { streams = λ n t s v d. absurd d; maps = λ n a b h t s v d. absurd d }
    in-step (suc k) = grows (iterate f k) (least f) (link-within (iterate f) iterate-chain iterate-continuous k)

    pub least-solves : PointsWithin (least f) (f (least f))
    least-solves =
        record {
          streams = λ n t s v d. (in-step d.0).streams n t s v d.1;
          maps = λ n a t s v d. (in-step d.0).maps n a a (λ i t s v d. d) t s v d.1;
        }

module _ (ds : PlainDefs) (z : Option ℕ) (r : Meanings) (h : IsContinuous r) where
  step-grows : (x y : Meanings) → MeaningsWithin x y → MeaningsWithin (equations ds z r x) (equations ds z r y)
  step-grows x y k = equations-grow ds z r r (within-itself r h.monotone) x y k

  step-near : (x : ℕ → Meanings) (y : Meanings) → IsChainOfMeanings x → MeaningsApproached x y
      → MeaningsApproached (λ k. equations ds z r (x k)) (equations ds z r y)
  step-near x y up k = equations-near ds z (λ j. r) r (λ j. within-itself r h.monotone) (near-itself r h) x y up k

  pub block-solves : PointsWithin (least (equations ds z r)) (equations ds z r (least (equations ds z r)))
  block-solves = least-solves (equations ds z r) step-grows step-near

  pub block-solved : PointsWithin (equations ds z r (least (equations ds z r))) (least (equations ds z r))
  block-solved = least-solved (equations ds z r) step-grows step-near

  pub step-iterates-are-continuous : (k : ℕ) → IsContinuous (iterate (equations ds z r) k)
  step-iterates-are-continuous = iterate-continuous (equations ds z r) step-grows step-near

  pub scope-is-continuous : IsContinuous (least (equations ds z r))
  scope-is-continuous = least-is-continuous (equations ds z r) step-grows step-near

pub arguments-are-continuous : (ns : List (List ℕ)) (a : Streams) (r : Meanings) → IsContinuous r → IsContinuous (with_arguments ns a r)
arguments-are-continuous ns a r h =
    record {
      monotone = (with_arguments-within ns a a r r (λ i t s v d. d) (within-itself r h.monotone)).maps;
      continuous = (with_arguments-near ns (λ k. a) a (λ k. r) r (λ i t s v d. (0, d)) (near-itself r h)).maps;
    }

pub meanings-are-continuous : (b : Elements) (env : Env) → IsContinuous (meanings b env)
meanings-are-continuous b empty =
    record {
      monotone = λ n x y l t s v d. absurd d;
      continuous = λ n x y up l t s v d. absurd d;
    }
meanings-are-continuous b (scope ds z rest) = scope-is-continuous ds z (meanings b rest) (meanings-are-continuous b rest)
meanings-are-continuous b (args ns ats es caller rest) =
    arguments-are-continuous ns _ (meanings b rest) (meanings-are-continuous b rest)
