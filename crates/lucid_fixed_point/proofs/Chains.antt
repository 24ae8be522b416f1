-- Chains of streams and of what names mean, and their unions.
use Rattle.lucid_fixed_point.proofs.Common.{◌≡◌, ℕ, zero, suc, ◌≤◌, max, List, subst, inl, inr, arith, Stream, Streams, Meanings, union, Within, EachWithin, MeaningsWithin, IsChain, MeaningsApproached, IsChainOfMeanings, IsContinuous, PointsWithin}
use Rattle.lucid_tree.proofs.LevelGrowth.{last_or_less}
use Rattle.lucid_fixed_point.specs.Order.{IsMonotone}

-- later in a chain
pub stream-up : (a : ℕ → Stream) → ((k : ℕ) → Within (a k) (a (suc k))) → (m n : ℕ) → m ≤ n → Within (a m) (a n)
stream-up a h m zero l t s v d = let z : m ≡ 0 = omega arith in subst (λ k. a k t s v) z d
stream-up a h m (suc n) l t s v d =
    elim (last_or_less m n l) [
      | inl o ↦ h n t s v (stream-up a h m n o t s v d)
      | inr z ↦ subst (λ k. a k t s v) z d
    ]

pub chain-up : (a : ℕ → Streams) → IsChain a → (m n : ℕ) → m ≤ n → EachWithin (a m) (a n)
chain-up a h m n l i = stream-up (λ k. a k i) (λ k. h k i) m n l

module _ (q : ℕ → Meanings) (up : IsChainOfMeanings q) where
  pub names-up : (m n : ℕ) → m ≤ n → (x : List ℕ) → Within ((q m).stream x) ((q n).stream x)
  names-up m n l x = stream-up (λ k. (q k).stream x) (λ k. (up k).streams x) m n l

  pub maps-up : (m n : ℕ) → m ≤ n → (x : List ℕ) (a : Streams) → Within ((q m).map x a) ((q n).map x a)
  maps-up m n l x a = stream-up (λ k. (q k).map x a) (λ k. (up k).maps x a a (λ i t s v d. d)) m n l

  module _ (continuous : (k : ℕ) → IsContinuous (q k)) where
    -- a chain of continuous meanings approaches its union
    pub union-near : MeaningsApproached q (union q)
    union-near =
        record {
          streams = λ n t s v d. d;
          maps = λ n a b upa l t s v d.
              let o = (continuous d.0).continuous n a b upa l t s v d.1 in
              let k : ℕ = max d.0 o.0 in (
                k,
                (continuous k).monotone n (a o.0) (a k) (chain-up a upa o.0 k (omega arith)) t s v
                    (maps-up d.0 k (omega arith) n (a o.0) t s v o.1),
              );
        }

    pub link-within : (k : ℕ) → MeaningsWithin (q k) (union q)
    link-within k =
        record { streams = λ n t s v d. (k, d); maps = λ n a b l t s v d. (k, (continuous k).monotone n a b l t s v d) }

    pub union-is-continuous : IsContinuous (union q)
    union-is-continuous =
        record {
          monotone = λ n a b l t s v d. (d.0, (continuous d.0).monotone n a b l t s v d.1);
          continuous = λ n a b upa l t s v d. let o = (continuous d.0).continuous n a b upa l t s v d.1 in (o.0, (d.0, o.1));
        }

-- The orders of meanings with monotone and continuous functions.
pub points-within : (q r : Meanings) → PointsWithin q r → IsMonotone r → MeaningsWithin q r
points-within q r h m = record { streams = h.streams; maps = λ n a b l t s v d. m n a b l t s v (h.maps n a t s v d) }

pub within-itself : (r : Meanings) → IsMonotone r → MeaningsWithin r r
within-itself r m = record { streams = λ n t s v d. d; maps = m }

pub near-itself : (r : Meanings) → IsContinuous r → MeaningsApproached (λ k. r) r
near-itself r h = record { streams = λ n t s v d. (0, d); maps = h.continuous }
