-- What is visited with a less limit and a less added number is visited with greater ones; with a meaning it is needed.
use Rattle.lucid_equations.proofs.Common.{◌≡◌, ℕ, zero, suc, ◌+◌, ◌≤◌, max, subst, inl, inr, arith, filter_map, PlainValue, In, Inside, Elements, nothing_held, reference_of, last_or_less, inside-read, Context, PlainNode, Equations, Daton, NodeMeans, node_visits, IsNeeded}
use Rattle.lucid_equations.proofs.NodeGrowth.{node_hval-up}
use Rattle.lucid_equations.proofs.NodeWalks.{node_visits-up, node_visits-wider}
use Rattle.lucid_equations.proofs.AddedNumbers.{added_is_limit}

module _ (p : Equations) (b : Elements) where
  visits-above : (m n d : ℕ) → m ≤ n → (e : PlainNode) (c : Context) (t s : ℕ) → Inside (node_visits p b m d e c t s) (node_visits p b n d e c t s)
  visits-above m zero d h e c t s v i = let z : m ≡ 0 = omega (arith, h) in subst (λ k. In v (node_visits p b k d e c t s)) z i
  visits-above m (suc n) d h e c t s v i =
      elim (last_or_less m n h) [
        | inl l ↦ node_visits-up p b n d e c t s v (visits-above m n d l e c t s v i)
        | inr z ↦ subst (λ k. In v (node_visits p b k d e c t s)) z i
      ]

  visits-beyond : (m d k : ℕ) → d ≤ k → (e : PlainNode) (c : Context) (t s : ℕ) → Inside (node_visits p b m d e c t s) (node_visits p b m k e c t s)
  visits-beyond m d zero h e c t s v i = let z : d ≡ 0 = omega (arith, h) in subst (λ n. In v (node_visits p b m n e c t s)) z i
  visits-beyond m d (suc k) h e c t s v i =
      elim (last_or_less d k h) [
        | inl l ↦ node_visits-wider p b m k e c t s v (visits-beyond m d k l e c t s v i)
        | inr z ↦ subst (λ n. In v (node_visits p b m n e c t s)) z i
      ]

  pub visits-more : (m n d k : ℕ) → m ≤ n → d ≤ k → (e : PlainNode) (c : Context) (t s : ℕ) → Inside (node_visits p b m d e c t s) (node_visits p b n k e c t s)
  visits-more m n d k h g e c t s v i = visits-above m n k h e c t s v (visits-beyond m d k g e c t s v i)

  pub visited-needed : (m d : ℕ) (e : PlainNode) (c : Context) (t s : ℕ) (v : PlainValue) → NodeMeans p b e c t s v → (k : Daton × ℕ)
      → In k (filter_map reference_of (node_visits p b m d e c t s)) → IsNeeded p b e c t s k
  visited-needed m d e c t s v means k i =
      let n : ℕ = max means.0 (m + d) in
      let up : Inside (node_visits p b m d e c t s) (node_visits p b n 0 e c t s) =
      λ z j. visits-above (m + d) n 0 (omega arith) e c t s z (added_is_limit p b m d e c t s z j) in (
        n,
        v,
        node_hval-up p (nothing_held b) means.0 n (omega arith) e c t s v means.1,
        inside-read reference_of (node_visits p b m d e c t s)
            (node_visits p b n 0 e c t s) up k i,
      )
