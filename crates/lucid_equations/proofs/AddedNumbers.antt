-- An added number is no more than a limit: both decide by the same numbers, and the paths get longer.
use Rattle.lucid_equations.proofs.Common.{◌≡◌, ℕ, zero, suc, ◌+◌, [], subst, arith, add-zero, In, Inside, plan, Given, nothing_held, below, deeper, goes_to, element_of, nowhere, entered, referred, within_itself, TakesMore, trace-inside, inside_itself, inside-after, inside-cons, Context, frozen_frame, PlainNode, PlainNodes, row, freeze, reference, invoke, no_nodes, node, Equations, Daton, NodeAim, reference_aim, call_aim, part_at, node_value, NodeEvents, context_of, walk_at, walk_part, node_walk, nat_tests}
use Rattle.lucid_equations.specs.Laws.{AddedIsLimit}

takes_added : (m d : ℕ) → TakesMore m (m + d)
takes_added m d l h = grind (arith, nat_tests, h)

module _ (p : Equations) (g : Given Daton) (m d : ℕ) (deep deep' : NodeAim → ℕ → NodeEvents) (more : (a : NodeAim) (s : ℕ) → Inside (deep a s) (deep' a s))
  where
    mutual
      pub walk_at-adds : (e : PlainNode) (c : Context) (t s : ℕ) → Inside (walk_at p g m d deep e c t s) (walk_at p g (m + d) 0 deep' e c t s)
      walk_at-adds (row f es) c t s =
          rw (add-zero (m + d)) (trace-inside m (m + d) (within_itself (plan (m + d) f t s))
          (λ i u r. part_at p (m + d) (below (node_value p) g (m + d)) es c i u r) (λ i u r. part_at p (m + d) (below (node_value p) g (m + d)) es c i u r)
          (λ i u r. walk_part p g m d deep es c i u r) (λ i u r. walk_part p g (m + d) 0 deep' es c i u r) (takes_added m d) (λ i u r v h. h)
          (λ i u r. walk_part-adds es c i u r))
      walk_at-adds (freeze e) c t s =
          inside-cons (entered (frozen_frame t c)) (walk_at p g m d deep e (frozen_frame t c) t s) (walk_at p g (m + d) 0 deep' e (frozen_frame t c) t s)
          (walk_at-adds e (frozen_frame t c) t s)
      walk_at-adds (reference r) c t s = more (reference_aim p r c t) s
      walk_at-adds (invoke n at l) c t s = inside-after (context_of (call_aim p n at l c t)) (deep (call_aim p n at l c t) s) (deep' (call_aim p n at l c t) s)
          (more (call_aim p n at l c t) s)

      walk_part-adds : (es : PlainNodes) (c : Context) (i t s : ℕ) → Inside (walk_part p g m d deep es c i t s) (walk_part p g (m + d) 0 deep' es c i t s)
      walk_part-adds no_nodes c i t s = inside_itself []
      walk_part-adds (node e es) c zero t s = walk_at-adds e c t s
      walk_part-adds (node e es) c (suc i) t s = walk_part-adds es c i t s

deeper-adds : (p : Equations) (g : Given Daton) (m d : ℕ) (a : NodeAim) (s : ℕ) → Inside (deeper (node_walk p g) m d a s) (deeper (node_walk p g) (m + d) 0 a s)
deeper-adds p g zero d a s x i = absurd i
deeper-adds p g (suc m) d a s x i =
    let e : suc (m + d) ≡ suc m + d = omega arith in
    subst (λ n. In x (deeper (node_walk p g) n 0 a s)) e (go a (λ b r. deeper-adds p g m d b r) i)
  where
    go : (a : NodeAim) → ((b : NodeAim) (r : ℕ) → Inside (deeper (node_walk p g) m d b r) (deeper (node_walk p g) (m + d) 0 b r))
        → In x (deeper (node_walk p g) (suc m) d a s) → In x (deeper (node_walk p g) (suc (m + d)) 0 a s)
    go (element_of n j) h i = i
    go (goes_to k y u) h i =
        inside-cons (referred k y u s) (node_walk p g m d (deeper (node_walk p g) m d) y u s) (node_walk p g (m + d) 0 (deeper (node_walk p g) (m + d) 0) y u s)
        (walk_at-adds p g m d (deeper (node_walk p g) m d) (deeper (node_walk p g) (m + d) 0) h y.node y.context u s) x i
    go nowhere h i = i

pub added_is_limit : AddedIsLimit
added_is_limit p b m d e c t s =
    walk_at-adds p (nothing_held b) m d (deeper (node_walk p (nothing_held b)) m d) (deeper (node_walk p (nothing_held b)) (m + d) 0)
    (deeper-adds p (nothing_held b) m d) e c t s
