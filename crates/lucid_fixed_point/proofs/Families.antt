-- What is derived of a program, each family has that solves the program's equations.
use Rattle.lucid_fixed_point.proofs.Common.{ℕ, zero, suc, List, Option, PlainValue, PlainTree, form, name, call, block, PlainTrees, no_trees, tree, PlainDefs, no_defs, defines, defines_function, defines_current, frozen_at, empty, Elements, Meanings, with_arguments, frozen, iterate, least, Within, EachWithin, MeaningsWithin, PointsWithin, denotation, denotations, equations, meanings, Derives, by_family, all_by_family, Solves}
use Rattle.lucid_tree.specs.Output.{Output, no_lines, one_line_more}
use Rattle.lucid_fixed_point.specs.Families.{Family, equations_by_family, SolvesAll, SolvesInside, LinesOf}
use Rattle.lucid_fixed_point.proofs.Monotone.{operator-grows, with_stream-within, with_map-within, with_arguments-within, frozen-within}
use Rattle.lucid_fixed_point.proofs.Chains.{within-itself}
use Rattle.lucid_fixed_point.proofs.Solved.{meanings-are-continuous}
use Rattle.lucid_fixed_point.proofs.Denoted.{denotation-is-derivation, denotation-is-meaning}

-- the iterates of a step lie in what solves a step that is greater there
module _ (f : Meanings → Meanings) (given q : Meanings) (up : (x : Meanings) → MeaningsWithin x q → MeaningsWithin (f x) given)
    (solution : PointsWithin given q) where
  iterate-below : (k : ℕ) → MeaningsWithin (iterate f k) q
  iterate-below zero = record { streams = λ n t s v d. absurd d; maps = λ n a b h t s v d. absurd d }
  iterate-below (suc k) =
      let h = up (iterate f k) (iterate-below k) in record {
        streams = λ n t s v d. solution.streams n t s v (h.streams n t s v d);
        maps = λ n a b l t s v d. solution.maps n b t s v (h.maps n a b l t s v d);
      }

  least-within-solution : MeaningsWithin (least f) q
  least-within-solution =
      record {
        streams = λ n t s v d. (iterate-below d.0).streams n t s v d.1;
        maps = λ n a b l t s v d. (iterate-below d.0).maps n a b l t s v d.1;
      }

module _ (F : Family) where
  mutual
    family-has : (e : PlainTree) (q r : Meanings) → MeaningsWithin q r → Solves F e r → Within (denotation e q) (by_family F e r)
    family-has (form at f es) q r h k = operator-grows f (denotations es q) (all_by_family F es r) (family-has-all es q r h k)
    family-has (name at n) q r h k = h.streams n
    family-has (call at n es) q r h k = h.maps n (denotations es q) (all_by_family F es r) (family-has-all es q r h k)
    family-has (block at e ds) q r h k = λ t s v d.
        let z : Option ℕ = frozen_at ds t in
        let x : Meanings = F ds z r in
        family-has e (least (equations ds z q)) x
        (least-within-solution (equations ds z q) (equations_by_family F ds z r x) x (λ y l. family-solves ds z q r h y x l (k t).2) (k t).0) (k t).1 t s v d

    family-has-all : (es : PlainTrees) (q r : Meanings) → MeaningsWithin q r → SolvesAll F es r → EachWithin (denotations es q) (all_by_family F es r)
    family-has-all no_trees q r h k i = λ t s v d. d
    family-has-all (tree e es) q r h k zero = family-has e q r h k.0
    family-has-all (tree e es) q r h k (suc i) = family-has-all es q r h k.1 i

    family-solves : (ds : PlainDefs) (z : Option ℕ) (q r : Meanings) → MeaningsWithin q r → (x y : Meanings) → MeaningsWithin x y → SolvesInside F ds r y
        → MeaningsWithin (equations ds z q x) (equations_by_family F ds z r y)
    family-solves no_defs z q r h x y l k = h
    family-solves (defines at n e ds) z q r h x y l k =
        with_stream-within n (denotation e x) (by_family F e y) (equations ds z q x) (equations_by_family F ds z r y) (family-has e x y l k.0)
        (family-solves ds z q r h x y l k.1)
    family-solves (defines_function at n ns ats e ds) z q r h x y l k =
        with_map-within n (λ a. denotation e (with_arguments ns a x)) (λ a. by_family F e (with_arguments ns a y)) (equations ds z q x)
        (equations_by_family F ds z r y)
        (λ a b m. family-has e (with_arguments ns a x) (with_arguments ns b y) (with_arguments-within ns a b x y m l) (k.0 b))
        (family-solves ds z q r h x y l k.1)
    family-solves (defines_current at n e ds) z q r h x y l k =
        with_stream-within n (frozen z (denotation e q)) (frozen z (by_family F e r)) (equations ds z q x) (equations_by_family F ds z r y)
        (frozen-within z (denotation e q) (by_family F e r) (family-has e q r h k.0)) (family-solves ds z q r h x y l k.1)

module _ (F : Family) (b : Elements) (e : PlainTree) (solves : Solves F e (meanings b empty)) where
  denoted-by-family : Within (denotation e (meanings b empty)) (by_family F e (meanings b empty))
  denoted-by-family = family-has F e (meanings b empty) (meanings b empty) (within-itself (meanings b empty) (meanings-are-continuous b empty).monotone) solves

  pub derived-by-family : (t s : ℕ) (v : PlainValue) → Derives b e empty t s v → by_family F e (meanings b empty) t s v
  derived-by-family t s v d = denoted-by-family t s v ((denotation-is-derivation b e empty t s v).0 d)

  pub written-by-family : (k : ℕ) (bytes : List ℕ) → Output b e k bytes → LinesOf (by_family F e (meanings b empty)) k bytes
  written-by-family k bytes no_lines = LinesOf.no_lines
  written-by-family k bytes (one_line_more {k = j} {bytes = bs} d v h off) =
      LinesOf.one_line_more (written-by-family j bs d) v (denoted-by-family j 0 v ((denotation-is-meaning b e empty j 0 v).0 h)) off
