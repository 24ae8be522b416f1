-- That what the names of a program mean is a family that solves the program's equations, and that by it each tree has what it denotes: lemmas, which stand
-- here since an instance of `SolvedRun` is made of them.
use Rattle.std.proofs.Common.{◌≡◌, ℕ, zero, suc, Option, refl, ap, ap₂, sym, subst}
use mathlib.Core.Path.{fun_ext}
use Rattle.lucid_tree.specs.Tree.{PlainTree, form, name, call, block, PlainTrees, no_trees, tree, PlainDefs, no_defs, defines, defines_function, defines_current}
use Rattle.lucid_tree.specs.Env.{frozen_at, empty}
use Rattle.lucid_fixed_point.specs.Streams.{Meanings, operator, with_stream, with_map, with_arguments, frozen, least}
use Rattle.lucid_fixed_point.specs.Order.{PointsWithin, IsContinuous}
use Rattle.lucid_fixed_point.specs.Denotation.{denotation, denotations, equations, meanings}
use Rattle.lucid_fixed_point.specs.Families.{by_family, all_by_family, equations_by_family, Solves, SolvesAll, SolvesInside}
use Rattle.lucid_fixed_point.proofs.Solved.{block-solved, scope-is-continuous, arguments-are-continuous, meanings-are-continuous}
use Rattle.lucid_top.specs.Call.{Call}
use Rattle.lucid_top.specs.Headline.{RunsProgram, elements}
use Rattle.lucid_top.specs.Solutions.{SolvesProgram, least_family}

mutual
  pub has-denotation : (e : PlainTree) (r : Meanings) → by_family least_family e r ≡ denotation e r
  has-denotation (form at f es) r = ap (operator f) (fun_ext (has-each es r))
  has-denotation (name at n) r = refl
  has-denotation (call at n es) r = ap (r.map n) (fun_ext (has-each es r))
  has-denotation (block at e ds) r =
      fun_ext (λ t. fun_ext (λ s. fun_ext (λ v. ap (λ a. a t s v) (has-denotation e (least (equations ds (frozen_at ds t) r))))))

  has-each : (es : PlainTrees) (r : Meanings) (i : ℕ) → all_by_family least_family es r i ≡ denotations es r i
  has-each no_trees r i = refl
  has-each (tree e es) r zero = has-denotation e r
  has-each (tree e es) r (suc i) = has-each es r i

has-equations : (ds : PlainDefs) (z : Option ℕ) (r q : Meanings) → equations_by_family least_family ds z r q ≡ equations ds z r q
has-equations no_defs z r q = refl
has-equations (defines at x e ds) z r q = ap₂ (with_stream x) (has-denotation e q) (has-equations ds z r q)
has-equations (defines_function at x ns ats e ds) z r q =
    ap₂ (with_map x) (fun_ext (λ a. has-denotation e (with_arguments ns a q))) (has-equations ds z r q)
has-equations (defines_current at x e ds) z r q =
    ap₂ (λ a. with_stream x (frozen z a)) (has-denotation e r) (has-equations ds z r q)

mutual
  pub least-solves : (e : PlainTree) (r : Meanings) → IsContinuous r → Solves least_family e r
  least-solves (form at f es) r h = least-solves-all es r h
  least-solves (name at n) r h = tt
  least-solves (call at n es) r h = least-solves-all es r h
  least-solves (block at e ds) r h = λ t.
      let z : Option ℕ = frozen_at ds t in
      let x : Meanings = least (equations ds z r) in (
        subst (λ q. PointsWithin q x) (sym (has-equations ds z r x)) (block-solved ds z r h),
        least-solves e x (scope-is-continuous ds z r h),
        least-solves-inside ds r x h (scope-is-continuous ds z r h),
      )

  least-solves-all : (es : PlainTrees) (r : Meanings) → IsContinuous r → SolvesAll least_family es r
  least-solves-all no_trees r h = tt
  least-solves-all (tree e es) r h = (least-solves e r h, least-solves-all es r h)

  least-solves-inside : (ds : PlainDefs) (r q : Meanings) → IsContinuous r → IsContinuous q → SolvesInside least_family ds r q
  least-solves-inside no_defs r q h k = tt
  least-solves-inside (defines at x e ds) r q h k = (least-solves e q k, least-solves-inside ds r q h k)
  least-solves-inside (defines_function at x ns ats e ds) r q h k =
      (λ a. least-solves e (with_arguments ns a q) (arguments-are-continuous ns a q k), least-solves-inside ds r q h k)
  least-solves-inside (defines_current at x e ds) r q h k = (least-solves e r h, least-solves-inside ds r q h k)

pub least-solves-program : (c : Call) (r : RunsProgram c) → SolvesProgram r least_family
least-solves-program c r = least-solves r.program (meanings (elements r) empty) (meanings-are-continuous (elements r) empty)
