-- What a tree denotes: a stream, by what names mean. It is told by recursion on trees, without environments of syntax and without approximations.
use Rattle.std.specs.Prelude.{◌≡◌, ℕ, zero, suc, Option, Some}
use Rattle.lucid_tree.specs.Tree.{PlainTree, form, name, call, block, PlainTrees, no_trees, tree, PlainDefs, no_defs, defines, defines_function, defines_current}
use Rattle.lucid_tree.specs.Levels.{Elements}
use Rattle.lucid_tree.specs.Env.{Env, empty, scope, args, frozen_at}
use Rattle.lucid_fixed_point.specs.Streams.{Stream, Streams, Meanings, no_stream, no_map, operator, with_stream, with_map, with_arguments, frozen, least}

abbrev mutual
  -- A form is its operator, a name and a call are what the names mean; a block is its subject, where the names of its definitions mean the
  -- least solution of their equations.
  pub denotation : PlainTree → Meanings → Stream
  denotation (form at f es) r = operator f (denotations es r)
  denotation (name at n) r = r.stream n
  denotation (call at n es) r = r.map n (denotations es r)
  denotation (block at e ds) r = λ t s v. denotation e (least (equations ds (frozen_at ds t) r)) t s v

  -- those of parts, by their number
  pub denotations : PlainTrees → Meanings → Streams
  denotations no_trees r i = no_stream
  denotations (tree e es) r zero = denotation e r
  denotations (tree e es) r (suc i) = denotations es r i

  -- One step of the equations of a block that is opened at a time: what its names mean, where the right sides are taken by q.
  pub equations : PlainDefs → Option ℕ → (outer q : Meanings) → Meanings
  equations no_defs z r q = r
  equations (defines at x e ds) z r q = with_stream x (denotation e q) (equations ds z r q)
  equations (defines_function at x ns ats e ds) z r q = with_map x (λ a. denotation e (with_arguments ns a q)) (equations ds z r q)
  equations (defines_current at x e ds) z r q = with_stream x (frozen z (denotation e r)) (equations ds z r q)

-- What the names of an environment mean, over the elements of the inputs.
abbrev pub meanings : Elements → Env → Meanings
meanings b empty = record { stream = λ n t s v. b n t ≡ Some v; map = λ n. no_map }
meanings b (scope ds z rest) = least (equations ds z (meanings b rest))
meanings b (args ns ats es caller rest) = with_arguments ns (denotations es (meanings b caller)) (meanings b rest)
