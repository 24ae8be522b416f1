-- Families of streams and maps: what the names of each block of a program could mean. A family that solves the equations of every block has, as
-- the program's stream, all that the program has.
use Rattle.std.specs.Prelude.{◌≡◌, ℕ, zero, suc, List, [], ◌++◌, Option}
use Rattle.lucid_value.specs.Plain.{PlainValue, eod}
use Rattle.lucid_tree.specs.Tree.{PlainTree, form, name, call, block, PlainTrees, no_trees, tree, PlainDefs, no_defs, defines, defines_function, defines_current}
use Rattle.lucid_tree.specs.Env.{frozen_at}
use Rattle.lucid_tree.specs.Output.{line}
use Rattle.lucid_fixed_point.specs.Streams.{Stream, Streams, Meanings, no_stream, operator, with_stream, with_map, with_arguments, frozen}
use Rattle.lucid_fixed_point.specs.Order.{PointsWithin}

-- What the names of a block could mean: by its definitions, the time that it remembers, and what the names outside it mean.
abbrev pub Family : Type 1
Family = PlainDefs → (opened : Option ℕ) → (outside : Meanings) → Meanings

abbrev mutual
  -- What a tree has by a family: as its denotation, but in a block the names of its definitions mean what the family says.
  pub by_family : Family → PlainTree → Meanings → Stream
  by_family F (form at f es) r = operator f (all_by_family F es r)
  by_family F (name at n) r = r.stream n
  by_family F (call at n es) r = r.map n (all_by_family F es r)
  by_family F (block at e ds) r = λ t s v. by_family F e (F ds (frozen_at ds t) r) t s v

  pub all_by_family : Family → PlainTrees → Meanings → Streams
  all_by_family F no_trees r i = no_stream
  all_by_family F (tree e es) r zero = by_family F e r
  all_by_family F (tree e es) r (suc i) = all_by_family F es r i

  -- one step of a block's equations, with right sides by the family
  pub equations_by_family : Family → PlainDefs → Option ℕ → (outer q : Meanings) → Meanings
  equations_by_family F no_defs z r q = r
  equations_by_family F (defines at x e ds) z r q = with_stream x (by_family F e q) (equations_by_family F ds z r q)
  equations_by_family F (defines_function at x ns ats e ds) z r q =
      with_map x (λ a. by_family F e (with_arguments ns a q)) (equations_by_family F ds z r q)
  equations_by_family F (defines_current at x e ds) z r q = with_stream x (frozen z (by_family F e r)) (equations_by_family F ds z r q)

abbrev mutual
  -- The family solves the equations of each block in the tree, whenever it is opened and whatever the arguments of functions round it are:
  -- what the equations give of what the names mean, they mean.
  pub Solves : Family → PlainTree → Meanings → Type 1
  Solves F (form at f es) r = SolvesAll F es r
  Solves F (name at n) r = Unit {1}
  Solves F (call at n es) r = SolvesAll F es r
  Solves F (block at e ds) r =
      (t : ℕ) → PointsWithin (equations_by_family F ds (frozen_at ds t) r (F ds (frozen_at ds t) r)) (F ds (frozen_at ds t) r)
      × Solves F e (F ds (frozen_at ds t) r) × SolvesInside F ds r (F ds (frozen_at ds t) r)

  pub SolvesAll : Family → PlainTrees → Meanings → Type 1
  SolvesAll F no_trees r = Unit {1}
  SolvesAll F (tree e es) r = Solves F e r × SolvesAll F es r

  -- those in the right sides of a block's definitions
  pub SolvesInside : Family → PlainDefs → (outer q : Meanings) → Type 1
  SolvesInside F no_defs r q = Unit {1}
  SolvesInside F (defines at x e ds) r q = Solves F e q × SolvesInside F ds r q
  SolvesInside F (defines_function at x ns ats e ds) r q = ((a : Streams) → Solves F e (with_arguments ns a q)) × SolvesInside F ds r q
  SolvesInside F (defines_current at x e ds) r q = Solves F e r × SolvesInside F ds r q

-- These bytes are the first k lines of the stream: at each time below k it has a value at space 0 that isn't end of data, and its text is the line.
pub data LinesOf (a : Stream) : (k : ℕ) → (bytes : List ℕ) → Type 0 where
  no_lines : LinesOf a zero []
  one_line_more : {k : ℕ} {bytes : List ℕ} → LinesOf a k bytes → (v : PlainValue) → a k 0 v → (v ≡ eod → ⊥) → LinesOf a (suc k) (bytes ++ line v)
