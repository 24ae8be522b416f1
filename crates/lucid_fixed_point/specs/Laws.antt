-- The laws that quantify over no streams; the others stand where they are the contracts of functions.
use Rattle.std.specs.Prelude.{◌≡◌, Option, Some, ℕ, suc, List, ◌↔◌}
use Rattle.lucid_value.specs.Plain.{PlainValue}
use Rattle.lucid_tree.specs.Tree.{PlainTree, PlainDefs, block}
use Rattle.lucid_tree.specs.Levels.{Elements}
use Rattle.lucid_tree.specs.Env.{Env, frozen_at}
use Rattle.lucid_tree.specs.Meaning.{Means}
use Rattle.lucid_fixed_point.specs.Rules.{Derives}
use Rattle.lucid_fixed_point.specs.Streams.{Streams, Meanings}
use Rattle.lucid_fixed_point.specs.Denotation.{denotation, meanings}

-- Exactly what a tree denotes is derived, and meant.
abbrev pub DenotationIsDerivation : Type 0
DenotationIsDerivation = (b : Elements) (e : PlainTree) (env : Env) (t s : ℕ) (v : PlainValue) → Derives b e env t s v ↔ denotation e (meanings b env) t s v

abbrev pub DenotationIsMeaning : Type 0
DenotationIsMeaning = (b : Elements) (e : PlainTree) (env : Env) (t s : ℕ) (v : PlainValue) → Means b e env t s v ↔ denotation e (meanings b env) t s v

-- What the equations of a block give of what its names mean, at a point, is what they mean: for a stream, and for a map at these arguments.
abbrev pub SolvesThere : (f : Meanings → Meanings) (q : Meanings) → Streams → Type 0
SolvesThere f q a =
    (n : List ℕ) (t s : ℕ) (v : PlainValue) → (q.stream n t s v ↔ (f q).stream n t s v) × (q.map n a t s v ↔ (f q).map n a t s v)

-- What the names of one mean, at a point, is what those of the other do: for a stream, and for a map at these arguments.
abbrev pub LiesThere : (q r : Meanings) → Streams → Type 0
LiesThere q r a = (n : List ℕ) (t s : ℕ) (v : PlainValue) → (q.stream n t s v → r.stream n t s v) × (q.map n a t s v → r.map n a t s v)

-- What a block has that is opened so, over names that mean the first outside, its subject has where the names of the block mean the second.
abbrev pub SolutionHasTheBlock : PlainDefs → (opened : Option ℕ) → (outside means : Meanings) → Type 0
SolutionHasTheBlock ds z outside means =
    (at : ℕ) (e : PlainTree) (t s : ℕ) (v : PlainValue) → frozen_at ds t ≡ z → denotation (block at e ds) outside t s v → denotation e means t s v

-- Inputs with all that others have, and chains of inputs that come to all of some.
abbrev pub InputsWithin : Elements → Elements → Type 0
InputsWithin b c = (n : List ℕ) (t s : ℕ) (v : PlainValue) → b n t ≡ Some v → c n t ≡ Some v

abbrev pub InputsApproach : (ℕ → Elements) → Elements → Type 0
InputsApproach b c = (n : List ℕ) (t s : ℕ) (v : PlainValue) → c n t ≡ Some v → (k : ℕ) × (b k n t ≡ Some v)

-- What a tree denotes grows with the inputs.
abbrev pub DenotationsGrowWithInputs : Type 0
DenotationsGrowWithInputs =
    (b c : Elements) → InputsWithin b c → (e : PlainTree) (env : Env) (t s : ℕ) (v : PlainValue) → denotation e (meanings b env) t s v → denotation e (meanings c env) t s v

-- What a tree denotes over all of a chain of inputs, it denotes over some one of them.
abbrev pub DenotationsNeedSomeInputs : Type 0
DenotationsNeedSomeInputs =
    (b : ℕ → Elements) (c : Elements) → ((k : ℕ) → InputsWithin (b k) (b (suc k))) → InputsApproach b c
    → (e : PlainTree) (env : Env) (t s : ℕ) (v : PlainValue) → denotation e (meanings c env) t s v → (k : ℕ) × denotation e (meanings (b k) env) t s v
