-- A depth that is enough: the approximation at it is defined at every time, over all inputs.
use Rattle.std.specs.Prelude.{◌≡◌, ℕ, ◌+◌, ◌*◌, List, [], IsSome}
use Rattle.lucid_tree.specs.Tree.{PlainTree, PlainTrees, PlainDefs}
use Rattle.lucid_tree.specs.Each.{EachForm, EachFormIn, EachFormInDefs}
use Rattle.lucid_tree.specs.Size.{count}
use Rattle.lucid_tree.specs.Shape.{FitsHead}
use Rattle.lucid_tree.specs.Levels.{Elements}
use Rattle.lucid_tree.specs.Env.{empty}
use Rattle.lucid_tree.specs.Meaning.{val}
use Rattle.lucid_scope.specs.Bindings.{IsResolved}
use Rattle.lucid_cycles.specs.declared.judgment.Judgment.{Judgment}
use Rattle.lucid_cycles.specs.declared.judgment.Judgment.TheVariants.{Enough, Cycle}
use Rattle.lucid_cycles.specs.Judged.{outside}
use Rattle.lucid_cycles.specs.Graph.{Bindings}
use Rattle.lucid_cycles.specs.Judgments.{IsEnough}

-- Each form of the tree has the parts that its row looks at, as every tree of the program has.
abbrev pub HasParts : PlainTree → Type 0
HasParts = EachForm (λ f es. FitsHead f (count es))

abbrev pub HaveParts : PlainTrees → Type 0
HaveParts = EachFormIn (λ f es. FitsHead f (count es))

abbrev pub DefsHaveParts : PlainDefs → Type 0
DefsHaveParts = EachFormInDefs (λ f es. FitsHead f (count es))

-- The approximation at factor * t + add is defined at every time t, at each space, whatever the elements of the inputs are.
abbrev pub IsDefinedAtDepth : PlainTree → (factor add : ℕ) → Type 0
IsDefinedAtDepth e a c = (b : Elements) → ((n : List ℕ) (j : ℕ) → IsSome (b n j)) → (t s : ℕ) → IsSome (val b (a * t + c) e empty t s)

-- The depth that a judgment says is enough.
abbrev pub IsDefinedAsJudged : PlainTree → Judgment → Type 0
IsDefinedAsJudged e (Enough f c p) = IsDefinedAtDepth e f c
IsDefinedAsJudged e (Cycle names delays) = Unit {0}

-- What is enough by potentials is enough.
abbrev pub EnoughIsEnough : Type 0
EnoughIsEnough =
    (e : PlainTree) (inputs : List (List ℕ)) (b : Bindings) (factor add : ℕ) (p : List ℕ)
    → HasParts e → IsResolved e inputs b → outside e ≡ [] → IsEnough e b factor add p → IsDefinedAtDepth e factor add
