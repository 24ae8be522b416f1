-- Expressions without forms over space, and environments all of whose trees are without them.
use Rattle.std.specs.Prelude.{◌≡◌, Bool, false}
use Rattle.lucid_tree.specs.Forms.{form_row}
use Rattle.lucid_tree.specs.Tree.{Head, stream, PlainTree, PlainTrees, PlainDefs}
use Rattle.lucid_tree.specs.Each.{EachForm, EachFormIn, EachFormInDefs}
use Rattle.lucid_tree.specs.Env.{Env, empty, scope, args}

-- a form that looks at other spaces, by its row
abbrev pub is_over_space : Head → Bool
is_over_space (stream f) = (form_row f).over_space
is_over_space _ = false

-- no form over space stands in the tree
abbrev pub IsSpaceless : PlainTree → Type 0
IsSpaceless = EachForm (λ f es. is_over_space f ≡ false)

abbrev pub AreSpaceless : PlainTrees → Type 0
AreSpaceless = EachFormIn (λ f es. is_over_space f ≡ false)

abbrev pub DefsAreSpaceless : PlainDefs → Type 0
DefsAreSpaceless = EachFormInDefs (λ f es. is_over_space f ≡ false)

-- nor in any tree of the environment
abbrev pub EnvIsSpaceless : Env → Type 0
EnvIsSpaceless empty = Unit {0}
EnvIsSpaceless (scope ds z rest) = DefsAreSpaceless ds × EnvIsSpaceless rest
EnvIsSpaceless (args ns ats es caller rest) = AreSpaceless es × EnvIsSpaceless caller × EnvIsSpaceless rest
