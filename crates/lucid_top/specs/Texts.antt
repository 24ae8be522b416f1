-- The texts that are written of a tree.
use Rattle.std.specs.Prelude.{◌≡◌, ℕ, ◌≤◌, List, length}
use Rattle.lucid_tree.specs.Tree.{PlainTree}
use Rattle.lucid_scope.specs.Bindings.{IsResolved}
use Rattle.lucid_cycles.specs.Graph.{Bindings}
use Rattle.lucid_cycles.specs.Judgments.{IsJudgment}
use Rattle.lucid_cycles.specs.JudgmentLine.{judgment_line}
use Rattle.lucid_cycles.specs.Laws.{IsDefinedAsJudged}
use Rattle.lucid_cycles.specs.declared.judgment.Judgment.{Judgment}
use Rattle.lucid_compile.specs.Settled.{table_of as tree_table}
use Rattle.lucid_flat.specs.FlatTables.{IsTextOf}
use Rattle.lucid_top.specs.Judged.{HasInputs}
use Rattle.lucid_top.specs.Flat.{most_flat_bytes, SpellsTable}
use Rattle.lucid_top.specs.Tables.{HasSoundTable}

-- The line of a judgment of the tree, by what its names belong to. The depth that it says is enough at a time is enough, whatever the inputs
-- are.
pub record IsJudgmentLine (p : PlainTree) (line : List ℕ) : Type 0 where
  pub inputs : List (List ℕ)
  pub bindings : Bindings
  pub resolved : ∥ IsResolved p inputs bindings ∥₁
  pub judgment : Judgment
  pub judged : IsJudgment p bindings judgment
  pub enough : IsDefinedAsJudged p judgment
  pub is : line ≡ judgment_line p judgment

-- The flat form of the tree: the text of its table, whose inputs are the tree's free names. Read as a source in the flat form, it spells this
-- table again, unless it is too long to be read.
pub record IsFlatForm (p : PlainTree) (text : List ℕ) : Type 0 where
  pub inputs : List (List ℕ)
  pub are : HasInputs p inputs
  pub table : HasSoundTable p inputs
  pub is : IsTextOf text (tree_table p inputs)
  pub again : length text ≤ most_flat_bytes → SpellsTable text (tree_table p inputs)
