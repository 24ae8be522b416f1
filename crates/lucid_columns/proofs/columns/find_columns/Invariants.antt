use Rattle.lucid_columns.proofs.Common.{ℕ, PlainTree, block, AreColumnsBelow}
use Rattle.lucid_columns.proofs.columns.find_columns.Given as goal

-- the names before are columns
abbrev pub invariant-loop-index : goal.invariant-loop-index
invariant-loop-index l = (at : ℕ) (e : PlainTree) → AreColumnsBelow (block at e l.defs) l.columns l.index
