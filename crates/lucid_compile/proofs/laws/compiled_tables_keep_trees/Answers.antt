use Rattle.lucid_compile.proofs.Promised.{compiled-keeps}
use Rattle.lucid_compile.proofs.laws.compiled_tables_keep_trees.Goals as goal

pub returns : goal.returns
returns c = compiled-keeps
