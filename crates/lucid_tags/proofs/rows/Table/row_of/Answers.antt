use Rattle.lucid_tags.proofs.Common.{sym, arith}
use Rattle.lucid_tags.proofs.RowLemmas.{length-contexts, row_of-at}
use Rattle.lucid_tags.proofs.rows.Table.row_of.Goals as goal

pub unwrap-requires : goal.unwrap-requires
unwrap-requires c = c.get_index.ensures.found.1 (omega (arith, length-contexts c.args.self.now.rows.keys))

pub returns : goal.returns
returns c =
    row_of-at c.args.self.now.rows.keys c.args.self.now.depths.items c.requires.rows c.args.number c.requires.full c.unwrap.result.now
    (sym (rw c.unwrap.ensures at c.get_index.ensures.key))
