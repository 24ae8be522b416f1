use Rattle.lucid_parse.proofs.Common.{sym}
use Rattle.lucid_parse.proofs.Spellings.{not_here}
use Rattle.lucid_parse.proofs.spelling.terminal_among.Goals as goal

pub loop-spelling-preserved : goal.loop-spelling-preserved
loop-spelling-preserved c =
    not_here c.args.bytes.now c.args.spellings.now c.loop-spelling.spelling-index _ c.loop-spelling-test.true c.loop-spelling.invariant (sym c.if-eq.ensures)
