use Rattle.std.proofs.Common.{append_assoc}
use Rattle.lucid_show_outline.specs.Views.{view_of}
use Rattle.lucid_show_outline.proofs.Loops.{entries_more}
use Rattle.lucid_show_outline.proofs.outline.put_entries.Goals as goal

pub loop-entry-preserved : goal.loop-entry-preserved
loop-entry-preserved c =
    rw (c.in_ok-put_line.ensures, append_assoc, ← entries_more (view_of c.args.source.now) c.args.entries.now c.loop-entry.entry-index _ c.loop-entry-test.true) c.loop-entry.invariant
