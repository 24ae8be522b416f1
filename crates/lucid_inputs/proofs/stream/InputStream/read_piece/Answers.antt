use Rattle.lucid_inputs.proofs.Common.{arith, length, sym, ◌∙◌, ◌<◌, length-take-le}
use Rattle.lucid_inputs.proofs.TakeLemmas.{piece_step, shown_contents, some_length}
use Rattle.lucid_ports.specs.declared.fault.PortFault.TheVariants.{Failed}
use Rattle.lucid_ports.proofs.FaultLemmas.{none_at_ok}
use Rattle.lucid_inputs.proofs.stream.InputStream.read_piece.Goals as goal

pub returns-clause-ok : goal.returns-clause-ok
returns-clause-ok g c =
    let piece = c.in_ok-piece.piece.now in
    let some = some_length (length piece) (sym c.is_empty.ensures ∙ c.if-is_empty.false) in
    let long = length-take-le c.min-shown.result piece (omega arith) in
    let taken : 0 < c.in_ok-taken.taken = c.in_ok-taken.ensures.some (omega arith) in
    piece_step _ _ _ _ _ piece c.min-shown.result c.in_ok-taken.taken c.in_ok-piece.ensures.front (omega arith) c.in_ok-taken.ensures.bound taken
    (shown_contents _ _ _ _ c.in_ok-piece.was c.fill.follows.holds-at-none.0.shown) c.consume.ensures.consumed.contents c.in_ok-taken.ensures.ok

pub returns-clause-late : goal.returns-clause-late
returns-clause-late g c good =
    let filled = c.fill.follows.holds-at-none.0 in
    c.consume.ensures.counts_late.1 (none_at_ok c.fill.result c.in_ok-piece.piece Failed _ _ c.in_ok-piece.was filled.counts_no_fault ∙ good) ∙ filled.counts_late.1 good
