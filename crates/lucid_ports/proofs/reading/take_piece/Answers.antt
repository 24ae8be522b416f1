use Rattle.lucid_ports.proofs.Common.{◌∙◌}
use Rattle.lucid_ports.specs.declared.fault.PortFault.TheVariants.{Failed}
use Rattle.lucid_ports.proofs.FaultLemmas.{none_at_ok}
use Rattle.lucid_ports.proofs.reading.take_piece.Goals as goal

pub returns-clause-late : goal.returns-clause-late
returns-clause-late g c good =
    let filled = c.fill.follows.holds-at-none.0 in
    c.consume.ensures.counts_late.1 (none_at_ok c.fill.result c.in_ok-piece.piece Failed _ _ c.in_ok-piece.was filled.counts_no_fault ∙ good) ∙ filled.counts_late.1 good
