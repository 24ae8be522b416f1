use Rattle.lucid_show_command.proofs.Common.{◌≡◌, ℕ, List, subst}
use Rattle.lucid_ports.specs.Told.{told}
use Rattle.lucid_top.specs.Writing.{WritesOnly}
use Rattle.lucid_show_command.proofs.showing.tell_drawn.Goals as goal

pub returns-in-Ok-Text : goal.returns-in-Ok-Text
returns-in-Ok-Text g c =
    let before = told g.K.Sink.written g.K.Sink.faults g.K.Sink.late c.args.out.now in
    let after = told g.K.Sink.written g.K.Sink.faults g.K.Sink.late c.write_out-outcome.new.out in
    rw (c.in-Ok-Text.is, c.in-Ok-Text.field-0-is) (
      c.write_out-outcome.result,
      subst (λ (text : List ℕ). WritesOnly (λ written. written ≡ text) before after c.write_out-outcome.result) c.deref.ensures.value c.write_out-outcome.ensures.writes,
      c.tell.ensures.tells,
    )
