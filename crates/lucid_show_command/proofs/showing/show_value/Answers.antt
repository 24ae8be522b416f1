use Rattle.lucid_show_command.proofs.Common.{Some, refl, subst}
use Rattle.std.specs.Prelude.{IfOk}
use Rattle.lucid_ports.specs.Sink.{sink_bytes, sink_faults, sink_late}
use Rattle.lucid_scope.specs.Scoped.{scoped_tree, scoped_inputs, scoped_binding}
use Rattle.lucid_top.proofs.Ending.{inputs_of}
use Rattle.lucid_show_command.specs.Shows.{IsDrawn}
use Rattle.lucid_show_command.specs.Words.{plain_wanted}
use Rattle.lucid_show_command.proofs.MadeInMemory.{makes, shown_made, shown_stopped, shows_drawn}
use Rattle.lucid_show_command.proofs.showing.show_value.Goals as goal

pub returns : goal.returns
returns g c =
    let w = plain_wanted c.args.wanted.now in
    let s = c.make_why.new.out in
    shown_stopped w (g.P.Places.world c.args.places.now) (g.P.Places.world c.make_why.new.places) _ _ _ _ c.tell.result (sink_bytes s) c.in-Err.stop
    (makes w.words _ _ _ _ (sink_bytes s) (sink_faults s) (sink_late s) _
    (λ j. record { bytes = Some (c.make-made.ensures.bytes j); faults = c.make-made.ensures.faults j; late = c.make-made.ensures.late j }) refl c.in-Err.ensures.does)
    refl c.tell.ensures.tells

pub returns-in-Ok : goal.returns-in-Ok
returns-in-Ok g c =
    let w = plain_wanted c.args.wanted.now in
    let s = c.make_why.new.out in
    let it = c.in-Ok.certified in
    let of = c.in-Ok.ensures.program in
    let tree = scoped_tree it.scoped in
    let inputs = scoped_inputs it.scoped in
    shown_made w (g.P.Places.world c.args.places.now) (g.P.Places.world c.make_why.new.places) _ _ _ _ c.tell_drawn.result (sink_bytes s)
    (makes w.words _ _ _ _ (sink_bytes s) (sink_faults s) (sink_late s) _
    (λ j. record { bytes = Some (c.make-made.ensures.bytes j); faults = c.make-made.ensures.faults j; late = c.make-made.ensures.late j }) refl c.in-Ok.ensures.does)
    (shows_drawn w _ (sink_bytes s) tree inputs of.accepted (inputs_of tree inputs (scoped_binding it.scoped) of.resolved.resolved) _ _ _ _ _ c.draw-drawn.result
    (subst (λ bytes. IfOk c.draw-drawn.result (IsDrawn tree inputs bytes w)) c.written.ensures c.draw-drawn.ensures) c.tell_drawn.ensures)
