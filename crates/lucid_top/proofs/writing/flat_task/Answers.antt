use Rattle.lucid_top.proofs.Common.{Some, refl, arith, err_from_is_err_and, scoped_tree, scoped_inputs, scoped_binding, plain_words, told, Call, flattens}
use Rattle.lucid_top.specs.Call.{call_under}
use Rattle.lucid_top.proofs.Ending.{Begins, flat_not_print, inputs_of, names_of}
use Rattle.lucid_top.proofs.Doing.{program_does, writing_does}
use Rattle.lucid_top.proofs.writing.flat_task.Goals as goal

pub returns-in_err-scoped : goal.returns-in_err-scoped
returns-in_err-scoped g c policy =
    let p = err_from_is_err_and c.from_residual.result c.from_residual.ensures.1 in
    let w = plain_words c.args.words.now in
    let here : Call = call_under policy (Some w) (g.P.Places.world c.args.places.now) (g.P.Places.world c.program_of.new.places)
    (told g.K.Sink.written g.K.Sink.faults g.K.Sink.late c.args.out.now) (told g.K.Sink.written g.K.Sink.faults g.K.Sink.late c.args.out.now) in
    let begins : Begins here w = refl in
    let read = c.in_err-scoped.ensures in
    rw (p.1, p.2) (program_does here w c.in_err-scoped.field-0.0 begins (c.requires.text (λ e. absurd (cc e))) (flat_not_print w c.requires.task) refl
    read.stopped read.reading)

pub write_flat-requires-clause-few : goal.write_flat-requires-clause-few
write_flat-requires-clause-few g c = omega (arith, c.in_ok-scoped.ensures.resolved.few, c.in_ok-scoped.ensures.accepted.few)

pub returns : goal.returns
returns g c policy =
    let w = plain_words c.args.words.now in
    let here : Call = call_under policy (Some w) (g.P.Places.world c.args.places.now) (g.P.Places.world c.program_of.new.places)
    (told g.K.Sink.written g.K.Sink.faults g.K.Sink.late c.args.out.now) (told g.K.Sink.written g.K.Sink.faults g.K.Sink.late c.write_flat.new.out) in
    let begins : Begins here w = refl in
    let text = c.requires.text (λ e. absurd (cc e)) in
    let read = c.in_ok-scoped.ensures in
    let tree = scoped_tree c.in_ok-scoped.scoped in
    let inputs = inputs_of tree (scoped_inputs c.in_ok-scoped.scoped) (scoped_binding c.in_ok-scoped.scoped) read.resolved.resolved in
    let names = names_of here w tree (scoped_inputs c.in_ok-scoped.scoped) begins text (flat_not_print w c.requires.task) read.accepted inputs in
    writing_does c.in_ok-scoped.scoped here w (flattens names c.requires.task) c.write_flat.result
    begins text read.reading c.write_flat.ensures.writes c.write_flat.ensures.counts_no_write c.write_flat.ensures.late
