use Rattle.lucid_top.proofs.Common.{Some, refl, err_from_is_err_and, plain_words, told, Call, prints}
use Rattle.lucid_top.specs.Call.{call_under}
use Rattle.lucid_top.proofs.Ending.{Begins, within_text, source_stops, tree_of}
use Rattle.lucid_top.proofs.Doing.{stops, writing_does}
use Rattle.lucid_top.proofs.writing.print_task.Goals as goal

pub returns-in_err-tree : goal.returns-in_err-tree
returns-in_err-tree g c policy =
    let p = err_from_is_err_and c.from_residual.result c.from_residual.ensures.1 in
    let w = plain_words c.args.words.now in
    let here : Call = call_under policy (Some w) (g.P.Places.world c.args.places.now) (g.P.Places.world c.tree_of.new.places)
    (told g.K.Sink.written g.K.Sink.faults g.K.Sink.late c.args.out.now) (told g.K.Sink.written g.K.Sink.faults g.K.Sink.late c.args.out.now) in
    let begins : Begins here w = refl in
    let text = c.requires.text (λ e. absurd (cc e)) in
    let read = c.in_err-tree.ensures in
    let s = c.in_err-tree.field-0.0 in
    rw (p.1, p.2) (stops here w s refl refl read.reading.few read.reading.asks (source_stops here w s begins text read.stopped refl read.reading.few) read.reading.counts_no_read read.reading.late
    (within_text w w.source here.after text read.reading.within))

pub returns : goal.returns
returns g c policy =
    let w = plain_words c.args.words.now in
    let here : Call = call_under policy (Some w) (g.P.Places.world c.args.places.now) (g.P.Places.world c.tree_of.new.places)
    (told g.K.Sink.written g.K.Sink.faults g.K.Sink.late c.args.out.now) (told g.K.Sink.written g.K.Sink.faults g.K.Sink.late c.print_program.new.out) in
    let begins : Begins here w = refl in
    let text = c.requires.text (λ e. absurd (cc e)) in
    let read = c.in_ok-tree.ensures in
    writing_does c.in_ok-tree.tree here w (prints (tree_of here w c.in_ok-tree.tree begins text read.spelt) c.requires.task) c.print_program.result
    begins text read.reading c.print_program.ensures.writes c.print_program.ensures.counts_no_write c.print_program.ensures.late
