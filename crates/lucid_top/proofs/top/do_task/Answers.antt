use Rattle.lucid_top.proofs.Common.{Some, refl, sym, subst, map, err_from_is_err_and, string_bytes, words_asked, plain_words, told, Call, task_of}
use Rattle.lucid_top.specs.Call.{call, call_under}
use Rattle.lucid_top.specs.Coming.{Does}
use Rattle.lucid_top.proofs.Doing.{may_begin, words_do, want_does}
use Rattle.lucid_top.proofs.top.do_task.Goals as goal

pub returns-in_err-words : goal.returns-in_err-words
returns-in_err-words g c =
    let w = g.P.Places.world c.args.places.now in
    let t = told g.K.Sink.written g.K.Sink.faults g.K.Sink.late c.args.out.now in
    let here : Call = call (words_asked (map (string_bytes {Z = Rattle.std.specs.Global.Global}) c.args.words.now)) w w t t in
    let p = err_from_is_err_and c.from_residual.result c.from_residual.ensures.1 in
    rw (p.1, p.2) (words_do here c.in_err-words.field-0.0 c.in_err-words.ensures.asked refl refl c.requires)

pub returns-in_err-policy : goal.returns-in_err-policy
returns-in_err-policy g c =
    let w = g.P.Places.world c.args.places.now in
    let t = told g.K.Sink.written g.K.Sink.faults g.K.Sink.late c.args.out.now in
    let here : Call = call (words_asked (map (string_bytes {Z = Rattle.std.specs.Global.Global}) c.args.words.now)) w w t t in
    let p = err_from_is_err_and c.from_residual-in_err-policy.result c.from_residual-in_err-policy.ensures.1 in
    rw (p.1, p.2) (want_does here (plain_words c.in_ok-words.words) c.in_ok-words.ensures.asked refl refl c.requires)

pub do_words-requires : goal.do_words-requires
do_words-requires g c =
    may_begin (map (string_bytes {Z = Rattle.std.specs.Global.Global}) c.args.words.now) c.in_ok-words.words (task_of (plain_words c.in_ok-words.words))
    (g.P.Places.world c.args.places.now) c.in_ok-words.ensures.asked c.in_ok-words.ensures.made c.in_ok-words.ensures.time refl c.requires

pub returns : goal.returns
returns g c =
    let w = plain_words c.in_ok-words.words in
    let before = g.P.Places.world c.args.places.now in
    let after = g.P.Places.world c.do_words.new.places in
    let out_before = told g.K.Sink.written g.K.Sink.faults g.K.Sink.late c.args.out.now in
    let out_after = told g.K.Sink.written g.K.Sink.faults g.K.Sink.late c.do_words.new.out in
    subst (λ asked. Does (call asked before after out_before out_after) c.do_words.result) (sym c.in_ok-words.ensures.asked)
    (subst (λ policy. Does (call_under policy (Some w) before after out_before out_after) c.do_words.result) c.in_ok-policy.ensures.named c.do_words.ensures)
