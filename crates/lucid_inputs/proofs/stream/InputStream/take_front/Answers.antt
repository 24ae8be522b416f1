use Rattle.lucid_inputs.proofs.Common.{arith, stream_of}
use Rattle.lucid_inputs.proofs.TakeLemmas.{none_at_all, none_before, taken_part, taken_line}
use Rattle.lucid_inputs.proofs.stream.InputStream.take_front.Goals as goal

pub take_element-requires : goal.take_element-requires
take_element-requires c = none_before _ _ (omega (arith, c.in-Some.ensures.0.high)) c.in-Some.ensures.0.before

pub extend-requires : goal.extend-requires
extend-requires c = none_at_all _ c.in-None.ensures

pub returns-in_ok-take_element-in-Some-clause-ok : goal.returns-in_ok-take_element-in-Some-clause-ok
returns-in_ok-take_element-in-Some-clause-ok c =
    let plain = none_before c.args.bytes.now c.in-Some.end (omega (arith, c.in-Some.ensures.0.high)) c.in-Some.ensures.0.before in
    taken_line (stream_of c.args.self.now) (stream_of c.take_element.new.self) _ _ c.in-Some.ensures.0.high c.in-Some.ensures.1 plain
    c.in_ok-take_element-in-Some.ensures.ok

pub returns-in_ok-extend-in-None-clause-ok : goal.returns-in_ok-extend-in-None-clause-ok
returns-in_ok-extend-in-None-clause-ok c = taken_part (stream_of c.args.self.now) _ _ (none_at_all _ c.in-None.ensures) c.in_ok-extend-in-None.ensures.ok
