use Rattle.std.proofs.Common.{◌≡◌, ◌-◌, arith}
use Rattle.lucid_make.specs.Source.{made_source}
use Rattle.lucid_make.proofs.Lines.{begins, goes_on, ends, length_made_source-lt}
use Rattle.lucid_make.proofs.make_source.Goals as goal

pub loop-number-init : goal.loop-number-init
loop-number-init c = begins _ _ c.args.n c.new-source.ensures.bytes c.in_ok-write_head.ensures

pub loop-number-preserved : goal.loop-number-preserved
loop-number-preserved c =
    let number = c.loop-number.number in
    goes_on _ _ c.args.n (number - 1) number _ (omega arith) (omega arith) c.loop-number.invariant c.in_ok-write_definition.ensures

pub returns-clause-text : goal.returns-clause-text
returns-clause-text c =
    rw c.into_bytes.ensures.value (ends _ _ c.args.n _ (omega arith) c.loop-number.invariant c.in_ok-push_str.ensures.bytes)

pub returns-clause-length : goal.returns-clause-length
returns-clause-length c =
    let source = c.into_bytes.result in
    let text : source.items ≡ made_source c.args.n =
    rw c.into_bytes.ensures.value (ends _ _ c.args.n _ (omega arith) c.loop-number.invariant c.in_ok-push_str.ensures.bytes) in
    omega (arith, source.ok.0, length_made_source-lt source.items c.args.n c.requires.high text)
