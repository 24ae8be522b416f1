use Rattle.lucid_inputs.proofs.Common.{arith, sym, ◌∙◌}
use Rattle.lucid_inputs.proofs.TakeLemmas.{end_some, some_length}
use Rattle.lucid_inputs.proofs.stream.InputStream.meet_end.Goals as goal

pub returns-clause-ok : goal.returns-clause-ok
returns-clause-ok c =
    let some = some_length _ (sym c.is_empty.ensures ∙ c.if-is_empty.false) in
    end_some _ _ _ _ _ _ (omega (arith, some, c.args.self.now.partial.bytes.ok.0)) c.in_ok-take_element.ensures.ok
