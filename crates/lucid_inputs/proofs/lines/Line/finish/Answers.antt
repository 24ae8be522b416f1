use Rattle.lucid_inputs.proofs.Common.{◌≡◌, [], sym, ap, ◌∙◌, arith, eqb-true, line_value_of, line_with, nil_from_length}
use Rattle.lucid_inputs.proofs.StreamLemmas.{line_value_of-take}
use Rattle.lucid_inputs.proofs.lines.Line.finish.Goals as goal

pub returns-clause-element : goal.returns-clause-element
returns-clause-element c =
    let none : c.args.self.now.bytes.items ≡ [] = nil_from_length _
    (omega (arith, c.args.self.now.bytes.ok.0, eqb-true _ _ (sym c.is_empty.ensures ∙ c.if-is_empty.true))) in
    c.in-Ok.ensures ∙ sym (line_value_of-take c.args.rest.now) ∙ sym (ap (λ p. line_value_of (line_with p c.args.rest.now)) none)
