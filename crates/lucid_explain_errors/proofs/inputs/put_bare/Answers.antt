use Rattle.lucid_texts.proofs.Spaced.{appended}
use Rattle.std.specs.Prelude.{codes}
use Rattle.lucid_explain_errors.specs.Inputs.{bare_text}
use Rattle.lucid_explain_errors.proofs.Parts.{three}
use Rattle.lucid_explain_errors.proofs.inputs.put_bare.Goals as goal
use Rattle.std.proofs.Common.{◌++◌}

pub returns : goal.returns
returns c =
    let text = c.args.text.now.items in
    let inner = c.args.inner.now in
    appended c.extend_from_slice-3.result c.extend_from_slice-3.new.self.items c.extend_from_slice-2.new.self.items (codes "\n") (text ++ bare_text inner)
    c.extend_from_slice-3.ensures.items
    (three text (codes "It is written without quotes: ") inner (codes "\n") c.extend_from_slice.new.self.items c.extend_from_slice-2.new.self.items
    c.in_ok-extend_from_slice.ensures.items c.in_ok-extend_from_slice-2.ensures.items)
