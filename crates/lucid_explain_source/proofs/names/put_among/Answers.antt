use Rattle.lucid_explain_source.proofs.Common.{ℕ, List, ◌++◌, ap, ◌∙◌, on_ok_weaker}
use Rattle.std.proofs.Common.{append_assoc}
use Rattle.std.specs.Option.{option_copied}
use Rattle.lucid_explain_source.specs.Names.{parameter_advice, found_text}
use Rattle.lucid_explain_source.proofs.names.put_among.Goals as goal

pub returns : goal.returns
returns c =
    let found = found_text c.args.source.now (option_copied c.args.among) in
    on_ok_weaker c.put_found.result
    (λ e. e ∙ ap (λ (z : List ℕ). z ++ found) c.in_ok-extend_from_slice.ensures.items ∙ append_assoc c.args.text.now.items parameter_advice found)
    c.put_found.ensures
