use Rattle.lucid_explain_source.proofs.Common.{List, ◌++◌, ap, ◌∙◌, Option, Def, find, lent, on_ok_weaker}
use Rattle.std.specs.Option.{option_copied}
use Rattle.lucid_explain_source.specs.Names.{is_before, earlier, again_text}
use Rattle.lucid_explain_source.proofs.names.put_twice.Goals as goal

pub returns : goal.returns
returns c =
    let defs = lent c.args.defs.now in
    let text = c.args.text.now.items in
    let source = c.args.source.now in
    let at = c.args.at in
    on_ok_weaker c.put_again.result
    (λ e. e
    ∙ ap (λ (o : Option Def). text ++ again_text source o (option_copied c.headed.result))
    (c.find_before.ensures ∙ ap (λ (ds : List Def). find (is_before at ds) defs) (ap lent c.deref.ensures.value ∙ c.in_ok-those.ensures))
    ∙ ap (λ (o : Option Def). text ++ again_text source (earlier at defs) o) c.headed.ensures)
    c.put_again.ensures
