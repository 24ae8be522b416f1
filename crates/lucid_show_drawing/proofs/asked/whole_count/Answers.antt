use Rattle.lucid_show_drawing.proofs.Common.{◌≡◌, rules, sym, ◌∙◌}
use Rattle.std.proofs.Common.{count_by, not}
use Rattle.lucid_cert_rules.specs.declared.telling.Entry.{Entry}
use Rattle.lucid_show_drawing.proofs.Telling.{whole_counted}
use Rattle.lucid_show_drawing.proofs.asked.whole_count.Goals as goal

pub returns : goal.returns
returns c =
    let counted : c.count.result ≡ count_by (λ (e : Entry). not e.above) c.args.entries.now = search rules in
    counted ∙ sym (whole_counted c.args.entries.now)
