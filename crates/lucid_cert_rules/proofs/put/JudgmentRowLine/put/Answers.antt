use Rattle.lucid_cert_rules.proofs.Common.{[], ◌∷◌, plain_judgment}
use Rattle.lucid_texts.proofs.Spaced.{appended}
use Rattle.lucid_cert_rules.proofs.TextMade.{judgment_put}
use Rattle.lucid_cert_rules.proofs.put.JudgmentRowLine.put.Goals as goal

pub returns-clause-line : goal.returns-clause-line
returns-clause-line c =
    appended c.extend_from_slice-3.result c.extend_from_slice-3.new.self.items c.show.new.to.items (10 ∷ []) _ c.extend_from_slice-3.ensures.items
    (judgment_put c.args.to.now.items c.extend_from_slice.new.self.items c.put_numbers.new.to.items c.put_numbers-2.new.to.items c.put_numbers-3.new.to.items
    c.extend_from_slice-2.new.self.items c.show.new.to.items
    (plain_judgment c.args.self.now) c.from.result c.from-2.result c.items-uses.result.now c.from.ensures c.from-2.ensures c.items-uses.ensures
    c.in_ok-extend_from_slice.ensures.items
    c.in_ok-put_numbers.ensures c.in_ok-put_numbers-2.ensures c.in_ok-put_numbers-3.ensures c.in_ok-extend_from_slice-2.ensures.items c.in_ok-show.ensures)
