use Rattle.lucid_cert.proofs.Common.{sym, subst, IsJudgmentAt, judgments_of, spot_at}
use Rattle.lucid_tags.proofs.RowLemmas.{if_none}
use Rattle.lucid_cert.proofs.Keeping.{not_there}
use Rattle.lucid_cert.proofs.Starting.{by_parts, judgment_found}
use Rattle.lucid_cert.proofs.maker.Maker.number_of.Goals as goal

pub returns-clause-there : goal.returns-clause-there
returns-clause-there c =
    judgment_found c.args.self.now.keys.keys (judgments_of c.args.self.now) c.requires.keys c.key_of.result c.in_ok-number.field-0-1.now c.in_ok-number.number
    (spot_at c.args.at c.args.space)
    c.in_ok-number.ensures.stored c.in_ok-number.ensures.key
    (by_parts c.key_of.result c.args.at c.args.space c.key_of.ensures.node c.key_of.ensures.context c.key_of.ensures.time c.key_of.ensures.space)

pub returns-in_err-number-clause-none : goal.returns-in_err-number-clause-none
returns-in_err-number-clause-none c =
    if_none c.from_residual.result (λ m. not_there c.args.self.now.keys.keys (judgments_of c.args.self.now) c.requires.keys c.key_of.result
    (sym c.in_err-number.ensures.found) m.0
    (subst (λ s. IsJudgmentAt (judgments_of c.args.self.now) s m.0)
    (sym (by_parts c.key_of.result c.args.at c.args.space c.key_of.ensures.node c.key_of.ensures.context c.key_of.ensures.time c.key_of.ensures.space)) m.1))
