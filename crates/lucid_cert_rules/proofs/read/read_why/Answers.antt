use Rattle.lucid_cert_rules.proofs.Common.{◌≡◌, ℕ, List, map, sym, subst, text_of, PlainJudgment, plain_judgment, AreWhyLines, IsTextOf, why_of, lines_in, AllFit, ContextRow, MatchOption-at_none}
use Rattle.lucid_cert_rules.specs.WhyTexts.{IsFirstWrongLine}
use Rattle.lucid_cert_rules.proofs.OneText.{none_goes_on, text_is}
use Rattle.lucid_cert_rules.proofs.read.read_why.Goals as goal

pub add_lines-requires-clause-some : goal.add_lines-requires-clause-some
add_lines-requires-clause-some c = none_goes_on

pub returns-in-None-clause-text : goal.returns-in-None-clause-text
returns-in-None-clause-text c =
    let l = c.add_lines.new.to in
    let m = MatchOption-at_none (AllFit l × AreWhyLines (lines_in l) × (c.args.bytes.now ≡ text_of (lines_in l)))
    (λ (line : ℕ). IsFirstWrongLine c.args.bytes.now line) c.in-None.is c.in_ok-line.ensures in
    let P : List ContextRow → Type 0 = λ cs. IsTextOf c.args.bytes.now (record { contexts = cs; judgments = map plain_judgment l.judgments.items }) in
    let Q : List PlainJudgment → Type 0 = λ js. IsTextOf c.args.bytes.now (record { contexts = c.from_vec.result; judgments = js }) in
    subst Q (sym c.from_vec-in-None.ensures) (subst P (sym c.from_vec.ensures) (text_is c.one_value.ensures c.args.bytes.now (why_of l) m.0 m.1 m.2))

pub returns-in-None-clause-again : goal.returns-in-None-clause-again
returns-in-None-clause-again c = λ w d. c.one_why.ensures c.args.bytes.now (record { contexts = c.from_vec.result; judgments = c.from_vec-in-None.result }) w
    (returns-in-None-clause-text c) d
