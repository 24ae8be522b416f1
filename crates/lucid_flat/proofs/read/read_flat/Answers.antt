use Rattle.lucid_flat.proofs.Common.{◌≡◌, ℕ, refl, sym, subst, Table, text_of, flat_lines, AreTableLines, IsTextOf, lines_in, AreKept, MatchOption-at_none, MatchOption-at_some}
use Rattle.lucid_flat.specs.FlatTables.{IsFirstWrongLine}
use Rattle.lucid_flat.proofs.FirstLine.{text_read}
use Rattle.lucid_flat.proofs.OneTable.{none_goes_on, one_root}
use Rattle.lucid_flat.proofs.read.read_flat.Goals as goal

pub add_lines-requires-clause-some : goal.add_lines-requires-clause-some
add_lines-requires-clause-some c = none_goes_on

pub returns-in-Some-clause-again : goal.returns-in-Some-clause-again
returns-in-Some-clause-again c = λ t d.
    let l = c.add_lines.new.to in
    let wrong = MatchOption-at_some (AreKept l × AreTableLines (lines_in l) × (c.args.bytes.now ≡ text_of (lines_in l)))
    (λ (line : ℕ). IsFirstWrongLine c.args.bytes.now line) c.in-Some.line c.in-Some.is c.in_ok-line.ensures in
    wrong.no_text (flat_lines t) (t, d.has, refl) d.text

pub returns-in-None-clause-text : goal.returns-in-None-clause-text
returns-in-None-clause-text c =
    let l = c.add_lines.new.to in
    let m = MatchOption-at_none (AreKept l × AreTableLines (lines_in l) × (c.args.bytes.now ≡ text_of (lines_in l)))
    (λ (line : ℕ). IsFirstWrongLine c.args.bytes.now line) c.in-None.is c.in_ok-line.ensures in
    let P : Table → Type 0 = IsTextOf c.args.bytes.now in
    subst P (sym c.into_table.ensures) (text_read c.one_value.ensures c.args.bytes.now l m.0 m.1 m.2)

pub returns-in-None-clause-root : goal.returns-in-None-clause-root
returns-in-None-clause-root c =
    let d : IsTextOf c.args.bytes.now c.into_table.result = returns-in-None-clause-text c in one_root c.into_table.result d.has

pub returns-in-None-clause-again : goal.returns-in-None-clause-again
returns-in-None-clause-again c = λ t d. c.one_table.ensures c.args.bytes.now c.into_table.result t (returns-in-None-clause-text c) d
