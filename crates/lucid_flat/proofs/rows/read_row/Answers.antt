use Rattle.lucid_flat.proofs.Common.{◌≡◌, Option, sym, ap, ◌∙◌, bytes_eq, IfOk-weaker, option_map, Row, tail_row, plain_row, IsRowOf}
use Rattle.lucid_flat.proofs.RowLemmas.{no_blank, tail_is_row}
use Rattle.lucid_flat.proofs.rows.read_row.Goals as goal

pub returns-in_default : goal.returns-in_default
returns-in_default c = no_blank _ c.in_default.ensures

pub returns : goal.returns
returns c =
    IfOk-weaker c.tail_row.result (λ (read : Option Row). option_map plain_row read ≡ tail_row c.in-Some.word.now c.in-Some.tail.now)
    (λ (read : Option Row). IsRowOf c.args.line.now (option_map plain_row read))
    (λ read e. tail_is_row _ _ _ (option_map plain_row read) c.in-Some.ensures.0 c.in-Some.ensures.1
    (sym (c.if-eq.ensures ∙ ap (bytes_eq c.in-Some.word.now) c.as_slice.ensures)) e) c.tail_row.ensures
