use Rattle.lucid_top.proofs.Common.{map, sym, subst, arith, length-map, err_from_is_err_and, plain_given, AreRightBelow, by_two}
use Rattle.lucid_top.proofs.Naming.{given_refused}
use Rattle.lucid_top.proofs.files.input_files.Goals as goal

pub returns-in_err-check_words-clause-refused : goal.returns-in_err-check_words-clause-refused
returns-in_err-check_words-clause-refused c =
    let p = err_from_is_err_and c.from_residual.result c.from_residual.ensures.1 in
    rw (p.1, p.2) (given_refused c.args.free.now (map plain_given c.args.given.now) c.in_err-check_words.field-0.0 c.in_err-check_words.ensures.refused)

pub returns-then-count_left-gt1-clause-refused : goal.returns-then-count_left-gt1-clause-refused
returns-then-count_left-gt1-clause-refused c =
    by_two (subst (AreRightBelow c.args.free.now (map plain_given c.args.given.now)) (sym (length-map c.args.given.now plain_given))
    c.in_ok-check_words.ensures.right)
    (omega (arith, c.if-count_left-gt1.true, c.count_left.ensures))
