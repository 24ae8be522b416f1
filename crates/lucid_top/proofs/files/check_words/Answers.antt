use Rattle.lucid_top.proofs.Common.{refl, err_from_is_err_and}
use Rattle.lucid_top.proofs.Naming.{refused_here, right_more}
use Rattle.lucid_top.proofs.files.check_words.Goals as goal

pub returns-in_err-check_word-clause-refused : goal.returns-in_err-check_word-clause-refused
returns-in_err-check_word-clause-refused c =
    let p = err_from_is_err_and c.from_residual.result c.from_residual.ensures.1 in
    rw (p.1, p.2) (refused_here c.args.free.now c.args.given.now _ c.loop-k.k c.index-given-k.result c.in_err-check_word.field-0.0 c.loop-k-test.true
    c.index-given-k.is refl c.loop-k.invariant c.in_err-check_word.ensures)

pub loop-k-preserved : goal.loop-k-preserved
loop-k-preserved c = right_more c.args.free.now c.args.given.now _ c.loop-k.k c.index-given-k.result c.loop-k-test.true c.index-given-k.is refl
    c.loop-k.invariant c.in_ok-check_word.ensures
