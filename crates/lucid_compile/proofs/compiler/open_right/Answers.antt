use Rattle.lucid_compile.proofs.Common.{lists, linked}
use Rattle.lucid_compile.proofs.LinkedRows.{scope-linked}
use Rattle.lucid_compile.proofs.compiler.open_right.Goals as goal

pub returns-in_ok-add_parameters-in-Function : goal.returns-in_ok-add_parameters-in-Function
returns-in_ok-add_parameters-in-Function c = λ w.
    rw c.in-Function.is (
      linked w c.opened.new.rows,
      scope-linked w (lists c.args.rows.now) (lists c.opened.new.rows) _ c.in_ok-called-in-Function.called.scope
          c.in_ok-called-in-Function.ensures.scope,
      c.in_ok-called-in-Function.ensures.level,
      c.in_ok-add_parameters-in-Function.ensures w,
    )
