use Rattle.lucid_scope.proofs.Common.{◌≡◌, suc, ◌-◌, length, drop, ap, sym, ◌∙◌, arith, drop_all, param, look, put_back, or_outer, parameter_owner}
use Rattle.lucid_scope.proofs.Hiding.{later_parameter, function-hides, all_parameters}
use Rattle.lucid_scope.proofs.table.enter_function.Goals as goal

pub loop-left-init : goal.loop-left-init
loop-left-init c = (
  omega arith,
  λ n. ap (λ l. or_outer (later_parameter c.args.def (length c.items-items.result.now) (param n l)) (look c.args.table.now n))
      (sym (drop_all (length c.items-items.result.now) c.items-items.result.now (omega arith))),
  λ n. ap (λ l. put_back l (look c.args.table.now) n) c.new-saved.ensures.items,
)

pub loop-left-preserved : goal.loop-left-preserved
loop-left-preserved c =
    let e : c.loop-left.left ≡ suc (c.loop-left.left - 1) = grind (arith, c.loop-left-test.true) in (
      omega (arith, c.loop-left.invariant.0),
      λ n. function-hides c.items-items.result.now (c.loop-left.left - 1) c.args.def c.index-items-left.result (look c.loop-left.table) (look c.hide.new.table)
          (look c.args.table.now)
          (omega (arith, e, c.loop-left.invariant.0)) c.index-items-left.is
          (λ m. c.loop-left.invariant.1 m ∙ ap (λ j. or_outer (later_parameter c.args.def j (param m (drop j c.items-items.result.now)))
          (look c.args.table.now m)) e)
          c.in_ok-hide.ensures.sets n,
      λ n. c.in_ok-hide.ensures.saves n ∙ c.loop-left.invariant.2 n,
    )

pub returns-clause-enters : goal.returns-clause-enters
returns-clause-enters c n =
    let e : c.loop-left.left ≡ 0 = omega (arith, c.loop-left-test.false) in
    c.loop-left.invariant.1 n
    ∙ ap (λ j. or_outer (later_parameter c.args.def j (param n (drop j c.items-items.result.now))) (look c.args.table.now n)) e
    ∙ ap (λ o. or_outer o (look c.args.table.now n)) (all_parameters c.args.def (param n c.items-items.result.now))
    ∙ ap (λ l. or_outer (parameter_owner c.args.def (param n l)) (look c.args.table.now n)) c.items-items.ensures
