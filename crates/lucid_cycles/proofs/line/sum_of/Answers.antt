use Rattle.lucid_cycles.proofs.Common.{get_or, arith, rules, ◌∙◌, subst, sym, pos, to_z-of_z}
use mir.Syntax.{w64}
use mir.Val.{SFits}
use Rattle.lucid_cycles.proofs.Totals.{summed-more}
use Rattle.lucid_cycles.proofs.line.sum_of.Goals as goal

pub loop-delay-preserved : goal.loop-delay-preserved
loop-delay-preserved c =
    let element : SFits w64 (get_or c.args.delays.now c.loop-delay.delay-index (pos 0)) = search rules in
    let is = c.from-sum.ensures ∙ to_z-of_z w64 (get_or c.args.delays.now c.loop-delay.delay-index (pos 0)) element in
    summed-more c.args.delays.now c.loop-delay.delay-index _ c.from-sum.result c.loop-delay-test.true (omega (arith, c.well_formed.0.1))
    (subst (SFits w64) (sym is) element) is c.loop-delay.invariant
