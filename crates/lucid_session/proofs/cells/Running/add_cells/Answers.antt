use Rattle.lucid_session.proofs.Common.{true, false, refl, arith, err_from_is_err_and}
use Rattle.lucid_session.proofs.CellSteps.{get_at, begins_cells, lacks_here, skipped_here, demanded_here, given_here, ends_cells}
use Rattle.lucid_session.proofs.cells.Running.add_cells.Goals as goal
use Rattle.lucid_session.proofs.cells.Running.add_cells.Goals.{then-is_open-space+in_ok-stays, else-is_open-space}

pub loop-space-init : goal.loop-space-init
loop-space-init g c = record {
  cells = λ z deep columns standing marked. begins_cells z _ _ _ _ _ _ c.clear.ensures.items standing marked;
  counts = omega arith;
  askable = c.requires.askable;
}

pub returns-in_err-part-clause-cells : goal.returns-in_err-part-clause-cells
returns-in_err-part-clause-cells g c z deep columns standing marked =
    let p = err_from_is_err_and c.from_residual.result c.from_residual.ensures.1 in
    rw (p.1, p.2)
    (lacks_here z _ _ _ _ _ _ _ _ (c.loop-space.invariant.cells z deep columns standing marked) _ c.in_err-part.ensures)

pub returns-in_err-stays-clause-cells : goal.returns-in_err-stays-clause-cells
returns-in_err-stays-clause-cells g c z deep columns standing marked =
    let now = c.loop-space.invariant.cells z deep columns standing marked in
    let is = get_at c.loop-space.is_open c.loop-space.space false true (omega (arith, c.loop-space-test.true, c.loop-space.auto.is_open))
    c.if-is_open-space.true in
    let p = err_from_is_err_and c.from_residual-in_err-stays.result c.from_residual-in_err-stays.ensures.1 in
    rw (p.1, p.2)
    (c.in_err-stays.ensures.cell z deep now.0 (demanded_here z _ _ _ _ _ _ _ _ now is (omega (arith, c.loop-space-test.true, columns))))

pub loop-space-preserved : goal.loop-space-preserved
loop-space-preserved g c =
    elim c.if-is_open-space.branch [
      | then-is_open-space+in_ok-stays w ↦ rw (w.self-is, w.places-is, w.is_open-is, w.goes_on-is) (record {
        cells = λ z deep columns standing marked.
            let now = c.loop-space.invariant.cells z deep columns standing marked in
            let is = get_at c.loop-space.is_open c.loop-space.space false true (omega (arith, c.loop-space-test.true, c.loop-space.auto.is_open))
            w.if-is_open-space.true in
            given_here z _ _ _ _ _ _ _ _ now is _ _ _ _ _ _ c.in_ok-part.ensures
            (w.in_ok-stays.ensures.cell z deep now.0 (demanded_here z _ _ _ _ _ _ _ _ now is (omega (arith, c.loop-space-test.true, columns)))) _ refl;
        counts = omega (arith, w.in_ok-stays.ensures.counts, c.loop-space.invariant.counts);
        askable = w.in_ok-stays.ensures.askable;
      })
      | else-is_open-space w ↦ rw (w.self-is, w.places-is, w.is_open-is, w.goes_on-is) (record {
        cells = λ z deep columns standing marked.
            let is = get_at c.loop-space.is_open c.loop-space.space false false (omega (arith, c.loop-space-test.true, c.loop-space.auto.is_open))
            w.if-is_open-space.false in
            skipped_here z _ _ _ _ _ _ _ _ (c.loop-space.invariant.cells z deep columns standing marked) is _ c.in_ok-part.ensures;
        counts = omega (arith, c.loop-space.invariant.counts);
        askable = c.loop-space.invariant.askable;
      })
    ]

pub returns-clause-cells : goal.returns-clause-cells
returns-clause-cells g c z deep columns standing marked =
    ends_cells z _ _ _ _ _ _ _ _ (c.loop-space.invariant.cells z deep columns standing marked)
    (omega (arith, c.loop-space-test.false, c.loop-space.auto.space-end, c.loop-space.auto.is_open)) (omega (arith, columns, c.loop-space.auto.is_open))
