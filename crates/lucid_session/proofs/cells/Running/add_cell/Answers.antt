use Rattle.lucid_session.proofs.Common.{sym, subst, arith, AreAskable}
use Rattle.lucid_session.proofs.Steps.{few_after, streams_after, refused_here, standing_here, ended_here, shown_here, short_here}
use Rattle.lucid_session.proofs.cells.Running.add_cell.Goals as goal

pub demand_at-requires : goal.demand_at-requires
demand_at-requires g c = record {
  time_in_range = omega (arith, c.from.ensures, c.ranges.time.fits);
  space_in_range = omega (arith, c.requires.space);
  some_limit = omega (arith, c.requires.depth);
  inputs = subst (λ ss. AreAskable ss (g.P.Places.world c.args.places.now)) (sym (streams_after _ _ _ _ c.clear_many.ensures)) c.requires.askable;
  few_known = few_after _ _ _ _ c.clear_many.ensures;
}

pub returns-in-Err-clause-cell : goal.returns-in-Err-clause-cell
returns-in-Err-clause-cell g c z deep standing there =
    refused_here z _ _ _ _ _ _ _ _ _ _ _ c.clear_many.ensures deep c.from.ensures standing there c.in-Err.fault c.in-Err.ensures c.lost.result c.lost.ensures
    c.run_fault.result c.run_fault.ensures

pub returns-then-is_end-clause-cell : goal.returns-then-is_end-clause-cell
returns-then-is_end-clause-cell g c z deep standing there = (
  standing_here z _ _ _ _ _ _ _ _ _ _ _ c.clear_many.ensures deep c.from.ensures standing there c.in-Ok.value c.in-Ok.ensures,
  ended_here z _ _ _ _ _ _ _ _ _ _ _ c.clear_many.ensures deep c.from.ensures standing there c.in-Ok.value c.in-Ok.ensures c.if-is_end.ensures
      c.args.self.now.line.items,
)

pub returns-in-Ok-show-clause-cell : goal.returns-in-Ok-show-clause-cell
returns-in-Ok-show-clause-cell g c z deep standing there = (
  standing_here z _ _ _ _ _ _ _ _ _ _ _ c.clear_many.ensures deep c.from.ensures standing there c.in-Ok.value c.in-Ok.ensures,
  shown_here z _ _ _ _ _ _ _ _ _ _ _ c.clear_many.ensures deep c.from.ensures standing there c.in-Ok.value c.in-Ok.ensures c.if-is_end.ensures
      c.args.self.now.line.items c.show.new.to.items c.in-Ok-show.ensures,
)

pub returns-clause-cell : goal.returns-clause-cell
returns-clause-cell g c z deep standing there =
    short_here z _ _ _ _ _ _ _ _ _ _ _ c.clear_many.ensures deep c.from.ensures standing there c.in-Ok.value c.in-Ok.ensures
