use Rattle.lucid_top.proofs.Headlines.{headline-follows}
use Rattle.lucid_top.proofs.top.lucid_under.Goals as goal

pub returns-clause-clauses : goal.returns-clause-clauses
returns-clause-clauses g c = record {
  outcome = c.outcome_under-outcome.result;
  met = c.outcome_under-outcome.ensures;
  report = c.tell.ensures.tells;
  report_late = c.tell.ensures.late;
}

pub returns-clause-headline : goal.returns-clause-headline
returns-clause-headline g c = headline-follows _ _ _ _ (returns-clause-clauses g c)
