use Rattle.lucid_top.proofs.top.lucid.Goals as goal

pub returns : goal.returns
returns g c = record {
  outcome = c.outcome_of-outcome.result;
  met = c.outcome_of-outcome.ensures;
  report = c.tell.ensures.tells;
  report_late = c.tell.ensures.late;
}
