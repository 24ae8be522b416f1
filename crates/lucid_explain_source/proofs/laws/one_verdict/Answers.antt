use Rattle.lucid_explain_source.proofs.Verdicts.{Laws, accepted_or_refused, explained_are_refused, one_fault}
use Rattle.lucid_explain_source.proofs.laws.one_verdict.Goals as goal

pub returns : goal.returns
returns c =
    let laws : Laws = record {
      tokens = c.tokens_are_unique.ensures;
      not_refused = c.tokens_are_not_refused.ensures;
      scans = c.refusal_is_unique.ensures;
      trees = c.tokens_spell_one_tree.ensures;
      well_made = c.spelled_trees_are_well_made.ensures.well_made;
      refusals = c.tokens_have_one_refusal.ensures.one;
      spelled = c.tokens_have_one_refusal.ensures.excluded;
      faults = c.least_fault_is_unique.ensures.unique;
      none = c.least_fault_is_unique.ensures.excluded;
    } in
    record {
      accepted = λ source. accepted_or_refused laws source;
      refused = λ file source. explained_are_refused laws source file;
      one_fault = λ file source. one_fault laws source file;
    }
