use Rattle.std.proofs.Common.{◌∙◌}
use Rattle.lucid_test_outside.proofs.inputs.ask_side.Goals as goal

pub returns-clause-askable : goal.returns-clause-askable
returns-clause-askable g c = c.asked_again.ensures _ _ _ _ _ _ c.element.follows.holds-at-none.reads c.requires.askable

pub returns-clause-count : goal.returns-clause-count
returns-clause-count g c = c.element.follows.holds-at-none.reads.count ∙ c.requires.count

pub returns-clause-reached : goal.returns-clause-reached
returns-clause-reached g c = c.element.follows.holds-at-none.reads.asked.reached
