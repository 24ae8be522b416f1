use Rattle.lucid_parse.proofs.Verdicts.{trees_well_made, places_few}
use Rattle.lucid_parse.proofs.laws.spelled_trees_are_well_made.Goals as goal

pub returns-clause-well_made : goal.returns-clause-well_made
returns-clause-well_made c = trees_well_made c.tokens_are_in_order.ensures c.tokens_are_few.ensures

pub returns-clause-few : goal.returns-clause-few
returns-clause-few c = places_few c.tokens_are_few.ensures
