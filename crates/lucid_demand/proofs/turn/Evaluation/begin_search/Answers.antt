use Rattle.lucid_demand.proofs.Beginning.{stands_still}
use Rattle.lucid_demand.proofs.turn.Evaluation.begin_search.Goals as goal

pub returns-else-is_search-clause-rows : goal.returns-else-is_search-clause-rows
returns-else-is_search-clause-rows g c = stands_still c.args.self.now.rows c.args.slot c.requires.ready
