use Rattle.lucid_flat.proofs.LeadWalks.{met-visited, visited-met}
use Rattle.lucid_flat.proofs.sound_laws.met_nodes_are_visited.Goals as goal

pub returns-clause-visited : goal.returns-clause-visited
returns-clause-visited z = met-visited

pub returns-clause-met : goal.returns-clause-met
returns-clause-met z = visited-met
