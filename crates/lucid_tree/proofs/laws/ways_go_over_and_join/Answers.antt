use Rattle.lucid_tree.proofs.Common.{Reads}
use Rattle.lucid_tree.proofs.Ways.{leads-maps, leads-join, one_reader_for_all}
use Rattle.lucid_tree.proofs.laws.ways_go_over_and_join.Goals as goal

pub returns-clause-over : goal.returns-clause-over
returns-clause-over c r r' p q h = leads-maps (Reads r) (Reads r') (λ l. h l.part l.time l.space) p q

pub returns-clause-join : goal.returns-clause-join
returns-clause-join c r = leads-join (Reads r)

pub returns-clause-one_limit : goal.returns-clause-one_limit
returns-clause-one_limit c rs p q h = one_reader_for_all rs h p q
