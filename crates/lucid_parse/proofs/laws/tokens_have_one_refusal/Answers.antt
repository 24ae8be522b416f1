use Rattle.lucid_parse.proofs.Verdicts.{one_refusal, not_refused}
use Rattle.lucid_parse.proofs.laws.tokens_have_one_refusal.Goals as goal

pub returns-clause-one : goal.returns-clause-one
returns-clause-one c = one_refusal c.terminals_are_unique.ensures c.terminals_spell_one_tree.ensures c.fault_is_unique.ensures

pub returns-clause-excluded : goal.returns-clause-excluded
returns-clause-excluded c = not_refused c.terminals_are_unique.ensures c.terminals_spell_one_tree.ensures c.fault_is_unique.ensures
