use Rattle.lucid_equations.proofs.ByStep.{parts-keep, parts-agree}
use Rattle.lucid_equations.proofs.laws.parts_are_read_rightly.Goals as goal

pub returns-clause-never_lose : goal.returns-clause-never_lose
returns-clause-never_lose z = parts-keep

pub returns-clause-never_differ : goal.returns-clause-never_differ
returns-clause-never_differ z = parts-agree
