use Rattle.lucid_cycles.proofs.Common.{rules}
use Rattle.lucid_cycles.proofs.Found.{text-in, text-out}
use Rattle.lucid_cycles.proofs.line.put_name.Goals as goal

pub returns-in-None : goal.returns-in-None
returns-in-None c = let t = text-out c.args.found.now c.args.number c.in-None.ensures.lookup.3 in search (rules, t)

pub returns-in-Some : goal.returns-in-Some
returns-in-Some c =
    rw (text-in c.args.found.now c.args.number c.in-Some.def.now c.in-Some.ensures.lookup.3.0 (c.in-Some.ensures.lookup.3.1 c.in-Some.def.now))
    c.put_definition.ensures
