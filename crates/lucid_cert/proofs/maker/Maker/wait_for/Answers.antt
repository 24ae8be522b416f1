use Rattle.lucid_cert.proofs.Starting.{own_memory}
use Rattle.lucid_cert.proofs.StayingWanted.{look_refused, look_stays}
use Rattle.lucid_cert.proofs.maker.Maker.wait_for.Goals as goal

pub wait-requires-clause-waiting : goal.wait-requires-clause-waiting
wait-requires-clause-waiting c = record {
  may = c.requires.may;
  waits = (
    c.requires.forming,
    c.is_allowed.ensures.allowed.0 c.if-not-is_allowed.false,
    c.is_allowed.ensures.time c.if-not-is_allowed.false
        c.requires.forming.inside.point,
  );
}

pub returns-in_err-wait-clause-own : goal.returns-in_err-wait-clause-own
returns-in_err-wait-clause-own c = own_memory c.from_residual.result c.from_residual.ensures.1

pub returns-then-not-is_allowed-clause-wanted : goal.returns-then-not-is_allowed-clause-wanted
returns-then-not-is_allowed-clause-wanted c b root range own come all =
    look_refused b root c.args.self.now c.args.self.now range c.args.making c.args.look own come c.is_allowed.result c.is_allowed.ensures.allowed
    c.if-not-is_allowed.true

pub returns-clause-wanted : goal.returns-clause-wanted
returns-clause-wanted c b root range own come all =
    look_stays b root c.args.self.now c.wait.new.self range c.args.making c.args.look own come (c.in_ok-wait.ensures.wanted b root) all
