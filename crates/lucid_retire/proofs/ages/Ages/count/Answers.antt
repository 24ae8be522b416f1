use Rattle.lucid_retire.proofs.CountedTurns.{sweep_counted, sweep_told, turn_counted, turn_told}
use Rattle.lucid_retire.proofs.ages.Ages.count.Goals as goal

pub returns-then-self-eq1-clause-counted : goal.returns-then-self-eq1-clause-counted
returns-then-self-eq1-clause-counted c =
    sweep_counted c.self.inside.every c.self.inside.limit c.self.inside.left c.args.self.now c.self.view_is c.self.invariant.1 c.if-self-eq1.true

pub returns-then-self-eq1-clause-sweeps : goal.returns-then-self-eq1-clause-sweeps
returns-then-self-eq1-clause-sweeps c =
    sweep_told c.self.inside.every c.self.inside.limit c.self.inside.left c.args.self.now c.self.view_is c.self.invariant.1 c.if-self-eq1.true

pub returns-clause-counted : goal.returns-clause-counted
returns-clause-counted c =
    turn_counted c.self.inside.every c.self.inside.limit c.self.inside.left c.args.self.now c.self.view_is c.self.invariant.1 (λ one. c.if-self-eq1.false one)
    c.self.invariant.0

pub returns-clause-sweeps : goal.returns-clause-sweeps
returns-clause-sweeps c =
    turn_told c.self.inside.every c.self.inside.limit c.self.inside.left c.args.self.now c.self.view_is c.self.invariant.1 (λ one. c.if-self-eq1.false one)
    c.self.invariant.0
