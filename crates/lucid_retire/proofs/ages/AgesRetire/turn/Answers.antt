use Rattle.lucid_retire.proofs.Common.{◌≡◌, ap, sym, subst, arith, Aging, most_of, IsPaced}
use Rattle.lucid_retire.proofs.Paces.{paced_turn}
use Rattle.lucid_retire.proofs.ages.AgesRetire.turn.Goals as goal

pub returns-then-len-most-clause-spares : goal.returns-then-len-most-clause-spares
returns-then-len-most-clause-spares c = λ w key paced touches small.
    let p = paced_turn c.args.self.now w c.args.warehouse.now key paced touches c.sweep_in_time.ensures.below small c.sweep_in_time.new.warehouse
    c.sweep_in_time.ensures.sweeps c.len.ensures.one_for_each in
    let most : most_of c.sweep_in_time.new.self ≡ most_of c.args.self.now = ap most_of c.sweep_in_time.ensures.counted in
    absurd (omega (arith, p.1, most))

pub returns-else-len-most-clause-spares : goal.returns-else-len-most-clause-spares
returns-else-len-most-clause-spares c = λ w key paced touches small.
    let p = paced_turn c.args.self.now w c.args.warehouse.now key paced touches c.sweep_in_time.ensures.below small c.sweep_in_time.new.warehouse
    c.sweep_in_time.ensures.sweeps c.len.ensures.one_for_each in
    (subst (λ (a : Aging). IsPaced a c.sweep_in_time.new.warehouse) (sym c.sweep_in_time.ensures.counted) p.0, c.sweep_in_time.ensures.sweeps)
