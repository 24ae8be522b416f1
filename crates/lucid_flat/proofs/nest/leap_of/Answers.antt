use Rattle.lucid_flat.proofs.SoundCommon.{arith, itself}
use Rattle.lucid_flat.proofs.Nesting.{round-then}
use Rattle.lucid_flat.proofs.nest.leap_of.Goals as goal

pub returns-then-near-far-clause-round : goal.returns-then-near-far-clause-round
returns-then-near-far-clause-round c xs round =
    let once = c.requires.low c.args.parent c.requires.known in
    round-then xs _ _ _ (round _ (omega (arith, once, c.requires.known))) (round c.args.parent c.requires.known)

pub returns-else-near-far-clause-round : goal.returns-else-near-far-clause-round
returns-else-near-far-clause-round c xs round = itself
