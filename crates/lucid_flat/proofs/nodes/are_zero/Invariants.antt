use Rattle.lucid_flat.proofs.SoundCommon.{drop, ◌↔◌}
use Rattle.lucid_equations.specs.Sound.{AreZero}
use Rattle.lucid_flat.proofs.nodes.are_zero.Given as goal

-- all are 0 where those from this one on are
abbrev pub invariant-loop-number : goal.invariant-loop-number
invariant-loop-number l = AreZero (drop l.number-index l.numbers) ↔ AreZero l.numbers
