use Rattle.std.proofs.Common.{◌≡◌, ◌++◌, drop, map}
use Rattle.lucid_show_steps.specs.Steps.{plain_steps, drops}
use Rattle.lucid_show_steps.proofs.steps.Telling.tell_dropped.Given as goal

-- the keys so far and those that are left
abbrev pub invariant-loop-key : goal.invariant-loop-key
invariant-loop-key l =
    (plain_steps l.self.steps.items ++ map drops (drop l.key-index l.keys) ≡ plain_steps l.initial.self.steps.items ++ map drops l.keys)
    × (l.self.time ≡ l.initial.self.time) × (l.self.begun ≡ l.initial.self.begun)
