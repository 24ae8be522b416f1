use Rattle.std.proofs.Common.{◌≤◌, take}
use Rattle.lucid_show_steps.specs.Turns.{HoldsSame, AreGone}
use Rattle.lucid_show_steps.proofs.seen.gone_front.Given as goal

-- those so far are gone
abbrev pub invariant-loop-gone : goal.invariant-loop-gone
invariant-loop-gone l = (l.gone ≤ l.count) × AreGone l.warehouse (take l.gone l.keys) × HoldsSame l.initial.warehouse l.warehouse
