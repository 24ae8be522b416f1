use Rattle.std.proofs.Common.{◌≡◌, ◌++◌, drop}
use Rattle.lucid_show_steps.specs.Steps.{plain_steps}
use Rattle.lucid_show_steps.specs.Texts.{told_of, told_text, run_text}
use Rattle.lucid_show_steps.proofs.text.steps_text.Given as goal

-- the steps so far and those that are left
abbrev pub invariant-loop-step : goal.invariant-loop-step
invariant-loop-step l =
    l.text.items ++ told_text l.names (told_of l.so_far) (plain_steps (drop l.step-index l.steps)) ≡ run_text l.names l.most (plain_steps l.steps) l.fn.lines
