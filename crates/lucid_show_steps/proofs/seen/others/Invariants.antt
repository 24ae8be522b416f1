use Rattle.std.proofs.Common.{◌≡◌, ◌++◌, drop}
use Rattle.std.specs.Prelude.{not}
use Rattle.std.specs.List.{filter}
use Rattle.lucid_tags.specs.Keys.{same_key}
use Rattle.lucid_show_steps.proofs.seen.others.Given as goal

-- those so far and those that are left
abbrev pub invariant-loop-other : goal.invariant-loop-other
invariant-loop-other l =
    l.others.items ++ filter (λ q. not (same_key l.key q)) (drop l.other-index l.keys) ≡ filter (λ q. not (same_key l.key q)) l.keys
