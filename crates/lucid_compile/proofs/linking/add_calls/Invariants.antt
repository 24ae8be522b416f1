use Rattle.lucid_compile.proofs.Common.{◌≡◌, length, take, ◌++◌, ◌-◌, lists, numbered, with_names, rows_of_calls}
use Rattle.lucid_compile.proofs.linking.add_calls.Given as goal

-- the calls before this one have their rows
abbrev pub invariant-loop-i : goal.invariant-loop-i
invariant-loop-i l =
    lists l.rows ≡ with_names ((lists l.initial.rows).names ++ rows_of_calls (numbered l.source) (lists l.initial.rows).bodies
    (take l.i (lists l.initial.rows).keys.calls)) (lists l.initial.rows)

abbrev pub decreases-loop-i : goal.decreases-loop-i
decreases-loop-i l = length (lists l.initial.rows).keys.calls - l.i
