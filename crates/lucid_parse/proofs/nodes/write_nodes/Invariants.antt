use Rattle.lucid_parse.proofs.Common.{◌≡◌, Some, take, state, start, feeds, fill_state, name_now, value_now, terminals_of}
use Rattle.lucid_parse.proofs.nodes.write_nodes.Given as goal

-- the terminals so far lead to where the machine is
abbrev pub invariant-loop-terminal : goal.invariant-loop-terminal
invariant-loop-terminal l = feeds start (take l.terminal-index (terminals_of l.terminals)) ≡ Some
    (fill_state name_now value_now (state l.focus l.machine.frames l.machine.out.items))
