-- A step leads one terminal on, or shows the fault.
use Rattle.lucid_parse.proofs.Common.{state}
use Rattle.lucid_parse.proofs.Reading.{terminal_read, terminal_stops, terminals_stop, terminals_read}
use Rattle.lucid_parse.proofs.nodes.write_nodes.Goals as goal

pub returns-in-None-clause-refused : goal.returns-in-None-clause-refused
returns-in-None-clause-refused c =
    let stops = rw c.in-None.is at c.in_ok-next.ensures in
    terminal_stops c.args.terminals.now (state c.loop-terminal.focus c.loop-terminal.machine.frames c.loop-terminal.machine.out.items)
    c.loop-terminal.terminal-index _
    c.loop-terminal-test.true c.terminal-item.is _ c.loop-terminal.invariant c.borrowed.ensures c.args.end stops

pub loop-terminal-preserved : goal.loop-terminal-preserved
loop-terminal-preserved c =
    let onward = rw c.in-Some.is at c.in_ok-next.ensures in
    terminal_read c.args.terminals.now (state c.loop-terminal.focus c.loop-terminal.machine.frames c.loop-terminal.machine.out.items)
    c.loop-terminal.terminal-index _
    c.loop-terminal-test.true c.terminal-item.is _ c.loop-terminal.invariant c.borrowed.ensures _ onward

pub returns-clause-refused : goal.returns-clause-refused
returns-clause-refused c =
    let over = rw c.if-branch.false at c.in_ok-finish_to.ensures in
    terminals_stop c.args.terminals.now (state c.loop-terminal.focus c.loop-terminal.machine.frames c.loop-terminal.machine.out.items)
    c.loop-terminal.terminal-index
    c.loop-terminal-test.false c.loop-terminal.invariant c.args.end over

pub returns-then-branch-clause-ok : goal.returns-then-branch-clause-ok
returns-then-branch-clause-ok c =
    let done = rw c.if-branch.true at c.in_ok-finish_to.ensures in
    terminals_read c.args.terminals.now (state c.loop-terminal.focus c.loop-terminal.machine.frames c.loop-terminal.machine.out.items)
    c.loop-terminal.terminal-index
    c.loop-terminal-test.false c.loop-terminal.invariant _ done
