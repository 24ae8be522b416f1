use Rattle.lucid_parse.proofs.Common.{take, terminals_of, Terminals}
use Rattle.lucid_parse.proofs.terminals.read_terminals.Given as goal

-- the terminals so far are the terminals of the tokens so far
abbrev pub invariant-loop-token : goal.invariant-loop-token
invariant-loop-token l = Terminals l.source (take l.token-index l.tokens) (terminals_of l.terminals.items)
