use Rattle.lucid_parse.proofs.Common.{◌≡◌, None, map, take, terminal_in, pair_of}
use Rattle.lucid_parse.proofs.spelling.terminal_among.Given as goal

-- no spelling so far has these bytes
abbrev pub invariant-loop-spelling : goal.invariant-loop-spelling
invariant-loop-spelling l = terminal_in l.bytes (map pair_of (take l.spelling-index l.spellings)) ≡ None
