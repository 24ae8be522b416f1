use Rattle.lucid_ports.proofs.Common.{◌≡◌, drop, bytes_named}
use Rattle.lucid_ports.proofs.files.find_file.Given as goal

abbrev pub invariant-loop-k : goal.invariant-loop-k
invariant-loop-k l = bytes_named (drop l.k l.files) l.name ≡ bytes_named l.files l.name
