use Rattle.std.proofs.Common.{◌≡◌, take}
use Rattle.std.specs.Prelude.{fold}
use Rattle.lucid_explain_command.specs.Watching.{plain_marks, note}
use Rattle.lucid_explain_command.proofs.noted.Noted.note_all.Given as goal

abbrev pub invariant-loop-byte : goal.invariant-loop-byte
invariant-loop-byte l = plain_marks l.noted ≡ fold note (plain_marks l.initial.noted) (take l.byte-index l.bytes)
