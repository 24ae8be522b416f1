use Rattle.lucid_explain_places.proofs.Common.{◌≡◌, ◌++◌, map, take}
use Rattle.lucid_explain_places.specs.Shown.{shown_byte}
use Rattle.lucid_explain_places.proofs.shown.put_shown.Given as goal

-- the bytes so far are appended
abbrev pub invariant-loop-byte : goal.invariant-loop-byte
invariant-loop-byte l = l.text.items ≡ l.initial.text.items ++ map shown_byte (take l.byte-index l.bytes)
