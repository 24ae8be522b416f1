use Rattle.lucid_explain_source.proofs.Common.{◌≡◌, drop, map}
use Rattle.lucid_explain_source.specs.Characters.{bytes_and_advice, first_advice}
use Rattle.lucid_explain_source.proofs.characters.character_advice.Given as goal

abbrev pub invariant-loop-bytes : goal.invariant-loop-bytes
invariant-loop-bytes l = first_advice (map bytes_and_advice l.characters) l.rest ≡ first_advice (map bytes_and_advice (drop l.bytes-index l.characters)) l.rest
