-- A call of the command: what its words ask for, what the policy does that a run is handed, and what its places and its output tell before
-- and after it.
use Rattle.std.specs.Prelude.{Option}
use Rattle.lucid_ports.specs.World.{World}
use Rattle.lucid_words.specs.Asked.{PlainWords}
use Rattle.lucid_session.specs.Runs.{PolicyView}
use Rattle.lucid_ports.specs.Told.{Told}
use Rattle.lucid_top.specs.Policies.{policy_by}

pub record Call : Type 0 where
  -- what the words ask for; nothing where they are refused
  pub asked : Option PlainWords
  pub policy : PolicyView
  pub before : World
  pub after : World
  pub out_before : Told
  pub out_after : Told

-- the call with these words, under this policy, from the old places and output to the new
abbrev pub call_under : PolicyView → Option PlainWords → (before after : World) → (out_before out_after : Told) → Call
call_under policy asked w v o p = record { asked = asked; policy = policy; before = w; after = v; out_before = o; out_after = p }

-- the same under the policy of the words
abbrev pub call : Option PlainWords → (before after : World) → (out_before out_after : Told) → Call
call asked = call_under (policy_by asked) asked
