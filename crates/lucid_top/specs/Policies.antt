-- The policy that the words name.
use Rattle.std.specs.Prelude.{ℕ, ◌+◌, ◌*◌, true, false, Option, Some, None}
use Rattle.lucid_session.specs.Runs.{PolicyView}
use Rattle.lucid_retire.specs.declared.policy.Policy.{Policy}
use Rattle.lucid_retire.specs.declared.policy.Policy.TheVariants as retire
use Rattle.lucid_words.specs.declared.PolicyWord.{PolicyWord}
use Rattle.lucid_words.specs.declared.PolicyWord.TheVariants as policy
use Rattle.lucid_words.specs.Asked.{PlainWords}

-- how many turns of the policy by age there are from one sweep to the next
abbrev pub turns_between_sweeps : ℕ
turns_between_sweeps = 1000

-- What the policy that a word names does. That by age leaves no more than was touched since the last sweeps; the last one as many as there is
-- room for.
abbrev pub policy_named : PolicyWord → (age room : ℕ) → PolicyView
policy_named policy.Keep age room = record { keeps = true; empties = false; room = None }
policy_named policy.Nothing age room = record { keeps = false; empties = true; room = Some 0 }
policy_named policy.Ages age room = record { keeps = false; empties = false; room = Some (turns_between_sweeps * (age + 1)) }
policy_named policy.Last age room = record { keeps = false; empties = false; room = Some room }

-- The policy itself, with its numbers, as it is before its first turn.
abbrev pub policy_asked : PolicyWord → (age room : ℕ) → Policy
policy_asked policy.Keep age room = retire.Keep (record {})
policy_asked policy.Nothing age room = retire.Nothing (record {})
policy_asked policy.Ages age room = retire.Ages (record { every = turns_between_sweeps; limit = age; since = 0 })
policy_asked policy.Last age room = retire.Last (record { room = room })

-- What the policy of the words does. Where they are refused, nothing is run.
abbrev pub policy_by : Option PlainWords → PolicyView
policy_by (Some w) = policy_named w.policy w.age w.room
policy_by None = policy_named policy.Keep 0 0
