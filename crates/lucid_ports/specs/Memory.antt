-- Places in memory, and the calls on them that fail.
use Rattle.std.specs.Prelude.{◌≡◌, ◌⊎◌, ◌↔◌, ℕ, ◌+◌, ◌≤◌, List, length, Some, Result, IfOk, OnOk, OnErr, IsErrOf, Contains, remove}
use Rattle.std.specs.List.{slice_get}
use denote.Ref.{Bor}
use Rattle.lucid_ports.specs.declared.fault.PortFault.{PortFault}
use Rattle.lucid_ports.specs.declared.fault.PortFault.TheVariants.{Failed, NoMemory}
use Rattle.lucid_ports.specs.declared.memory_places.FailAt.{FailAt}
use Rattle.lucid_ports.specs.World.{Contents}

-- a call that is to fail: the next that would look at the byte at that position of that place
abbrev pub fail_at : ℕ → ℕ → FailAt
fail_at place position = record { place = place; position = position }

-- of the failures to come, one is spent
abbrev pub Spends : FailAt → List FailAt → List FailAt → Type 0
Spends failure old new = (k : ℕ) × (slice_get old k ≡ Some failure) × (new ≡ remove old k)

-- What a piece in memory is, at a place with these contents, and which of the failures to come are left after the call.
pub record ShowsUpToFailure (c : Contents) (place : ℕ) (old : List FailAt) (result : Result (Bor (List ℕ)) PortFault) (new : List FailAt) : Type 0 where
  -- it fails exactly where a failure stands at the next position, which is then spent
  pub failing : IsErrOf result Failed ↔ Contains old (fail_at place (length c.consumed))
  pub spent : OnErr result (Spends (fail_at place (length c.consumed)) old new)
  pub kept : OnOk result (new ≡ old)
  -- it takes no memory
  pub memory : IsErrOf result NoMemory → ⊥
  -- it shows nothing at or past the position of a failure, and all before the first one
  pub before : (p : ℕ) → length c.consumed ≤ p → Contains old (fail_at place p) → IfOk result (λ piece. length c.consumed + length piece.now ≤ p)
  pub whole : IfOk result (λ piece. (piece.now ≡ c.left) ⊎ Contains old (fail_at place (length c.consumed + length piece.now)))
