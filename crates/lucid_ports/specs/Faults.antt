-- The counts of an object: of faults, by which a caller sees that it was the outside that failed; and of the calls that came late, once one had.
use Rattle.std.specs.Prelude.{◌≡◌, ◌⊎◌, ℕ, ◌+◌, ◌-◌, ◌^◌, ◌<◌, min, Result, Ok, Err}
use Rattle.lucid_ports.specs.World.{World}
use Rattle.lucid_ports.specs.declared.fault.PortFault.{PortFault}
use Rattle.lucid_ports.specs.declared.fault.PortFault.TheVariants.{Failed, NoMemory}

-- a count rose, or stands at the last value of its type
abbrev pub Rises : ℕ → ℕ → Type 0
Rises old new = old < 2 ^ 64 - 1 → old < new

-- The count of calls that came late: a call after one that failed is counted, and no other.
abbrev pub CountsLate : (faults : ℕ) → (old new : ℕ) → Type 0
CountsLate faults old new = (0 < faults → Rises old new) × (faults ≡ 0 → new ≡ old)

-- Nothing was asked after a fault: where no call had failed before, none came late.
abbrev pub EndsAtItsFault : (faults : ℕ) → (old new : ℕ) → Type 0
EndsAtItsFault faults old new = faults ≡ 0 → new ≡ old

-- so it is of places
abbrev pub AsksNoneLate : (old new : World) → Type 0
AsksNoneLate old new = EndsAtItsFault old.faults old.late new.late

-- that call failed, or the count is as it was
abbrev pub CountsNoFaultUnless : Type 0 → ℕ → ℕ → Type 0
CountsNoFaultUnless failed old new = failed ⊎ (new ≡ old)

-- the count after a call with that answer: one more where it failed, but no more than the last value of its type
abbrev pub faults_after : {T : Type 0} → ℕ → Result T PortFault → ℕ
faults_after old (Ok x) = old
faults_after old (Err Failed) = min (old + 1) (2 ^ 64 - 1)
faults_after old (Err NoMemory) = old
