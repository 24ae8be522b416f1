-- What a sink tells.
use Rattle.std.specs.Prelude.{ℕ, List, Option}
use Rattle.lucid_ports.specs.Faults.{EndsAtItsFault}

-- the bytes written to a sink, where it tells them, and its counts: of faults, and of the calls that came late, once one had failed
pub record Told : Type 0 where
  pub bytes : Option (List ℕ)
  pub faults : ℕ
  pub late : ℕ

-- what a sink of any kind tells
abbrev pub told : {K : Type 0} → (written : K → Option (List ℕ)) → (faults late : K → ℕ) → K → Told
told written faults late sink = record { bytes = written sink; faults = faults sink; late = late sink }

-- no write came after one that failed
abbrev pub WritesNoneLate : (old new : Told) → Type 0
WritesNoneLate old new = EndsAtItsFault old.faults old.late new.late
