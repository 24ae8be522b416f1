-- Searches in streams: for a true value, and for the number of true values.
use Rattle.std.specs.Prelude.{ℕ, zero, suc, true, false}
use Rattle.lucid_value.specs.Plain.{PlainValue, truth, eod, fault}
use Rattle.lucid_fixed_point.specs.Streams.{Streams}
use Rattle.lucid_fixed_point.specs.Tests.{Values, IsNoTruth, Tested}

-- Part 0 at the time of the true value number n of part 1, from a time on. What is no truth ends it before.
pub data Search (a : Streams) (s : ℕ) : (from n : ℕ) → PlainValue → Type 0 where
  found : {j : ℕ} {v : PlainValue} → a 1 j s (truth true) → a 0 j s v → Search a s j zero v
  past_true : {j n : ℕ} {v : PlainValue} → a 1 j s (truth true) → Search a s (suc j) n v → Search a s j (suc n) v
  past_false : {j n : ℕ} {v : PlainValue} → a 1 j s (truth false) → Search a s (suc j) n v → Search a s j n v
  ends : {j n : ℕ} → a 1 j s eod → Search a s j n eod
  fails : {j n : ℕ} {w : PlainValue} → a 1 j s w → IsNoTruth w → Search a s j n fault

-- Part 0 at n and the number of true values of part 1, at so many times from a time on. What is no truth ends it before.
abbrev pub Advance : Streams → (space left from n : ℕ) → Values
Advance a s zero j n = a 0 n s
Advance a s (suc k) j n = Tested (a 1 j s) (Advance a s k (suc j) (suc n)) (Advance a s k (suc j) n)
