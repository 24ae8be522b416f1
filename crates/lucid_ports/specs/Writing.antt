-- What a sink was given.
use Rattle.std.specs.Prelude.{◌≡◌, ℕ, zero, suc, List, ◌++◌, take, Option, option_map, Result, Ok, Err, MatchResult, ⊤}
use Rattle.lucid_ports.specs.declared.fault.PortFault.{PortFault}

-- the bytes written, where they are told, with the first n of a piece behind them
abbrev pub with_front : ℕ → List ℕ → Option (List ℕ) → Option (List ℕ)
with_front n piece written = option_map (λ bytes. bytes ++ take n piece) written

-- the bytes written, where they are told, with the whole piece behind them
abbrev pub with_all : List ℕ → Option (List ℕ) → Option (List ℕ)
with_all piece written = option_map (λ bytes. bytes ++ piece) written

-- so many writes one after another, none of which fails
abbrev pub Writes : {K : Type 0} → (K → List ℕ → Result ℕ PortFault → K → Type 0) → ℕ → K → K → Type 0
Writes gives zero old new = new ≡ old
Writes {K} gives (suc n) old new = (middle : K) × (piece : List ℕ) × (taken : ℕ) × Writes gives n old middle × gives middle piece (Ok taken) new

-- the same, and then one that fails so
abbrev pub FailsAtLast : {K : Type 0} → (K → List ℕ → Result ℕ PortFault → K → Type 0) → K → PortFault → K → Type 0
FailsAtLast {K} gives old fault new = (n : ℕ) × (last : K) × (piece : List ℕ) × Writes gives n old last × gives last piece (Err fault) new

-- no write comes after one that failed, and the answer tells of it
abbrev pub EndsAtFault : {K : Type 0} → (K → List ℕ → Result ℕ PortFault → K → Type 0) → K → Result ⊤ PortFault → K → Type 0
EndsAtFault gives old result new = MatchResult result (λ _. (n : ℕ) × Writes gives n old new) (λ fault. FailsAtLast gives old fault new)
