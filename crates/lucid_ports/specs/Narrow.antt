-- What a narrowed reader shows.
use Rattle.std.specs.Prelude.{◌≡◌, ℕ, ◌+◌, ◌-◌, min, List, take, Result, MatchResult, IsOkAnd, Err}
use denote.Ref.{Bor}
use Rattle.lucid_ports.specs.declared.fault.PortFault.{PortFault}
use Rattle.lucid_ports.specs.World.{Place, World}

-- the place, of whose piece no more than the first `most` bytes are shown
abbrev pub narrowed_place : ℕ → Place → Place
narrowed_place most p = record { contents = p.contents; shown = min most (p.shown + p.used) - p.used; used = p.used }

-- the same names, those asked for, places and counts, each place narrowed
abbrev pub narrowed : ℕ → World → World
narrowed most w = record { holds = w.holds; asked = w.asked; reached = w.reached; place = λ k. narrowed_place most (w.place k); faults = w.faults; late = w.late }

-- the answer is one that the inner reader gives, but that no more than the first `most` bytes of its piece are shown
abbrev pub NarrowsPiece : ℕ → (Result (Bor (List ℕ)) PortFault → Type 0) → Result (Bor (List ℕ)) PortFault → Type 0
NarrowsPiece most Gives result = (inner : Result (Bor (List ℕ)) PortFault) × Gives inner
    × MatchResult inner (λ all. IsOkAnd result (λ piece. piece.now ≡ take most all.now)) (λ e. result ≡ Err e)
