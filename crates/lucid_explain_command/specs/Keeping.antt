-- What is kept of the place that is reached first, and what places tell that keep it.
use Rattle.std.specs.Prelude.{◌≡◌, ℕ, ◌+◌, ◌-◌, ◌<◌, ◌≤◌, ◌==◌, List, [], length, take, drop, min, IfSome, if◌then◌else◌}
use Rattle.std.specs.Io.{StartsWith}
use Rattle.lucid_ports.specs.Faults.{CountsLate, CountsNoFaultUnless, Rises}
use Rattle.lucid_ports.specs.World.{Place, World, KeepsOthers}
use Rattle.lucid_explain_command.specs.declared.kept.Kept.{Kept}
use Rattle.lucid_explain_command.specs.declared.piece.Piece.{Piece}

-- The bytes that were consumed, in order; those that are shown; and how many of the piece last shown were consumed since.
pub record Store : Type 0 where
  pub taken : List ℕ
  pub shown : List ℕ
  pub used : ℕ

abbrev pub plain_kept : Kept → Store
plain_kept k = record { taken = take k.consumed k.bytes.items; shown = drop k.consumed k.bytes.items; used = k.consumed - k.from }

abbrev pub nothing_kept : Store
nothing_kept = record { taken = []; shown = []; used = 0 }

-- the bytes of a piece of another place
abbrev pub plain_piece : Piece → List ℕ
plain_piece p = take p.length p.bytes

-- What is kept of a place is what was consumed of it, and behind that a front of what is left, of no more bytes than the place shows.
pub record KeepsPlace (p : Place) (k : Store) : Type 0 where
  pub contents : IfSome p.contents (λ c. (c.consumed ≡ k.taken) × StartsWith c.left k.shown)
  pub within : length k.shown ≤ p.shown

-- So it is of the place that is reached first.
abbrev pub KeepsFirst : World → Store → Type 0
KeepsFirst w k = 0 < w.reached → KeepsPlace (w.place 0) k

-- One call at the place of this number, which failed or didn't: no other place changes, and the counts go by it.
pub record CallsAt (number : ℕ) (failed : Type 0) (old new : World) : Type 0 where
  pub others : KeepsOthers number old new
  pub reached : new.reached ≡ old.reached
  pub faults : failed → Rises old.faults new.faults
  pub no_fault : CountsNoFaultUnless failed old.faults new.faults
  pub late : CountsLate old.faults old.late new.late

-- Of the place that is reached first what is shown is what is kept to be shown; no other place shows more than 256 bytes at a time. The bytes of all
-- places, the names and the counts are those of the places that are read.
abbrev pub first_place : Store → Place → Place
first_place k p = record { contents = p.contents; shown = length k.shown; used = k.used }

abbrev pub short_place : Place → Place
short_place p = record { contents = p.contents; shown = min 256 (p.shown + p.used) - p.used; used = p.used }

abbrev pub place_in : Store → World → ℕ → Place
place_in k w q = if q == 0 then first_place k (w.place q) else short_place (w.place q)

abbrev pub remembered : Store → World → World
remembered k w = record { holds = w.holds; asked = w.asked; reached = w.reached; place = place_in k w; faults = w.faults; late = w.late }

-- Those are all bytes that were consumed of the place that was reached first, where it tells them.
abbrev pub IsRead : World → (bytes : List ℕ) → Type 0
IsRead w bytes = 0 < w.reached → IfSome (w.place 0).contents (λ c. bytes ≡ c.consumed)
