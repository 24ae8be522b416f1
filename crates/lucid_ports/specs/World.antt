-- What an object that reads the outside can tell: values of contracts alone, which no code holds.
use Rattle.std.specs.Prelude.{◌≡◌, ◌≢◌, ◌⊎◌, ℕ, ◌+◌, ◌-◌, ◌≤◌, List, [], ◌∷◌, ◌++◌, take, drop, Option, option_map}

-- the bytes of a place: those that were consumed, in order, and those that are left
pub record Contents : Type 0 where
  pub consumed : List ℕ
  pub left : List ℕ

-- A place that is read from: its bytes, where it tells them; how many bytes it shows, all of which may be consumed;
-- and how many of the piece last shown were consumed since.
pub record Place : Type 0 where
  pub contents : Option Contents
  pub shown : ℕ
  pub used : ℕ

-- All that is read from: the bytes that each name holds, where that is told; the names that were asked for, in order; how many places are
-- reached; the place of each number below that; how often a call has failed; and how many calls came late, once one had failed.
pub record World : Type 0 where
  pub holds : List ℕ → Option (List ℕ)
  pub asked : List (List ℕ)
  pub reached : ℕ
  pub place : ℕ → Place
  pub faults : ℕ
  pub late : ℕ

-- the bytes of a place just reached, of which all are left
abbrev pub unread : List ℕ → Contents
unread bytes = record { consumed = []; left = bytes }

-- the same bytes after the first n that were left are consumed
abbrev pub advanced : ℕ → Contents → Contents
advanced n c = record { consumed = c.consumed ++ take n c.left; left = drop n c.left }

-- a place just reached: nothing is consumed or shown, and what its name holds is left
pub record IsFresh (bytes : Option (List ℕ)) (place : Place) : Type 0 where
  pub contents : place.contents ≡ option_map unread bytes
  pub shown : place.shown ≡ 0
  pub used : place.used ≡ 0

-- a piece of n bytes is shown, and nothing is consumed
pub record IsShown (n : ℕ) (old new : Place) : Type 0 where
  pub contents : new.contents ≡ old.contents
  pub shown : new.shown ≡ n
  pub used : new.used ≡ 0

-- the first n bytes left are consumed, and the number shown falls by n
pub record IsConsumed (n : ℕ) (old new : Place) : Type 0 where
  pub contents : new.contents ≡ option_map (advanced n) old.contents
  pub shown : new.shown ≡ old.shown - n
  pub used : new.used ≡ old.used + n

-- no name holds anything else or is asked for, no place but the one of this number changes, and the count of faults doesn't fall
pub record KeepsOthers (number : ℕ) (old new : World) : Type 0 where
  pub names : (name : List ℕ) → new.holds name ≡ old.holds name
  pub asked : new.asked ≡ old.asked
  pub others : (k : ℕ) → k ≢ number → new.place k ≡ old.place k
  pub faults : old.faults ≤ new.faults

-- A name is asked for: it stands behind those that were, unless the call lacks memory to ask. No name holds anything else, no place that was
-- reached changes, and the count of faults doesn't fall.
pub record AsksName (name : List ℕ) (lacks : Type 0) (old new : World) : Type 0 where
  pub asked : (new.asked ≡ old.asked ++ name ∷ []) ⊎ (lacks × (new.asked ≡ old.asked))
  pub names : (n : List ℕ) → new.holds n ≡ old.holds n
  pub others : (k : ℕ) → k ≢ old.reached → new.place k ≡ old.place k
  pub faults : old.faults ≤ new.faults
