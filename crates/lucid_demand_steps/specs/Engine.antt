-- What an engine keeps between calls, and what a demand promises.
use Rattle.std.specs.Prelude.{◌≡◌, ℕ, ◌+◌, ◌<◌, ◌≤◌, Bool, IsTrue, List, Option, Some, IsSome, IfSome, ◌⊎◌, ◌↔◌, length, slice_get, map, option_map}
use Rattle.lucid_value.specs.Plain.{PlainValue}
use Rattle.lucid_value.specs.Lines.{end_of_line, IsOverlong}
use Rattle.lucid_tree.specs.Members.{In, AllDiffer}
use Rattle.lucid_tree.specs.Levels.{Elements}
use Rattle.lucid_tags.specs.Contexts.{Context, root}
use Rattle.lucid_tags.specs.Known.{IsOneForOne, KeepsKnown}
use Rattle.lucid_store.specs.Stored.{Stored}
use Rattle.lucid_store.specs.Entries.{count_of}
use Rattle.lucid_search.specs.Noted.{Noted}
use Rattle.lucid_ports.specs.World.{World}
use Rattle.lucid_inputs.specs.Streams.{Stream, FitsPlace, all_bytes}
use Rattle.lucid_equations.specs.Datons.{Daton}
use Rattle.lucid_equations.specs.Values.{eqval, eqhval}
use Rattle.lucid_equations.specs.Visits.{consults_on_nodes, visited_datons, visited_contexts, IsNeeded}
use Rattle.lucid_equations.specs.Rows.{equations_of}
use Rattle.lucid_equations.specs.Ranges.{IsInRange}
use Rattle.lucid_equations.specs.declared.table.Table.{Table}
use Rattle.lucid_equations.specs.MoreElements.{Extends}
use Rattle.lucid_demand_steps.specs.Elements.{elements_read}
use Rattle.lucid_demand_steps.specs.Stands.{Holding, given}
use Rattle.lucid_demand_steps.specs.Held.{held_in, AreKeysKnown, HoldsRight, IsClosed, AllNotedRight, AllNotedClosed}

-- An engine as its callers see it: its table, the contexts that are known, what is held, the noted positions, the streams, how much
-- of each may be read, and the meanings of its policy.
pub record EngineView : Type 0 where
  pub table : Table
  pub known : List Context
  pub stored : Stored
  pub noted : Noted
  pub streams : List Stream
  pub most : ℕ
  pub keeps : Bool
  pub empties : Bool
  pub room : Option ℕ

-- the elements that an engine has read, and what it holds
abbrev pub known_elements : EngineView → Elements
known_elements e = elements_read e.table.inputs e.streams

abbrev pub holding : EngineView → Holding
holding e = held_in e.known e.stored

-- the places of streams
abbrev pub places_of : List Stream → List ℕ
places_of streams = map (λ s. s.place) streams

-- What the type of an engine keeps between calls, after each refusal too, by the elements read: each held daton is right, and each
-- noted position is counted; under a policy that keeps, and with nothing lost, what held datons and noted positions need is held;
-- each known tag stands for one context and one space; the program's numbers are in range, its inputs' names differ, and so do the
-- places of the streams, one for each input.
pub record IsSoundEngine (e : EngineView) : Type 0 where
  pub right : HoldsRight (equations_of e.table) (known_elements e) (holding e)
  pub keys : AreKeysKnown e.known e.stored
  pub noted : AllNotedRight e.table (known_elements e) e.known e.noted
  pub closed : IsTrue e.keeps → e.stored.lost ≡ 0 → IsClosed (equations_of e.table) (known_elements e) (holding e)
  pub noted_closed : IsTrue e.keeps → e.stored.lost ≡ 0 → AllNotedClosed e.table (known_elements e) e.known e.noted (holding e)
  pub contexts : IsOneForOne e.known
  pub streams : length e.streams ≡ length e.table.inputs
  pub places : AllDiffer (places_of e.streams)
  pub in_range : IsInRange e.table
  pub names : AllDiffer e.table.inputs

-- the elements may be these: none that was read differs
abbrev pub MayHave : EngineView → Elements → Type 0
MayHave e b = Extends (known_elements e) b

-- the approximation of an engine's root
abbrev pub root_val : EngineView → Elements → (m time space : ℕ) → Option PlainValue
root_val e b m t s = eqval (equations_of e.table) b m t s

-- the same with held values
abbrev pub root_hval : EngineView → Elements → Holding → (m time space : ℕ) → Option PlainValue
root_hval e b h m t s = eqhval (equations_of e.table) (given b h) m t s

-- some approximation of the root has the value
abbrev pub RootMeans : EngineView → Elements → (time space : ℕ) → PlainValue → Type 0
RootMeans e b t s v = (m : ℕ) × (root_val e b m t s ≡ Some v)

-- an added number, 0 under a policy that empties, from which on all of this holds
pub record ForSomeAdded (e : EngineView) (P : ℕ → Type 0) : Type 0 where
  pub added : ℕ
  pub none : IsTrue e.empties → added ≡ 0
  pub holds : (d : ℕ) → added ≤ d → P d

-- Of each stream no more is consumed than was, or through the end of an element that the limit's approximation of the root consults.
abbrev pub DrawsWithin : (old new : EngineView) → Elements → World → (limit time space : ℕ) → Type 0
DrawsWithin old new b w m t s =
    (k : ℕ) (n : List ℕ) (before after : Stream) → slice_get old.table.inputs k ≡ Some n → slice_get old.streams k ≡ Some before → slice_get new.streams k ≡ Some after
    → IfSome (w.place after.place).contents (λ c. (after.consumed ≤ before.consumed)
    ⊎ ((j : ℕ) × ForSomeAdded old (λ d. In (n, j) (consults_on_nodes (equations_of old.table) b m d t s)) × (after.consumed ≤ end_of_line (all_bytes c) j)))

-- Of each stream no more bytes are consumed than may be read.
abbrev pub ReadsWithin : EngineView → Type 0
ReadsWithin e = (k : ℕ) (s : Stream) → slice_get e.streams k ≡ Some s → s.consumed ≤ e.most

-- an overlong element that the limit's approximation consults
pub record ConsultsOverlong (e : EngineView) (b : Elements) (w : World) (stream limit time space : ℕ) : Type 0 where
  pub name : List ℕ
  pub named : slice_get e.table.inputs stream ≡ Some name
  pub index : ℕ
  pub consulted : ForSomeAdded e (λ d. In (name, index) (consults_on_nodes (equations_of e.table) b limit d time space))
  pub source : Stream
  pub read_from : slice_get e.streams stream ≡ Some source
  pub overlong : IfSome (w.place source.place).contents (λ c. IsOverlong (all_bytes c) index e.most)
  -- whatever the place tells, as many bytes are consumed as may be
  pub full : source.consumed ≡ e.most

-- What is newly held and newly known is visited.
pub record VisitsNew (old new : EngineView) (b : Elements) (limit time space : ℕ) : Type 0 where
  pub held : (k : Daton) (s : ℕ) → IsSome (holding new k s) → IsSome (holding old k s)
      ⊎ ForSomeAdded old (λ d. In (k, s) (visited_datons (equations_of old.table) b limit d time space))
  pub known : (c : Context) → In c new.known → In c old.known
      ⊎ ForSomeAdded old (λ d. In c (visited_contexts (equations_of old.table) b limit d time space))

-- where there is a most of the policy, at most one more is held
abbrev pub HoldsFew : Option ℕ → Stored → Type 0
HoldsFew room w = IfSome room (λ r. count_of w ≤ r + 1)

-- what was held is held, with its value
abbrev pub StillHolds : (old new : EngineView) → Type 0
StillHolds old new = (k : Daton) (s : ℕ) (v : PlainValue) → holding old k s ≡ Some v → holding new k s ≡ Some v

-- What is held is what was held and the datons that are needed for the root's value.
abbrev pub HoldsNeeded : (old new : EngineView) → Elements → (time space : ℕ) → Type 0
HoldsNeeded old new b t s =
    (k : Daton) (r : ℕ) → IsSome (holding new k r) ↔ (IsSome (holding old k r) ⊎ IsNeeded (equations_of old.table) b (equations_of old.table).root root t s (k, r))

-- Each stream may be read on: its place is reached, and it fits its place.
abbrev pub AreAskable : List Stream → World → Type 0
AreAskable streams w = (k : ℕ) (s : Stream) → slice_get streams k ≡ Some s → (s.place < w.reached) × FitsPlace s (w.place s.place)

-- What no demand changes; elements that were read and contexts that were known stay.
pub record GoesOn (old new : EngineView) : Type 0 where
  pub table : new.table ≡ old.table
  pub most : new.most ≡ old.most
  pub keeps : new.keeps ≡ old.keeps
  pub empties : new.empties ≡ old.empties
  pub room : new.room ≡ old.room
  pub elements : Extends (known_elements old) (known_elements new)
  pub known : KeepsKnown old.known new.known
  pub lost : old.stored.lost ≤ new.stored.lost
  pub places : places_of new.streams ≡ places_of old.streams

-- No name holds anything else or is asked for, no place is reached, no place but these changes, and of each the bytes are those that they were,
-- consumed or left; faults are only counted.
pub record ReadsOnly (places : List ℕ) (before after : World) : Type 0 where
  pub names : (name : List ℕ) → after.holds name ≡ before.holds name
  pub asked : after.asked ≡ before.asked
  pub reached : after.reached ≡ before.reached
  pub others : (k : ℕ) → In k places ⊎ (after.place k ≡ before.place k)
  pub bytes : (k : ℕ) → option_map all_bytes (after.place k).contents ≡ option_map all_bytes (before.place k).contents
  pub faults : before.faults ≤ after.faults
