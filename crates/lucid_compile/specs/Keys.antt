-- The keys of a table's rows, in the order of the rows.
use Rattle.std.specs.Prelude.{ℕ, List, [], ◌∷◌, ◌++◌, map, length}
use Rattle.lucid_compile.specs.Static.{level}
use Rattle.lucid_compile.specs.Places.{first_place}
use Rattle.lucid_compile.specs.declared.numbering.Key.{Key}
use Rattle.lucid_compile.specs.declared.numbering.Keys.{Keys}
use Rattle.lucid_compile.specs.declared.numbering.Numbering.{Numbering}
use Rattle.lucid_compile.specs.Numbered.{mark_of, function_of, call_of, AreMarked}
use Rattle.lucid_compile.specs.Notes.{Note, noted_actuals}
use Rattle.lucid_compile.specs.Bound.{FunctionStand, Log}

-- the key of what stands at a place, and that of a function
abbrev pub plain_key : (at level : ℕ) → Key
plain_key at l = record { at = at; first = 0; level = l }

abbrev pub function_key : (at first level : ℕ) → Key
function_key at n l = record { at = at; first = n; level = l }

-- the keys of what was added
abbrev pub stand_key : Note → Key
stand_key s = plain_key s.at (level s.home)

abbrev pub call_key : Note → Key
call_key c = plain_key c.at (level c.home)

abbrev pub place_key : Note → Key
place_key c = plain_key (first_place (noted_actuals c.kind)) (level c.home)

abbrev pub key_of_function : FunctionStand → Key
key_of_function f = function_key f.at f.first (level f.home)

-- the keys of names but for calls, of calls, of call places, and of functions
pub record KeyLists : Type 0 where
  pub names : List Key
  pub calls : List Key
  pub places : List Key
  pub functions : List Key

abbrev pub key_lists : Keys → KeyLists
key_lists k = record { names = k.names.items; calls = k.calls.items; places = k.places.items; functions = k.functions.items }

abbrev pub no_keys : KeyLists
no_keys = record { names = []; calls = []; places = []; functions = [] }

abbrev pub keys_of : Log → KeyLists
keys_of g = record { names = map stand_key g.names; calls = map call_key g.calls; places = map place_key g.calls; functions = map key_of_function g.functions }

abbrev pub with_name_key : Key → KeyLists → KeyLists
with_name_key k l = record { names = l.names ++ k ∷ []; calls = l.calls; places = l.places; functions = l.functions }

abbrev pub with_function_key : Key → KeyLists → KeyLists
with_function_key k l = record { names = l.names; calls = l.calls; places = l.places; functions = l.functions ++ k ∷ [] }

abbrev pub with_call_key : (call place : Key) → KeyLists → KeyLists
with_call_key c p l = record { names = l.names; calls = l.calls ++ c ∷ []; places = l.places ++ p ∷ []; functions = l.functions }

-- The numbers of all rows: names in their order, and the calls after them; call places by their first actuals; and functions.
pub record IsNumberingOf (l : KeyLists) (g : Numbering) : Type 0 where
  pub names : AreMarked (mark_of g) 0 l.names
  pub calls : AreMarked (mark_of g) (length l.names) l.calls
  pub places : AreMarked (call_of g) 0 l.places
  pub functions : AreMarked (function_of g) 0 l.functions
