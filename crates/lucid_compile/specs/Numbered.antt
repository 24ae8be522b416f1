-- What a numbering has for places; where it has nothing, 0.
use Rattle.std.specs.Prelude.{◌≡◌, ℕ, ◌+◌, ◌<◌, List, length, Option, Some, None, get_or, nat_eq}
use Rattle.std.specs.Map.{lookup}
use Rattle.lucid_compile.specs.declared.numbering.Numbering.{Numbering}
use Rattle.lucid_compile.specs.declared.numbering.Mark.{Mark}
use Rattle.lucid_compile.specs.declared.numbering.Key.{Key}

-- the name, the function and the call place at a place
abbrev pub mark_of : Numbering → ℕ → Option Mark
mark_of g at = lookup (nat_eq at) g.names.entries

abbrev pub function_of : Numbering → ℕ → Option Mark
function_of g at = lookup (nat_eq at) g.functions.entries

abbrev pub call_of : Numbering → ℕ → Option Mark
call_of g at = lookup (nat_eq at) g.places.entries

abbrev pub or_no_mark : Option Mark → Mark
or_no_mark None = record { number = 0; first = 0; level = 0 }
or_no_mark (Some m) = m

-- the same, with 0 where there is nothing
abbrev pub name_mark : Numbering → ℕ → Mark
name_mark g at = or_no_mark (mark_of g at)

abbrev pub function_mark : Numbering → ℕ → Mark
function_mark g at = or_no_mark (function_of g at)

abbrev pub call_number : Numbering → ℕ → ℕ
call_number g at = (or_no_mark (call_of g at)).number

-- where a key stands
abbrev pub key_at : Key → ℕ
key_at k = k.at

-- a key's mark, by its number
abbrev pub mark_by : (number : ℕ) → Key → Mark
mark_by n k = record { number = n; first = k.first; level = k.level }

-- each key has its index as its number, counted from a start
abbrev pub AreMarked : (ℕ → Option Mark) → (start : ℕ) → List Key → Type 0
AreMarked f start ks = (i : ℕ) (d : Key) → i < length ks → f (get_or ks i d).at ≡ Some (mark_by (start + i) (get_or ks i d))
