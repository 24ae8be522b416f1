-- The policy that drops what a list says, and its turns. All of it is this project's own.
use Rattle.std.specs.Prelude.{◌≡◌, ℕ, ◌+◌, ◌^◌, Bool, false, ◌&&◌, ◌==◌, List, Option, Some, None, if◌then◌else◌, nat_lt}
use Rattle.std.specs.List.{list_any}
use Rattle.lucid_tags.specs.declared.Key.{Key}
use Rattle.lucid_store.specs.Stored.{Stored}
use Rattle.lucid_tags.specs.Keys.{same_key}
use Rattle.lucid_store.specs.Entries.{entry_at}
use Rattle.lucid_retire.specs.declared.scripted.Scrap.{Scrap}

-- what is to be dropped, and the number of the next turn, if there is one
pub record Script : Type 0 where
  pub scraps : List Scrap
  pub turn : Option ℕ

-- whether a scrap names the key at the turn
abbrev pub names : ℕ → Key → Scrap → Bool
names turn key scrap = (scrap.turn == turn) && same_key scrap.key key

-- whether the list names the key at the turn, if there is one
abbrev pub is_due : Option ℕ → List Scrap → Key → Bool
is_due None scraps key = false
is_due (Some turn) scraps key = list_any (names turn key) scraps

-- whether the next turn drops the key
abbrev pub is_listed : Script → Key → Bool
is_listed s key = is_due s.turn s.scraps key

-- the number after a turn's: after 2^64 - 1 there is none
abbrev pub turn_after : Option ℕ → Option ℕ
turn_after None = None
turn_after (Some n) = if nat_lt (n + 1) (2 ^ 64) then Some (n + 1) else None

-- exactly the keys that pass the test are dropped
abbrev pub DropsThose : (Key → Bool) → Stored → Stored → Type 0
DropsThose test old new = (key : Key) → entry_at new key ≡ (if test key then None else entry_at old key)
