-- The text of a run's steps.
use Rattle.std.specs.Prelude.{ℕ, ◌+◌, ◌-◌, ◌^◌, ◌++◌, ◌==◌, ◌||◌, [], ◌∷◌, List, Bool, false, Option, Some, None, min, not, take, drop, codes, decimal, length, nat_le, if◌then◌else◌}
use Rattle.std.specs.List.{prefix_len}
use Rattle.lucid_value.specs.Plain.{PlainValue}
use Rattle.lucid_value.specs.ValueText.{value_text}
use Rattle.lucid_tags.specs.declared.Key.{Key}
use Rattle.lucid_tags.specs.Known.{number_of, space_of}
use Rattle.lucid_show_steps.specs.Names.{name_in}
use Rattle.lucid_show_steps.specs.declared.names.Names.{Names}
use Rattle.lucid_show_steps.specs.declared.text.SoFar.{SoFar}
use Rattle.lucid_show_steps.specs.Steps.{PlainStep, asks, computes, computes_again, finds, drops, drops_more, writes, leaves_out, unseen}

-- the first 20 bytes, and how many there are
unfoldable pub front_text : List ℕ → List ℕ
front_text bs = take 20 bs ++ (codes ".. (" ++ (decimal (length bs) ++ codes " bytes)"))

-- A text of at most 24 bytes whole; of a longer one the front.
unfoldable pub short_text : List ℕ → List ℕ
short_text bs = if nat_le (length bs) 24 then bs else front_text bs

-- A name, or its number where the source isn't known.
unfoldable pub known_text : (number : ℕ) → Option (List ℕ) → List ℕ
known_text n (Some bs) = bs
known_text n None = codes "name " ++ (decimal n ++ [])

unfoldable pub name_text : Option Names → (number : ℕ) → List ℕ
name_text (Some names) n = known_text n (name_in names n)
name_text None n = known_text n None

-- a word, a number and an end, where the number isn't 0
unfoldable pub other_text : (word : List ℕ) → (number : ℕ) → (end : List ℕ) → List ℕ
other_text word n end = if n == 0 then [] else word ++ (decimal n ++ end)

-- a name at a time, and in another space or context than the first
unfoldable pub key_text : Option Names → Key → List ℕ
key_text names k =
    name_text names k.name
    ++ ((codes " at " ++ (decimal k.time ++ [])) ++ (other_text (codes " space ") (space_of k.tag) [] ++ other_text (codes " in context ") (number_of k.tag) []))

-- a key with a value
abbrev pub valued_text : Option Names → (word : List ℕ) → Key → PlainValue → List ℕ
valued_text names word k v = (word ++ key_text names k) ++ (codes ": " ++ (short_text (value_text v) ++ codes "\n"))

-- What was done so far, and what is left: how many values are told as computed and as found, how many lines of values may still be told, how many
-- values aren't told, and the lines that are left.
pub record Told : Type 0 where
  pub computed : ℕ
  pub found : ℕ
  pub room : ℕ
  pub out : ℕ
  pub lines : List ℕ

abbrev pub told_of : SoFar → Told
told_of s = record { computed = s.computed; found = s.found; room = s.room; out = s.out; lines = s.lines.now }

-- the first line, and those behind its end
unfoldable pub first_line : List ℕ → List ℕ
first_line bs = take (prefix_len (λ b. not (b == 10)) bs) bs

unfoldable pub other_lines : List ℕ → List ℕ
other_lines bs = drop (min (length bs) (prefix_len (λ b. not (b == 10)) bs + 1)) bs

-- the first line that is left, with how much was done until then
unfoldable pub line_text : Told → List ℕ
line_text d =
    codes "writes " ++ (short_text (first_line d.lines) ++ ((codes "   (" ++ (decimal d.computed ++ codes " computed, ")) ++ (([] ++ (decimal d.found ++ codes " found"))
    ++ (other_text (codes ", ") d.out (codes " left out") ++ codes ")\n"))))

-- the text of a step that is told
unfoldable pub step_text : Option Names → Told → PlainStep → List ℕ
step_text names d (asks t) = codes "asks for the value at " ++ (decimal t ++ codes "\n")
step_text names d (computes k v) = valued_text names (codes "  computes ") k v
step_text names d (computes_again k v) = valued_text names (codes "  computes again ") k v
step_text names d (finds k v) = valued_text names (codes "  finds ") k v
step_text names d (drops k) = (codes "  drops " ++ key_text names k) ++ codes "\n"
step_text names d (drops_more n) = codes "  drops values: " ++ (decimal n ++ codes "\n")
step_text names d (writes t) = line_text d
step_text names d (leaves_out n) = []
step_text names d unseen = codes "(What is computed after the last turn of the policy isn't seen.)\n"

-- one more, up to the greatest 64-bit number
abbrev pub one_more : ℕ → ℕ
one_more n = min (n + 1) (2 ^ 64 - 1)

-- how many values a step is of
unfoldable pub values_in : PlainStep → ℕ
values_in (asks t) = 0
values_in (writes t) = 0
values_in unseen = 0
values_in (drops_more n) = n
values_in (leaves_out n) = n
values_in s = 1

-- A step is told where it is of no value, or there is room for its line. Values that the notes only count aren't.
unfoldable pub is_told : Told → PlainStep → Bool
is_told d (leaves_out n) = false
is_told d s = (values_in s == 0) || not (d.room == 0)

unfoldable pub text_in : Option Names → Told → PlainStep → List ℕ
text_in names d s = if is_told d s then step_text names d s else []

-- A step that is told and computes or finds a value counts as one more, one of a value takes a line's room, and one that writes takes the first line.
unfoldable pub told_after : Told → PlainStep → Told
told_after d (computes k v) = record d { computed = one_more d.computed; room = d.room - 1 }
told_after d (computes_again k v) = record d { computed = one_more d.computed; room = d.room - 1 }
told_after d (finds k v) = record d { found = one_more d.found; room = d.room - 1 }
told_after d (drops k) = record d { room = d.room - 1 }
told_after d (drops_more n) = record d { room = d.room - 1 }
told_after d (writes t) = record d { lines = other_lines d.lines }
told_after d s = d

-- the values of one that isn't told are counted
unfoldable pub left_after : Told → PlainStep → Told
left_after d s = record d { out = min (d.out + values_in s) (2 ^ 64 - 1) }

unfoldable pub after : Told → PlainStep → Told
after d s = if is_told d s then told_after d s else left_after d s

-- the texts of steps one after another, and behind them how many values aren't told
abbrev pub told_text : Option Names → Told → List PlainStep → List ℕ
told_text names d [] = other_text (codes ".. (values left out: ") d.out (codes ")\n")
told_text names d (s ∷ ss) = text_in names d s ++ told_text names (after d s) ss

-- of a whole run, with its lines, and so many lines of values at most
abbrev pub run_text : Option Names → (most : ℕ) → List PlainStep → (lines : List ℕ) → List ℕ
run_text names most ss lines = told_text names (record { computed = 0; found = 0; room = most; out = 0; lines = lines }) ss
