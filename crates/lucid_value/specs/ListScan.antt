-- The scan of the bytes of a list, one byte at a time, with the lists that are open. The code of the reader does a step
-- where a step is done here. What the bytes mean is said by `Denotes` alone; that the scan gives it is proved.
use Rattle.std.specs.Prelude.{◌≡◌, ℕ, ◌-◌, ◌^◌, ◌≤◌, pos, neg_ℤ, Bool, true, false, List, [], ◌∷◌, ◌++◌, length, take, ◌&&◌, ◌||◌, nat_eq, nat_le, nat_lt, codes, if◌then◌else◌, Option, Some, None, Result, Ok, Err}
use Rattle.std.specs.Char.{is_ascii_alphanumeric}
use Rattle.lucid_value.specs.Plain.{PlainValue, int, truth, word, text, list, eod, fault, Items, no_items, item, same_bytes, is_wordlike, is_word, is_text, is_light, may_be_held, most_nesting}
use Rattle.lucid_value.specs.Lists.{fits}
use Rattle.lucid_value.specs.Reading.{is_blank, is_number, number_of}
use Rattle.lucid_value.specs.declared.list_scan.Focus.{Focus}
use Rattle.lucid_value.specs.declared.list_scan.Focus.TheVariants.{Ready, Full, Atom, Quoted, Opening, Closing, Done}
use Rattle.lucid_value.specs.declared.list_scan.Scan.{Scan}
use Rattle.lucid_value.specs.declared.list_scan.Front.{Front}

-- digits, with a minus in front or without
abbrev pub is_integerlike : List ℕ → Bool
is_integerlike [] = false
is_integerlike (b ∷ bs) = if nat_eq b 45 then is_number bs else is_number (b ∷ bs)

-- the integer that digits write, and the one that they write behind a minus
abbrev unsigned_value : List ℕ → Option PlainValue
unsigned_value ds = if is_number ds && nat_lt (number_of ds) (2 ^ 127) then Some (int (pos (number_of ds))) else None

abbrev minus_value : List ℕ → Option PlainValue
minus_value ds = if is_number ds && nat_le (number_of ds) (2 ^ 127) then Some (int (neg_ℤ (pos (number_of ds)))) else None

-- the integer that bytes write
unfoldable pub integer_value : List ℕ → Option PlainValue
integer_value [] = None
integer_value (b ∷ bs) = if nat_eq b 45 then minus_value bs else unsigned_value (b ∷ bs)

-- the word of these bytes, where they are one and it is light enough
unfoldable pub word_value : List ℕ → Option PlainValue
word_value bs = if is_word bs && is_light bs then Some (word bs) else None

-- the value that bytes without quotes, marks and blanks write: a constant, a word or an integer
unfoldable pub atom_value : List ℕ → Option PlainValue
atom_value bs =
    if same_bytes bs (codes "true") then Some (truth true)
    else (if same_bytes bs (codes "false") then Some (truth false)
    else (if same_bytes bs (codes "eod") then Some eod
    else (if same_bytes bs (codes "error") then Some fault
    else (if is_wordlike bs then word_value bs else integer_value bs))))

-- the string of the bytes between quotes
unfoldable pub text_value : List ℕ → Option PlainValue
text_value bs = if is_text bs && is_light bs then Some (text bs) else None

-- a byte of a constant, a word or an integer: a letter, a digit or `-` (45)
abbrev pub is_atom_byte : ℕ → Bool
is_atom_byte b = is_ascii_alphanumeric b || nat_eq b 45

-- What the scan stands at, the bytes of the constant, word, integer or string that is read, the items of the innermost
-- open list, the last one in front, and those of the lists around it, from the inside.
pub data State : Type 0 where
  state : Focus → List ℕ → Items → List Items → State

-- the items turned round, in front of others
abbrev pub turned : Items → Items → Items
turned no_items vs = vs
turned (item u us) vs = turned us (item u vs)

-- a value becomes the next item, where a list may hold it and stays within the limits
unfoldable pub put : PlainValue → List ℕ → Items → List Items → Option State
put v bs vs outer = if may_be_held v && fits (item v vs) then Some (state Full bs (item v vs) outer) else None

abbrev pub put_some : Option PlainValue → List ℕ → Items → List Items → Option State
put_some None bs vs outer = None
put_some (Some v) bs vs outer = put v bs vs outer

-- a byte behind an item: a blank, or the first byte of `%]`
abbrev pub go_on : ℕ → List ℕ → Items → List Items → Option State
go_on b bs vs outer =
    if is_blank b then Some (state Ready bs vs outer)
    else (if nat_eq b 37 then Some (state Closing bs vs outer) else None)

-- a byte where an item may begin
abbrev pub begin : ℕ → List ℕ → Items → List Items → Option State
begin b bs vs outer =
    if nat_eq b 91 then Some (state Opening bs vs outer)
    else (if nat_eq b 96 then Some (state Quoted [] vs outer)
    else (if is_atom_byte b then Some (state Atom (b ∷ []) vs outer) else go_on b bs vs outer))

-- a byte behind the item that may have been read
abbrev pub go_on_from : ℕ → Option State → Option State
go_on_from b None = None
go_on_from b (Some (state f bs vs outer)) = go_on b bs vs outer

-- a byte behind bytes of a constant, a word or an integer
abbrev pub read_atom : ℕ → List ℕ → Items → List Items → Option State
read_atom b bs vs outer =
    if is_atom_byte b then Some (state Atom (bs ++ b ∷ []) vs outer) else go_on_from b (put_some (atom_value bs) bs vs outer)

-- a byte of a string, or the quote at its end
abbrev pub read_text : ℕ → List ℕ → Items → List Items → Option State
read_text b bs vs outer = if nat_eq b 39 then put_some (text_value bs) bs vs outer else Some (state Quoted (bs ++ b ∷ []) vs outer)

-- the second byte of `[%`
abbrev pub open_list : ℕ → List ℕ → Items → List Items → Option State
open_list b bs vs outer = if nat_eq b 37 && nat_lt (length outer) (most_nesting - 1) then Some (state Ready bs no_items (vs ∷ outer)) else None

-- the list is whole: the outermost one, or an item of the one around it
abbrev pub close_list : List ℕ → Items → List Items → Option State
close_list bs vs [] = Some (state Done bs (turned vs no_items) [])
close_list bs vs (us ∷ outer) = put (list (turned vs no_items)) bs us outer

-- the second byte of `%]`
abbrev pub end_list : ℕ → List ℕ → Items → List Items → Option State
end_list b bs vs outer = if nat_eq b 93 then close_list bs vs outer else None

-- one byte
abbrev pub step : ℕ → State → Option State
step b (state Ready bs vs outer) = begin b bs vs outer
step b (state Full bs vs outer) = go_on b bs vs outer
step b (state Atom bs vs outer) = read_atom b bs vs outer
step b (state Quoted bs vs outer) = read_text b bs vs outer
step b (state Opening bs vs outer) = open_list b bs vs outer
step b (state Closing bs vs outer) = end_list b bs vs outer
step b (state Done bs vs outer) = None

abbrev pub step_from : ℕ → Option State → Option State
step_from b None = None
step_from b (Some s) = step b s

-- the bytes in order
abbrev pub runs : Option State → List ℕ → Option State
runs o [] = o
runs o (b ∷ bs) = runs (step_from b o) bs

-- behind the outermost `[%`
abbrev pub start : State
start = state Ready [] no_items []

-- the state that the code keeps
abbrev pub state_of : Scan → State
state_of s = state s.focus s.pending.items s.items s.outer

-- the outermost list is whole
abbrev pub is_done : State → Bool
is_done (state Done bs vs outer) = true
is_done _ = false

-- the bytes behind a `[%` in front
abbrev pub opened : List ℕ → Option (List ℕ)
opened (a ∷ b ∷ tail) = if nat_eq a 91 && nat_eq b 37 then Some tail else None
opened _ = None

-- the code went on to this state, or refused the byte
abbrev pub Went : Bool → State → Option State → Type 0
Went true s o = o ≡ Some s
Went false s o = o ≡ None

abbrev pub Goes : {E : Type 0} → Result Bool E → State → Option State → Type 0
Goes (Ok b) s o = Went b s o
Goes (Err e) s o = Unit {0}

-- The bytes behind `[%` that make a list whole: how many they are, and its items. None: no front of them does.
abbrev pub IsScanned : Option Front → List ℕ → Type 0
IsScanned None tail = (n : ℕ) (bs : List ℕ) (vs : Items) (outer : List Items) → n ≤ length tail → runs (Some start) (take n tail) ≡ Some (state Done bs vs outer) → ⊥
IsScanned (Some front) tail = (front.len ≤ length tail) × ((bs : List ℕ) × (outer : List Items) × (runs (Some start) (take front.len tail) ≡ Some (state Done bs front.list outer)))
