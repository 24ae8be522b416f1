-- The words NAME=FILE: which file each free name is read from, and which words are refused. The rules are this language's own.
use Rattle.std.specs.Prelude.{◌≡◌, ℕ, ◌<◌, ◌≤◌, not, List, length, map, filter, take, Option, Some, None, is_some, unwrap_or, option_and_then, slice_get, codes, if◌then◌else◌, Result, Ok, Err}
use Rattle.std.specs.List.{list_any}
use Rattle.std.specs.Map.{lookup}
use Rattle.lucid_tree.specs.Env.{same_name}
use Rattle.lucid_report.specs.declared.refusal.Refusal.{Refusal}
use Rattle.lucid_report.specs.declared.refusal.Refusal.TheVariants as refusal
use Rattle.lucid_report.specs.declared.stop.Stop.{Stop}
use Rattle.lucid_report.specs.Refusals.{IsRefusalOf}

-- words NAME=FILE: each a name and a file
abbrev pub Given : Type 0
Given = List (List ℕ × List ℕ)

-- the file that the first word with a name gives for it
abbrev pub file_given : Given → (name : List ℕ) → Option (List ℕ)
file_given given n = lookup (same_name n) given

-- Behind these words a word with this name is refused: where the name isn't free, or has a file already.
abbrev pub word_refusal : (free : List (List ℕ)) → (earlier : Given) → (name : List ℕ) → Option Refusal
word_refusal free earlier n =
    if not (list_any (same_name n) free) then Some (refusal.NotFree n)
    else (if is_some (file_given earlier n) then Some (refusal.GivenTwice n) else None)

-- the refusal of the word of that number, behind those before it
abbrev pub refusal_at : (free : List (List ℕ)) → Given → (number : ℕ) → Option Refusal
refusal_at free given k = option_and_then (λ word. word_refusal free (take k given) word.0) (slice_get given k)

-- no word before that number is refused
abbrev pub AreRightBelow : (free : List (List ℕ)) → Given → (number : ℕ) → Type 0
AreRightBelow free given n = (k : ℕ) → k < n → refusal_at free given k ≡ None

-- the names without a file
abbrev pub names_left : (free : List (List ℕ)) → Given → List (List ℕ)
names_left free given = filter (λ n. not (is_some (file_given given n))) free

-- the first word that is refused is refused so
pub record RefusedFirst (free : List (List ℕ)) (given : Given) (why : Refusal) : Type 0 where
  pub number : ℕ
  pub right : AreRightBelow free given number
  pub is : refusal_at free given number ≡ Some why

-- The words are refused so: the first that is refused; or else two names or more are without a file.
pub data RefusesGiven (free : List (List ℕ)) (given : Given) : (why : Refusal) → Type 0 where
  by_word : {why : Refusal} → RefusedFirst free given why → RefusesGiven free given why
  by_two : AreRightBelow free given (length given) → 2 ≤ length (names_left free given) → RefusesGiven free given refusal.NoInput

-- No word is refused, and at most one name is without a file.
pub record FitsGiven (free : List (List ℕ)) (given : Given) : Type 0 where
  pub right : AreRightBelow free given (length given)
  pub one_left : length (names_left free given) ≤ 1

-- The file of each free name: the one that is given for it, or else standard input.
abbrev pub files_for : (free : List (List ℕ)) → Given → List (List ℕ)
files_for free given = map (λ n. unwrap_or (file_given given n) (codes "-")) free

-- A word is let through where it isn't refused; a refused one stops the call, unless there was no memory.
abbrev pub IsWordStop : {T : Type 0} → Option Refusal → Result T Stop → Type 0
IsWordStop o (Ok x) = o ≡ None
IsWordStop o (Err why) = IsRefusalOf (λ refusal. o ≡ Some refusal) why
