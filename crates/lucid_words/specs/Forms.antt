-- The forms of the texts that `clap` takes as they are. Each gives what the text asks for, or nothing where it is
-- refused. The rules are this language's own.
use Rattle.std.specs.Prelude.{ℕ, ◌==◌, Bool, not, ◌&&◌, List, [], length, map, Option, Some, None, if◌then◌else◌, codes, nat_lt}
use Rattle.std.specs.List.{list_all, list_any, slice_split, before_first, after_first}
use Rattle.std.specs.Str.{bytes_eq}
use Rattle.lucid_words.specs.declared.PolicyWord.{PolicyWord}
use Rattle.lucid_words.specs.declared.PolicyWord.TheVariants.{Keep, Nothing, Ages, Last}
use Rattle.lucid_words.specs.Plain.{PlainSource, file, made}
use Rattle.lucid_value.specs.Names.{is_name}

-- A file's name: it is not empty, and not `-`.
abbrev pub is_file : List ℕ → Bool
is_file text = not (length text == 0) && not (bytes_eq text (codes "-"))

-- The source: a program's file or the number of a made program, and not both.
abbrev pub source_for : Option (List ℕ) → Option ℕ → Option PlainSource
source_for (Some name) None = if is_file name then Some (file name) else None
source_for None (Some number) = Some (made number)
source_for _ _ = None

-- The policy of a word.
abbrev pub policy_named : List ℕ → Option PolicyWord
policy_named word =
    if bytes_eq word (codes "keep") then Some Keep
    else (if bytes_eq word (codes "none") then Some Nothing
    else (if bytes_eq word (codes "age") then Some Ages
    else (if bytes_eq word (codes "last") then Some Last
    else None)))

-- The policy, which is `keep` where no word is given.
abbrev pub policy_for : Option (List ℕ) → Option PolicyWord
policy_for None = Some Keep
policy_for (Some word) = policy_named word

-- `=` is the byte 61, and `,` the byte 44.
abbrev pub is_equals : ℕ → Bool
is_equals b = b == 61

abbrev pub is_comma : ℕ → Bool
is_comma b = b == 44

-- NAME=FILE: cut at its first `=` it is a name and a file's name.
abbrev pub is_given : List ℕ → Bool
is_given text =
    list_any is_equals text && (is_name (before_first is_equals text) && is_file (after_first is_equals text))

abbrev pub parts_of : List ℕ → List ℕ × List ℕ
parts_of text = (before_first is_equals text, after_first is_equals text)

abbrev pub given_named : List ℕ → Option (List ℕ × List ℕ)
given_named text = if is_given text then Some (parts_of text) else None

-- The inputs of the further words, in order.
abbrev pub given_for : List (List ℕ) → Option (List (List ℕ × List ℕ))
given_for texts = if list_all is_given texts then Some (map parts_of texts) else None

-- Texts that are all names.
abbrev pub names_for : List (List ℕ) → Option (List (List ℕ))
names_for texts = if list_all is_name texts then Some texts else None

-- The names of a list: from 1 to 16 of them, parted by single commas.
abbrev pub columns_named : List ℕ → Option (List (List ℕ))
columns_named list =
    let pieces = slice_split is_comma list in if nat_lt 16 (length pieces) then None else names_for pieces

-- The columns; none where no list is given.
abbrev pub columns_for : Option (List ℕ) → Option (List (List ℕ))
columns_for None = Some []
columns_for (Some list) = columns_named list

-- The file of a certificate; the empty text where none is given.
abbrev pub check_for : Option (List ℕ) → Option (List ℕ)
check_for None = Some []
check_for (Some name) = if is_file name then Some name else None
