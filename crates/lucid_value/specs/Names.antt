-- Names of a program. The rule and the reserved words are this language's own.
use Rattle.std.specs.Prelude.{ℕ, Bool, false, List, [], ◌∷◌, ◌&&◌, ◌||◌, length, nat_eq, not, codes}
use Rattle.std.specs.List.{filter, list_all, list_any}
use Rattle.std.specs.Char.{is_ascii_alphabetic, is_ascii_alphanumeric}
use Rattle.lucid_value.specs.Plain.{same_bytes}

-- a letter, a digit or `_` (95)
abbrev pub is_name_byte : ℕ → Bool
is_name_byte b = is_ascii_alphanumeric b || nat_eq b 95

-- a letter, then letters, digits and `_`
abbrev pub is_namelike : List ℕ → Bool
is_namelike [] = false
is_namelike (b ∷ bs) = is_ascii_alphabetic b && list_all is_name_byte bs

-- the 49 reserved words: no name is one of them
unfoldable pub reserved_words : List (List ℕ)
reserved_words =
    codes "where" ∷ codes "end" ∷ codes "is" ∷ codes "current" ∷ codes "if" ∷ codes "then" ∷ codes "else" ∷ codes "fi"
    ∷ codes "first" ∷ codes "next" ∷ codes "fby" ∷ codes "whenever" ∷ codes "wvr" ∷ codes "asa" ∷ codes "upon"
    ∷ codes "attime" ∷ codes "and" ∷ codes "or" ∷ codes "not" ∷ codes "true" ∷ codes "false" ∷ codes "eod"
    ∷ codes "error" ∷ codes "div" ∷ codes "mod" ∷ codes "eq" ∷ codes "ne" ∷ codes "hd" ∷ codes "tl" ∷ codes "length"
    ∷ codes "substr" ∷ codes "nth" ∷ codes "mkword" ∷ codes "mkstring" ∷ codes "isint" ∷ codes "isword"
    ∷ codes "isstring" ∷ codes "islist" ∷ codes "istruth" ∷ codes "isnull" ∷ codes "isatom" ∷ codes "iseod"
    ∷ codes "iserror" ∷ codes "abs" ∷ codes "cmp" ∷ codes "initial" ∷ codes "succ" ∷ codes "sby" ∷ codes "atspace" ∷ []

-- those of so many letters
unfoldable pub reserved_of_length : ℕ → List (List ℕ)
reserved_of_length n = filter (λ word. nat_eq (length word) n) reserved_words

-- one of the reserved words
abbrev pub is_reserved : List ℕ → Bool
is_reserved bs = list_any (λ reserved. same_bytes bs reserved) reserved_words

-- The bytes of a name: a letter, then letters, digits and `_`, and no reserved word.
abbrev pub is_name : List ℕ → Bool
is_name bs = is_namelike bs && not (is_reserved bs)
