-- The texts of tokens. They are this language's own.
use Rattle.std.specs.Prelude.{◌≡◌, ℕ, ◌<◌, ◌^◌, List, [], ◌∷◌, ◌++◌, Bool, true, false, ◌&&◌, ◌||◌, codes}
use Rattle.std.specs.List.{list_any}
use Rattle.std.specs.Char.{is_ascii_digit}
use Rattle.lucid_value.specs.Plain.{is_word, is_text, is_light, same_bytes, Items, list}
use Rattle.lucid_value.specs.Names.{is_name, is_reserved}
use Rattle.lucid_value.specs.Reading.{is_number, number_of, Reads}
use Rattle.lucid_scan.specs.declared.token.TokenKind.{TokenKind}
use Rattle.lucid_scan.specs.declared.token.TokenKind.TheVariants as kind

-- the 17 marks
abbrev pub marks : List (List ℕ)
marks =
    codes "(" ∷ codes ")" ∷ codes "," ∷ codes ";" ∷ codes "=" ∷ codes "[]" ∷ codes "+" ∷ codes "-" ∷ codes "*"
    ∷ codes "**" ∷ codes "<" ∷ codes "<=" ∷ codes ">" ∷ codes ">=" ∷ codes "::" ∷ codes "<>" ∷ codes "^" ∷ []

-- one of the marks
abbrev pub is_mark : List ℕ → Bool
is_mark text = list_any (λ mark. same_bytes text mark) marks

-- the bytes begin with one that passes the test
abbrev pub first_passes : (ℕ → Bool) → List ℕ → Bool
first_passes test [] = false
first_passes test (b ∷ bs) = test b

-- The text is an opening byte, then bytes that pass the test, then a closing byte.
abbrev pub IsBetween : ℕ → ℕ → (List ℕ → Bool) → List ℕ → Type 0
IsBetween opening closing test text = (inside : List ℕ) × (text ≡ opening ∷ (inside ++ closing ∷ [])) × (test inside ≡ true)

-- The bytes of a word, which is light enough to be a value.
abbrev pub is_word_value : List ℕ → Bool
is_word_value bytes = is_word bytes && is_light bytes

-- The bytes of a string, which is light enough to be a value.
abbrev pub is_text_value : List ℕ → Bool
is_text_value bytes = is_text bytes && is_light bytes

-- The text is a token of this kind where the bytes `after` follow it. A name is one by `is_name`, and a fixed token is one of the
-- marks and reserved words. An integer is all the digits there are, with a value below 2^127. A quoted word stands between two `"`
-- (34), a string between "`" (96) and "'" (39). A list is what reads as one.
abbrev pub IsTokenText : TokenKind → List ℕ → List ℕ → Type 0
IsTokenText kind.Name text after = is_name text ≡ true
IsTokenText kind.Int text after = (is_number text ≡ true) × (first_passes is_ascii_digit after ≡ false) × (number_of text < 2 ^ 127)
IsTokenText kind.Quoted text after = IsBetween 34 34 is_word_value text
IsTokenText kind.Text text after = IsBetween 96 39 is_text_value text
IsTokenText kind.ListText text after = (items : Items) × Reads text (list items)
IsTokenText kind.Fixed text after = (is_mark text || is_reserved text) ≡ true
