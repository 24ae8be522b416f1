-- Texts and numbers between the tags of a picture.
use Rattle.std.specs.Prelude.{ℕ, ◌==◌, ◌||◌, nat_lt, List, [], ◌∷◌, ◌++◌, codes, decimal, if◌then◌else◌}
use Rattle.std.specs.List.{flat_map}

-- A byte that has a meaning between tags is written by its name, and one that isn't printable as a question mark (63).
unfoldable pub escaped_byte : ℕ → List ℕ
escaped_byte b =
    if b == 38 then codes "&amp;"
    else if b == 60 then codes "&lt;"
    else if b == 62 then codes "&gt;"
    else if b == 34 then codes "&quot;"
    else if b == 39 then codes "&#39;"
    else if nat_lt b 32 || nat_lt 126 b then codes "?"
    else b ∷ []

abbrev pub escaped : List ℕ → List ℕ
escaped text = flat_map escaped_byte text

-- an attribute that is a number
unfoldable pub attribute_text : (name : List ℕ) → (number : ℕ) → List ℕ
attribute_text name n = codes " " ++ (name ++ (codes "=\"" ++ (decimal n ++ codes "\"")))

-- a text of a class at a point
unfoldable pub label_text : (class : List ℕ) → (x y : ℕ) → (text : List ℕ) → List ℕ
label_text class x y text =
    codes "<text class=\"" ++ (class ++ (codes "\"" ++ (attribute_text (codes "x") x ++ (attribute_text (codes "y") y ++ (codes ">" ++ (escaped text
    ++ codes "</text>\n"))))))
