-- What is said of a character that isn't ASCII: what to write for it. Its bytes are those of UTF-8; the marks of UTF-16 are here too.
use Rattle.std.specs.Prelude.{ℕ, Bool, List, [], ◌∷◌, codes, nat_eq, if◌then◌else◌}
use Rattle.std.specs.List.{starts_with}
use Rattle.std.specs.Borrow.{Bor}

abbrev pub mark_advice : List ℕ
mark_advice = codes "A byte order mark stands here: save the file without it.\n"

abbrev pub wide_advice : List ℕ
wide_advice = codes "This file is UTF-16: save it as ASCII or UTF-8.\n"

abbrev pub space_advice : List ℕ
space_advice = codes "A blank that doesn't break stands here: write a plain one.\n"

abbrev pub word_advice : List ℕ
word_advice = codes "Here stands a typographic quotation mark: a word stands between two plain \", as in \"red\".\n"

abbrev pub quote_advice : List ℕ
quote_advice = codes "Here stands a typographic quotation mark: a string begins with a backquote and ends with a plain ', as `two words'.\n"

abbrev pub dash_advice : List ℕ
dash_advice = codes "Here stands a dash: minus is the plain `-`.\n"

abbrev pub less_advice : List ℕ
less_advice = codes "Write `<=`.\n"

abbrev pub greater_advice : List ℕ
greater_advice = codes "Write `>=`.\n"

abbrev pub differs_advice : List ℕ
differs_advice = codes "Write `ne`.\n"

abbrev pub power_advice : List ℕ
power_advice = codes "A power is written with `**`, as in `n ** 2`.\n"

abbrev pub unseen_advice : List ℕ
unseen_advice = codes "A character that isn't seen stands here: leave it out.\n"

abbrev pub broad_advice : List ℕ
broad_advice = codes "A wide character stands here: write the plain one.\n"

abbrev pub and_advice : List ℕ
and_advice = codes "Write `and`.\n"

abbrev pub or_advice : List ℕ
or_advice = codes "Write `or`.\n"

abbrev pub not_advice : List ℕ
not_advice = codes "Write `not` before a truth.\n"

abbrev pub product_advice : List ℕ
product_advice = codes "A product is written with `*`.\n"

abbrev pub division_advice : List ℕ
division_advice = codes "Whole division is `div`, and what it leaves over is `mod`.\n"

-- the bytes of each, and what is said of it
abbrev pub characters : List (List ℕ × List ℕ)
characters =
    (239 ∷ 187 ∷ 191 ∷ [], mark_advice)
    ∷ (255 ∷ 254 ∷ [], wide_advice)
    ∷ (254 ∷ 255 ∷ [], wide_advice)
    ∷ (194 ∷ 160 ∷ [], space_advice)
    ∷ (226 ∷ 128 ∷ 175 ∷ [], space_advice)
    ∷ (226 ∷ 128 ∷ 156 ∷ [], word_advice)
    ∷ (226 ∷ 128 ∷ 157 ∷ [], word_advice)
    ∷ (226 ∷ 128 ∷ 158 ∷ [], word_advice)
    ∷ (194 ∷ 171 ∷ [], word_advice)
    ∷ (194 ∷ 187 ∷ [], word_advice)
    ∷ (226 ∷ 128 ∷ 152 ∷ [], quote_advice)
    ∷ (226 ∷ 128 ∷ 153 ∷ [], quote_advice)
    ∷ (226 ∷ 128 ∷ 144 ∷ [], dash_advice)
    ∷ (226 ∷ 128 ∷ 145 ∷ [], dash_advice)
    ∷ (226 ∷ 128 ∷ 147 ∷ [], dash_advice)
    ∷ (226 ∷ 128 ∷ 148 ∷ [], dash_advice)
    ∷ (226 ∷ 136 ∷ 146 ∷ [], dash_advice)
    ∷ (226 ∷ 137 ∷ 164 ∷ [], less_advice)
    ∷ (226 ∷ 137 ∷ 165 ∷ [], greater_advice)
    ∷ (226 ∷ 137 ∷ 160 ∷ [], differs_advice)
    ∷ (195 ∷ 151 ∷ [], product_advice)
    ∷ (194 ∷ 183 ∷ [], product_advice)
    ∷ (195 ∷ 183 ∷ [], division_advice)
    ∷ (194 ∷ 178 ∷ [], power_advice)
    ∷ (194 ∷ 179 ∷ [], power_advice)
    ∷ (194 ∷ 180 ∷ [], quote_advice)
    ∷ (226 ∷ 136 ∷ 167 ∷ [], and_advice)
    ∷ (226 ∷ 136 ∷ 168 ∷ [], or_advice)
    ∷ (194 ∷ 172 ∷ [], not_advice)
    ∷ (226 ∷ 128 ∷ 139 ∷ [], unseen_advice)
    ∷ (194 ∷ 173 ∷ [], unseen_advice)
    ∷ (239 ∷ 188 ∷ [], broad_advice)
    ∷ []

abbrev pub bytes_and_advice : Bor (List ℕ) × Bor (List ℕ) → List ℕ × List ℕ
bytes_and_advice c = (c.0.now, c.1.now)

-- the bytes begin with those
unfoldable pub begins : (rest bytes : List ℕ) → Bool
begins rest bytes = starts_with nat_eq rest bytes

abbrev pub other_advice : List ℕ
other_advice = codes "Only in comments may other bytes stand than printable ASCII, tabs and line ends. A name has the letters a to z and A to Z, digits and `_`.\n"

-- what is said of the first of those with which the bytes begin
abbrev pub first_advice : List (List ℕ × List ℕ) → (rest : List ℕ) → List ℕ
first_advice [] rest = other_advice
first_advice (c ∷ more) rest = if begins rest c.0 then c.1 else first_advice more rest

abbrev pub character_advice : (rest : List ℕ) → List ℕ
character_advice rest = first_advice characters rest
