-- What bytes read as: the reading of values, by cases on the kind of value. It is this language's own rule.
use Rattle.std.specs.Prelude.{◌≡◌, ℕ, ◌+◌, ◌-◌, ◌*◌, ◌^◌, ◌<◌, ◌≤◌, pos, neg_ℤ, Bool, true, false, List, [], ◌∷◌, ◌++◌, length, take, ◌||◌, nat_eq, codes, IsTrue, Option, Some, None}
use Rattle.std.specs.List.{list_all}
use Rattle.std.specs.Char.{is_ascii_digit}
use Rattle.lucid_value.specs.Plain.{PlainValue, int, truth, word, text, list, eod, fault, Items, no_items, item, weight, nesting, is_word, is_text, may_be_held, most_weight, most_nesting}

-- a blank: tab, line feed, carriage return or space
abbrev pub is_blank : ℕ → Bool
is_blank b = nat_eq b 9 || nat_eq b 10 || nat_eq b 13 || nat_eq b 32

-- nothing but blanks, or nothing at all
abbrev pub all_blank : List ℕ → Bool
all_blank bs = list_all is_blank bs

-- one decimal digit or more, and nothing else; zeros may lead
abbrev pub is_number : List ℕ → Bool
is_number [] = false
is_number (d ∷ ds) = list_all is_ascii_digit (d ∷ ds)

-- the number that decimal digits write: each digit counts by the power of ten of its place
abbrev pub number_of : List ℕ → ℕ
number_of [] = 0
number_of (d ∷ ds) = (d - 48) * 10 ^ length ds + number_of ds

-- empty, or a blank stands first
abbrev pub stands_apart : List ℕ → Bool
stands_apart [] = true
stands_apart (b ∷ bs) = is_blank b

mutual
  -- The bytes are a way to write the value, whatever its weight and nesting: digits for an integer, with `-` (45) in front
  -- for its negation; the four constants; a word; a string in its quotes "`" (96) and "'" (39); a list in `[%` and `%]`.
  pub data Denotes : List ℕ → PlainValue → Type 0 where
    denotes_number : (ds : List ℕ) → IsTrue (is_number ds) → number_of ds < 2 ^ 127 → Denotes ds (int (pos (number_of ds)))
    denotes_minus : (ds : List ℕ) → IsTrue (is_number ds) → number_of ds ≤ 2 ^ 127 → Denotes (45 ∷ ds) (int (neg_ℤ (pos (number_of ds))))
    denotes_true : Denotes (codes "true") (truth true)
    denotes_false : Denotes (codes "false") (truth false)
    denotes_word : (bs : List ℕ) → IsTrue (is_word bs) → Denotes bs (word bs)
    denotes_text : (bs : List ℕ) → IsTrue (is_text bs) → Denotes (96 ∷ (bs ++ 39 ∷ [])) (text bs)
    denotes_list : (bs : List ℕ) (vs : Items) → DenotesItems bs vs → Denotes (91 ∷ 37 ∷ (bs ++ 37 ∷ 93 ∷ [])) (list vs)
    denotes_eod : Denotes (codes "eod") eod
    denotes_fault : Denotes (codes "error") fault

  -- The bytes between `[%` and `%]` are a way to write the items: blanks, at least one between two items.
  pub data DenotesItems : List ℕ → Items → Type 0 where
    denotes_none : (gap : List ℕ) → IsTrue (all_blank gap) → DenotesItems gap no_items
    denotes_item : (gap bs rest : List ℕ) (v : PlainValue) (vs : Items) → IsTrue (all_blank gap) → IsTrue (may_be_held v) → Denotes bs v
        → IsTrue (stands_apart rest) → DenotesItems rest vs → DenotesItems (gap ++ (bs ++ rest)) (item v vs)

-- The bytes read as the value: they are a way to write it, and it is within the limits of weight and nesting.
pub record Reads (bytes : List ℕ) (v : PlainValue) : Type 0 where
  pub denotes : Denotes bytes v
  pub light : weight v ≤ most_weight
  pub flat : nesting v ≤ most_nesting

-- The line reads as the value, blanks at both ends ignored.
pub record ReadsLine (line : List ℕ) (v : PlainValue) : Type 0 where
  pub before : List ℕ
  pub bytes : List ℕ
  pub after : List ℕ
  pub parts : line ≡ before ++ (bytes ++ after)
  pub blank_before : IsTrue (all_blank before)
  pub blank_after : IsTrue (all_blank after)
  pub reads : Reads bytes v

-- The line reads as no value.
abbrev pub ReadsAsNone : List ℕ → Type 0
ReadsAsNone line = (v : PlainValue) → ReadsLine line v → ⊥

-- The first n bytes read as a list, from its `[%` to its `%]`.
pub record IsListFront (bytes : List ℕ) (n : ℕ) : Type 0 where
  pub within : n ≤ length bytes
  pub items : Items
  pub reads : Reads (take n bytes) (list items)

-- The number of bytes of the list in front of the bytes; none where no front of them reads as a list.
abbrev pub IsFront : Option ℕ → List ℕ → Type 0
IsFront (Some n) bytes = IsListFront bytes n
IsFront None bytes = (n : ℕ) → IsListFront bytes n → ⊥
