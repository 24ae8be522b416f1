-- The plain form of a value, its weight, its nesting and its rules. All of this is this language's own rule.
use Rattle.std.specs.Prelude.{ℕ, ℤ, pos, negsuc, Bool, true, false, List, [], ◌∷◌, ◌+◌, ◌^◌, ◌&&◌, ◌||◌, max, length, codes, nat_eq, nat_le, nat_lt, not, ◌==◌}
use Rattle.std.specs.Cmp.Lexicographic.{pointwise}
use Rattle.std.specs.List.{list_all}
use Rattle.std.specs.Char.{is_ascii_alphabetic, is_ascii_alphanumeric}

mutual
  -- A value as definitions speak of it: an integer, a truth, a word or a string by its bytes, a list by its items,
  -- the end of data, and the value written `error`, here `fault`.
  pub data PlainValue : Type 0 where
    int : ℤ → PlainValue
    truth : Bool → PlainValue
    word : List ℕ → PlainValue
    text : List ℕ → PlainValue
    list : Items → PlainValue
    eod : PlainValue
    fault : PlainValue

  -- The items of a list, the first one in front.
  pub data Items : Type 0 where
    no_items : Items
    item : PlainValue → Items → Items

-- the items as a list of plain values
abbrev pub listed : Items → List PlainValue
listed no_items = []
listed (item v vs) = v ∷ listed vs

-- the greatest weight of a value
abbrev pub most_weight : ℕ
most_weight = 65536

-- the greatest nesting of a value
abbrev pub most_nesting : ℕ
most_nesting = 64

-- Weight: a word or a string weighs 1 and one for each byte, a list 1 and the weights of its items, all else 1.
abbrev mutual
  pub weight : PlainValue → ℕ
  weight (int n) = 1
  weight (truth b) = 1
  weight (word bs) = length bs + 1
  weight (text bs) = length bs + 1
  weight (list vs) = weights vs + 1
  weight eod = 1
  weight fault = 1

  -- the weights of the items together
  pub weights : Items → ℕ
  weights no_items = 0
  weights (item v vs) = weight v + weights vs

-- Nesting: a list has one more than its deepest item, the empty list 1, all else 0.
abbrev mutual
  pub nesting : PlainValue → ℕ
  nesting (int n) = 0
  nesting (truth b) = 0
  nesting (word bs) = 0
  nesting (text bs) = 0
  nesting (list vs) = nestings vs + 1
  nesting eod = 0
  nesting fault = 0

  -- the nesting of the deepest item
  pub nestings : Items → ℕ
  nestings no_items = 0
  nestings (item v vs) = max (nesting v) (nestings vs)

-- a letter, then letters and digits
abbrev pub is_wordlike : List ℕ → Bool
is_wordlike [] = false
is_wordlike (b ∷ bs) = is_ascii_alphabetic b && list_all is_ascii_alphanumeric bs

-- two lists of bytes are one
abbrev pub same_bytes : List ℕ → List ℕ → Bool
same_bytes bs cs = pointwise (λ b c. b == c) bs cs

-- one of the four texts that name a value of their own
abbrev pub spells_constant : List ℕ → Bool
spells_constant bs = same_bytes bs (codes "true") || same_bytes bs (codes "false") || same_bytes bs (codes "eod") || same_bytes bs (codes "error")

-- The bytes of a word: a letter, then letters and digits, and none of `true`, `false`, `eod` and `error`.
abbrev pub is_word : List ℕ → Bool
is_word bs = is_wordlike bs && not (spells_constant bs)

-- light enough for a word or a string, whose weight is one more than its bytes
abbrev pub is_light : List ℕ → Bool
is_light bs = nat_lt (length bs) most_weight

-- a byte that may stand in a string: 32 to 126 without the quotes "`" (96) and "'" (39)
abbrev pub is_text_byte : ℕ → Bool
is_text_byte b = nat_le 32 b && nat_le b 126 && not (nat_eq b 96) && not (nat_eq b 39)

-- The bytes of a string.
abbrev pub is_text : List ℕ → Bool
is_text bs = list_all is_text_byte bs

-- A value that a list may hold: all but the end of data and `error`.
abbrev pub may_be_held : PlainValue → Bool
may_be_held (int n) = true
may_be_held (truth b) = true
may_be_held (word bs) = true
may_be_held (text bs) = true
may_be_held (list vs) = true
may_be_held eod = false
may_be_held fault = false

-- The bytes of all words and strings are as they should be, and no list holds `eod` or `error`.
abbrev mutual
  pub well_formed : PlainValue → Bool
  well_formed (int n) = true
  well_formed (truth b) = true
  well_formed (word bs) = is_word bs
  well_formed (text bs) = is_text bs
  well_formed (list vs) = all_well_formed vs
  well_formed eod = true
  well_formed fault = true

  pub all_well_formed : Items → Bool
  all_well_formed no_items = true
  all_well_formed (item v vs) = may_be_held v && well_formed v && all_well_formed vs

-- an integer of 128 bits: -2^127 to 2^127 - 1
abbrev pub is_i128 : ℤ → Bool
is_i128 (pos n) = nat_lt n (2 ^ 127)
is_i128 (negsuc n) = nat_lt n (2 ^ 127)

-- All integers in it, at any depth, are in range.
abbrev mutual
  pub in_range : PlainValue → Bool
  in_range (int n) = is_i128 n
  in_range (truth b) = true
  in_range (word bs) = true
  in_range (text bs) = true
  in_range (list vs) = all_in_range vs
  in_range eod = true
  in_range fault = true

  pub all_in_range : Items → Bool
  all_in_range no_items = true
  all_in_range (item v vs) = in_range v && all_in_range vs

-- within the limits of weight and nesting
abbrev pub within_limits : PlainValue → Bool
within_limits v = nat_le (weight v) most_weight && nat_le (nesting v) most_nesting

-- A value of the language: well formed, its integers in range, within the limits.
abbrev pub is_value : PlainValue → Bool
is_value v = well_formed v && in_range v && within_limits v
