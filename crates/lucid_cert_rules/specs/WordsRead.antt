-- How rows are read from their words.
use Rattle.std.specs.Prelude.{ℕ, zero, suc, ◌^◌, List, [], ◌∷◌, Option, Some, None, codes, if◌then◌else◌}
use Rattle.std.specs.Str.{bytes_eq}
use Rattle.lucid_texts.specs.Words.{◌>>=◌, words_of, take_number, is_end}
use Rattle.lucid_cert_rules.specs.declared.rows.ContextRow.{ContextRow}
use Rattle.lucid_cert_rules.specs.declared.rows.ContextRow.TheVariants.{Call, Frozen}
use Rattle.lucid_cert_rules.specs.declared.read_rows.Front.{Front}

-- a number of 32 bits, or a time or a space, and the words behind it
abbrev pub take_32 : List (List ℕ) → Option (ℕ × List (List ℕ))
take_32 ws = take_number (2 ^ 32) ws

abbrev pub take_63 : List (List ℕ) → Option (ℕ × List (List ℕ))
take_63 ws = take_number (2 ^ 63) ws

-- the row of a call's frame: three numbers, and no more
unfoldable pub call_of : List (List ℕ) → Option ContextRow
call_of ws = do
  b ← take_32 ws
  p ← take_32 b.1
  c ← take_32 p.1
  if is_end c.1 then Some (Call b.0 p.0 c.0) else None

-- the row of a frozen time: a number and a time, and no more
unfoldable pub frozen_of : List (List ℕ) → Option ContextRow
frozen_of ws = do
  b ← take_32 ws
  t ← take_63 b.1
  if is_end t.1 then Some (Frozen b.0 t.0) else None

-- the row of a context by its first word and the bytes behind its blank
unfoldable pub context_of : (word tail : List ℕ) → Option ContextRow
context_of w t = if bytes_eq w (codes "c") then call_of (words_of t) else (if bytes_eq w (codes "z") then frozen_of (words_of t) else None)

-- the numbers of a judgment in front of its uses, and the words behind them
unfoldable pub front_of : List (List ℕ) → Option (Front × List (List ℕ))
front_of ws = do
  n ← take_32 ws
  c ← take_32 n.1
  t ← take_63 c.1
  s ← take_63 t.1
  k ← take_32 s.1
  Some (record { node = n.0; context = c.0; time = t.0; space = s.0; count = k.0 }, k.1)

-- as many numbers as the count says, and the words behind them
abbrev pub take_uses : (count : ℕ) → List (List ℕ) → Option (List ℕ × List (List ℕ))
take_uses zero ws = Some ([], ws)
take_uses (suc n) ws = do
  u ← take_32 ws
  us ← take_uses n u.1
  Some (u.0 ∷ us.0, us.1)
