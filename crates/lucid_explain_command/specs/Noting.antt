-- What is noted of lines as they are written: how many have ended, and the first that is `error`.
use Rattle.std.specs.Prelude.{◌≡◌, ℕ, length, min, Bool, List, codes, Option, option_map, IfSome}
use Rattle.std.specs.List.{position}
use Rattle.lucid_value.specs.Plain.{same_bytes}
use Rattle.lucid_texts.specs.TextLines.{whole_lines}
use Rattle.lucid_explain_command.specs.declared.noted.Noted.{Noted}

-- How many lines have ended, and the number of the first that is `error`, from 0.
pub record Seen : Type 0 where
  pub lines : ℕ
  pub first : Option ℕ

abbrev pub plain_noted : Noted → Seen
plain_noted n = record { lines = n.lines; first = n.first }

-- a line is `error`
abbrev pub is_error : (line : List ℕ) → Bool
is_error line = same_bytes line (codes "error")

-- a number as it is counted, up to 2^64 - 1
abbrev pub counted : ℕ → ℕ
counted n = min n 18446744073709551615

-- So much is seen in bytes: how many whole lines they have, and which of these is the first that is `error`.
abbrev pub seen_in : (bytes : List ℕ) → Seen
seen_in bytes = record { lines = counted (length (whole_lines bytes)); first = option_map counted (position is_error (whole_lines bytes)) }

-- This is seen in the bytes that were written, where these are told.
abbrev pub Notes : (written : Option (List ℕ)) → Seen → Type 0
Notes written seen = IfSome written (λ bytes. seen ≡ seen_in bytes)
