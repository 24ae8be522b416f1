-- What a sink keeps while lines are written: what is seen in the bytes so far, and how far the open line is `error`. How one byte more changes it.
use Rattle.std.specs.Prelude.{◌≡◌, ℕ, ◌+◌, ◌==◌, nat_eq, nat_lt, ◌&&◌, if◌then◌else◌, length, min, Bool, false, List, [], ◌∷◌, codes, slice_index, Option, Some, None, option_map, IfSome}
use Rattle.std.specs.List.{position, slice_split, starts_with}
use Rattle.lucid_texts.specs.TextLines.{whole_lines}
use Rattle.lucid_explain_command.specs.declared.noted.Noted.{Noted}
use Rattle.lucid_explain_command.specs.Noting.{is_error, counted}

-- the last of some parts
abbrev pub last_part : List (List ℕ) → List ℕ
last_part [] = []
last_part (x ∷ []) = x
last_part (x ∷ y ∷ parts) = last_part (y ∷ parts)

-- the open line: what stands behind the whole ones
abbrev pub open_line : (bytes : List ℕ) → List ℕ
open_line bytes = last_part (slice_split (λ b. b == 10) bytes)

-- of the open line how many bytes it has, where these are the first of `error`
abbrev pub matched_in : (line : List ℕ) → Option ℕ
matched_in line = if starts_with nat_eq (codes "error") line then Some (length line) else None

pub record Marks : Type 0 where
  pub lines : ℕ
  pub matched : Option ℕ
  pub first : Option ℕ

abbrev pub plain_marks : Noted → Marks
plain_marks n = record { lines = n.lines; matched = n.matched; first = n.first }

abbrev pub marks_in : (bytes : List ℕ) → Marks
marks_in bytes = record {
  lines = counted (length (whole_lines bytes));
  matched = matched_in (open_line bytes);
  first = option_map counted (position is_error (whole_lines bytes));
}

-- These are the marks of the bytes that were written, where these are told.
abbrev pub AreMarks : (written : Option (List ℕ)) → Marks → Type 0
AreMarks written marks = IfSome written (λ bytes. marks ≡ marks_in bytes)

-- one byte more of the open line
abbrev pub matched_more : Option ℕ → (byte : ℕ) → Option ℕ
matched_more None b = None
matched_more (Some n) b = if nat_lt n 5 && (slice_index (codes "error") n == b) then Some (n + 1) else None

-- the open line is `error`
abbrev pub is_whole : Option ℕ → Bool
is_whole None = false
is_whole (Some n) = n == 5

-- the first line that was `error`, if one was, or else this one, if it is
abbrev pub first_of : (first : Option ℕ) → (line : ℕ) → Option ℕ → Option ℕ
first_of (Some k) line matched = Some k
first_of None line matched = if is_whole matched then Some line else None

-- one byte more; 10 ends a line
abbrev pub note : Marks → (byte : ℕ) → Marks
note m b =
    if b == 10 then record { lines = min (m.lines + 1) 18446744073709551615; matched = Some 0; first = first_of m.first m.lines m.matched }
    else record m { matched = matched_more m.matched b }
