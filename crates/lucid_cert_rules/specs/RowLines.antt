-- The row of a line.
use Rattle.std.specs.Prelude.{◌≡◌, ℕ, List, [], ◌∷◌, ◌++◌, map, Option, Some, None, decimal}
use Rattle.std.specs.List.{join_with_byte}
use Rattle.lucid_value.specs.ValueText.{value_text}
use Rattle.lucid_cert_rules.specs.Certificates.{PlainJudgment, plain_judgment}
use Rattle.lucid_cert_rules.specs.WhyText.{WhyRow, context_row, judgment_row, judgment_numbers, row_line}
use Rattle.lucid_cert_rules.specs.WhyTexts.{JudgmentFits, RowFits}
use Rattle.lucid_cert_rules.specs.declared.read_rows.Row.{Row}
use Rattle.lucid_cert_rules.specs.declared.read_rows.Row.TheVariants.{Context, Judgment}

-- a row as definitions speak of it
abbrev pub plain_row : Row → WhyRow
plain_row (Context c) = context_row c
plain_row (Judgment j) = judgment_row (plain_judgment j)

-- the line is this row's; or it is no row's
abbrev pub IsRowOf : List ℕ → Option WhyRow → Type 0
IsRowOf line (Some r) = RowFits r × (line ≡ row_line r)
IsRowOf line None = (r : WhyRow) → RowFits r → line ≡ row_line r → ⊥

-- what stands behind the first word of a judgment's line, and its blank
abbrev pub judgment_tail : PlainJudgment → List ℕ
judgment_tail j = join_with_byte 32 (map decimal (judgment_numbers j) ++ value_text j.value ∷ [])

-- the bytes stand there for this judgment; or for none
abbrev pub IsTailOf : List ℕ → Option PlainJudgment → Type 0
IsTailOf tail (Some j) = JudgmentFits j × (tail ≡ judgment_tail j)
IsTailOf tail None = (j : PlainJudgment) → JudgmentFits j → tail ≡ judgment_tail j → ⊥
