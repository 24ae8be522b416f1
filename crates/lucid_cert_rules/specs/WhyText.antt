-- The text of a certificate: a line for each row, those of contexts first.
use Rattle.std.specs.Prelude.{ℕ, List, [], ◌∷◌, ◌++◌, map, length, codes, decimal}
use Rattle.std.specs.List.{join_with_byte}
use Rattle.lucid_value.specs.ValueText.{value_text}
use Rattle.lucid_texts.specs.TextLines.{text_of}
use Rattle.lucid_cert_rules.specs.Certificates.{PlainJudgment}
use Rattle.lucid_cert_rules.specs.declared.rows.ContextRow.{ContextRow}
use Rattle.lucid_cert_rules.specs.declared.rows.ContextRow.TheVariants.{Call, Frozen}
use Rattle.lucid_cert_rules.specs.declared.rows.Why.{Why}

-- A row, which has a line.
pub data WhyRow : Type 0 where
  context_row : ContextRow → WhyRow
  judgment_row : PlainJudgment → WhyRow

-- the rows of a certificate in their order
abbrev pub why_rows : Why → List WhyRow
why_rows w = map context_row w.contexts ++ map judgment_row w.judgments

-- The numbers of a judgment: node, context, time, space, how many uses, and the uses.
abbrev pub judgment_numbers : PlainJudgment → List ℕ
judgment_numbers j = j.node ∷ j.context ∷ j.time ∷ j.space ∷ length j.uses ∷ j.uses

-- The words behind the first of a row.
abbrev pub row_rest : WhyRow → List (List ℕ)
row_rest (context_row (Call base place caller)) = map decimal (base ∷ place ∷ caller ∷ [])
row_rest (context_row (Frozen base time)) = map decimal (base ∷ time ∷ [])
row_rest (judgment_row j) = map decimal (judgment_numbers j) ++ value_text j.value ∷ []

-- the first word
abbrev pub row_head : WhyRow → List ℕ
row_head (context_row (Call base place caller)) = codes "c"
row_head (context_row (Frozen base time)) = codes "z"
row_head (judgment_row j) = codes "j"

-- The line of a row: its words with one blank (32) between each two.
abbrev pub row_line : WhyRow → List ℕ
row_line r = join_with_byte 32 (row_head r ∷ row_rest r)

abbrev pub why_lines : Why → List (List ℕ)
why_lines w = map row_line (why_rows w)

-- The text of a certificate: its lines, each of them ended.
abbrev pub why_text : Why → List ℕ
why_text w = text_of (why_lines w)
