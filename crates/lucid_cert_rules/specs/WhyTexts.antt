-- Which certificates may be shown, which have a text, and which bytes are none.
use Rattle.std.specs.Prelude.{◌≡◌, ℕ, ◌<◌, ◌^◌, List, length, IsTrue}
use Rattle.std.specs.List.{AllByRecursion}
use Rattle.lucid_value.specs.Plain.{is_value}
use Rattle.lucid_texts.specs.Words.{AreBelow}
use Rattle.lucid_texts.specs.TextLines as lines
use Rattle.lucid_cert_rules.specs.Certificates.{PlainJudgment}
use Rattle.lucid_cert_rules.specs.WhyText.{WhyRow, context_row, judgment_row, why_rows, why_lines, why_text}
use Rattle.lucid_cert_rules.specs.declared.rows.ContextRow.{ContextRow}
use Rattle.lucid_cert_rules.specs.declared.rows.ContextRow.TheVariants.{Call, Frozen}
use Rattle.lucid_cert_rules.specs.declared.rows.Why.{Why}

-- a number of 32 bits, and a time or a space
abbrev pub Is32 : ℕ → Type 0
Is32 n = n < 2 ^ 32

abbrev pub Is63 : ℕ → Type 0
Is63 n = n < 2 ^ 63

-- A judgment may be shown: its time and its space are such, and its uses and how many they are have 32 bits.
pub record MayShowJudgment (j : PlainJudgment) : Type 0 where
  pub time : Is63 j.time
  pub space : Is63 j.space
  pub few : Is32 (length j.uses)
  pub uses : AreBelow (2 ^ 32) j.uses

-- A row may be shown: a judgment that may, and a context whose frozen time is a time.
abbrev pub MayShow : WhyRow → Type 0
MayShow (context_row (Call base place caller)) = Unit {0}
MayShow (context_row (Frozen base time)) = Is63 time
MayShow (judgment_row j) = MayShowJudgment j

-- A certificate may be shown: each row may.
abbrev pub MayBeShown : Why → Type 0
MayBeShown w = AllByRecursion MayShow (why_rows w)

-- A row that a line may have: its numbers are in range, and its value is a value.
abbrev pub ContextFits : ContextRow → Type 0
ContextFits (Call base place caller) = Is32 base × (Is32 place × Is32 caller)
ContextFits (Frozen base time) = Is32 base × Is63 time

pub record JudgmentFits (j : PlainJudgment) : Type 0 where
  pub node : Is32 j.node
  pub context : Is32 j.context
  pub shown : MayShowJudgment j
  pub value : IsTrue (is_value j.value)

abbrev pub RowFits : WhyRow → Type 0
RowFits (context_row c) = ContextFits c
RowFits (judgment_row j) = JudgmentFits j

-- The certificate has a text that is read: each row fits, and there is a judgment.
pub record HasText (w : Why) : Type 0 where
  pub rows : AllByRecursion RowFits (why_rows w)
  pub some : 0 < length w.judgments

-- The bytes are the text of the certificate.
pub record IsTextOf (bytes : List ℕ) (w : Why) : Type 0 where
  pub has : HasText w
  pub text : bytes ≡ why_text w

-- the lines are those of a certificate's text
abbrev pub AreWhyLines : List (List ℕ) → Type 0
AreWhyLines ls = (w : Why) × HasText w × (ls ≡ why_lines w)

-- The bytes are no certificate's text, and the line, from 1, is the first with which none goes on.
abbrev pub IsFirstWrongLine : (bytes : List ℕ) → (line : ℕ) → Type 0
IsFirstWrongLine bytes line = lines.IsFirstWrongLine AreWhyLines bytes line
