-- Lines that were read, and what reading a text answers.
use Rattle.std.specs.Prelude.{◌≡◌, ℕ, List, map, Result, Ok, Err}
use Rattle.std.specs.List.{AllByRecursion}
use Rattle.lucid_texts.specs.TextLines.{ended}
use Rattle.lucid_cert_rules.specs.Certificates.{plain_judgment}
use Rattle.lucid_cert_rules.specs.WhyText.{WhyRow, why_rows, row_line}
use Rattle.lucid_cert_rules.specs.WhyTexts.{RowFits, IsFirstWrongLine}
use Rattle.lucid_cert_rules.specs.declared.rows.Why.{Why}
use Rattle.lucid_cert_rules.specs.declared.read.WhyLines.{WhyLines}
use Rattle.lucid_cert_rules.specs.declared.read.WhyRefusal.{WhyRefusal}
use Rattle.lucid_cert_rules.specs.declared.read.WhyRefusal.TheVariants.{Form, NoMemory}

-- the line of a row, ended
abbrev pub line_of : WhyRow → List ℕ
line_of r = ended (row_line r)

-- the certificate of the rows so far
abbrev pub why_of : WhyLines → Why
why_of l = record { contexts = l.contexts.items; judgments = map plain_judgment l.judgments.items }

abbrev pub lines_in : WhyLines → List (List ℕ)
lines_in l = map row_line (why_rows (why_of l))

abbrev pub AllFit : WhyLines → Type 0
AllFit l = AllByRecursion RowFits (why_rows (why_of l))

-- why bytes are refused: they are no certificate's text, from the line on; or for want of memory
abbrev pub IsCertificateRefused : (bytes : List ℕ) → WhyRefusal → Type 0
IsCertificateRefused bytes (Form line) = IsFirstWrongLine bytes line
IsCertificateRefused bytes NoMemory = Unit {0}

-- the certificate is given, unless there is no memory
abbrev pub Gives : Result Why WhyRefusal → Why → Type 0
Gives (Ok v) w = v ≡ w
Gives (Err (Form line)) w = ⊥
Gives (Err NoMemory) w = Unit {0}
