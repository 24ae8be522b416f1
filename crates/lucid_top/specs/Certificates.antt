-- What becomes of a file that is to hold a certificate: it is too long, or no certificate's text; or the text of a certificate.
use Rattle.std.specs.Prelude.{ℕ, ◌<◌, ◌≤◌, List, length}
use Rattle.lucid_ports.specs.World.{World}
use Rattle.lucid_words.specs.Plain.{file}
use Rattle.lucid_cert_rules.specs.WhyTexts.{IsTextOf, IsFirstWrongLine}
use Rattle.lucid_cert_rules.specs.declared.rows.Why.{Why}
use Rattle.lucid_report.specs.declared.refusal.Refusal.{Refusal}
use Rattle.lucid_report.specs.declared.refusal.Refusal.TheVariants as refusal
use Rattle.lucid_top.specs.Sources.{IsSource}

-- how many bytes the file of a certificate may have
abbrev pub most_certificate_bytes : ℕ
most_certificate_bytes = 268435456

-- The bytes aren't too many, and they are the text of the certificate.
pub record HoldsCertificate (bytes : List ℕ) (w : Why) : Type 0 where
  pub short : length bytes ≤ most_certificate_bytes
  pub text : IsTextOf bytes w

-- The bytes are refused so.
pub data RefusesCertificate (bytes : List ℕ) : (why : Refusal) → Type 0 where
  by_size : most_certificate_bytes < length bytes → RefusesCertificate bytes refusal.CertificateTooLong
  by_judgment : {line : ℕ} → length bytes ≤ most_certificate_bytes → IsFirstWrongLine bytes line → RefusesCertificate bytes (refusal.NoJudgment line)

-- The file of this name holds the certificate.
pub record HeldCertificate (name : List ℕ) (v : World) (w : Why) : Type 0 where
  pub bytes : List ℕ
  pub is : IsSource (file name) v bytes
  pub holds : HoldsCertificate bytes w
