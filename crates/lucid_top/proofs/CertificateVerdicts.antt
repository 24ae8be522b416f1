-- The file of a certificate has one verdict: a certificate, or one refusal.
use Rattle.lucid_top.proofs.Common.{ℕ, List, refl, ap, arith, Why, by_size, by_judgment, OneCertificate, CertificateIsNotRefused, OneCertificateRefusal}
use Rattle.lucid_texts.proofs.TextsRead.{line_once}
use Rattle.lucid_cert_rules.specs.WhyText.{why_lines}
use Rattle.lucid_cert_rules.specs.WhyTexts.{AreWhyLines, IsTextOf, IsFirstWrongLine}
use Rattle.lucid_cert_rules.specs.Laws.{OneWhy}
use Rattle.lucid_report.specs.declared.refusal.Refusal.TheVariants as refusal

-- bytes with a wrong line are no certificate's text
no_text : (bytes : List ℕ) (line : ℕ) (w : Why) → IsFirstWrongLine bytes line → IsTextOf bytes w → ⊥
no_text bytes line w wrong x = wrong.no_text (why_lines w) (w, x.has, refl) x.text

pub one_certificate : OneWhy → OneCertificate
one_certificate one bytes v w x y = one bytes v w x.text y.text

pub certificate_is_not_refused : CertificateIsNotRefused
certificate_is_not_refused bytes w why x (by_size long) = let short = x.short in absurd (omega (arith, short, long))
certificate_is_not_refused bytes w why x (by_judgment short wrong) = no_text bytes _ w wrong x.text

pub one_certificate_refusal : OneCertificateRefusal
one_certificate_refusal bytes v w (by_size long) (by_size long') = refl
one_certificate_refusal bytes v w (by_size long) (by_judgment short wrong) = absurd (omega (arith, short, long))
one_certificate_refusal bytes v w (by_judgment short wrong) (by_size long) = absurd (omega (arith, short, long))
one_certificate_refusal bytes v w (by_judgment short wrong) (by_judgment short' wrong') = ap refusal.NoJudgment (line_once AreWhyLines bytes _ _ wrong wrong')
