-- Laws of texts. Each is proved as the contract of a function of the same name.
use Rattle.std.specs.Prelude.{◌≡◌, ℕ, List}
use Rattle.lucid_cert_rules.specs.WhyTexts.{IsTextOf}
use Rattle.lucid_cert_rules.specs.declared.rows.Why.{Why}

-- No bytes are the text of two certificates.
abbrev pub OneWhy : Type 0
OneWhy = (bytes : List ℕ) (v w : Why) → IsTextOf bytes v → IsTextOf bytes w → v ≡ w
