-- The law of equations: nothing of them is left out.
use Rattle.std.specs.Prelude.{◌≡◌, ℕ, ◌+◌, ◌<◌, List, Some, slice_get}
use Rattle.std.specs.List.{AllByRecursion}
use Rattle.lucid_cert_rules.specs.Certificates.{PlainJudgment}
use Rattle.lucid_show_outline.specs.Views.{View}
use Rattle.lucid_show_outline.specs.Equations.{equation}

-- Each judgment uses earlier ones, as those do that follow.
abbrev pub UsesAreEarlier : List PlainJudgment → Type 0
UsesAreEarlier js = (i : ℕ) (j : PlainJudgment) → slice_get js i ≡ Some j → AllByRecursion (λ u. u < i) j.uses

-- So no more levels than one and those before it tell anything more.
abbrev pub EquationsAreWhole : Type 0
EquationsAreWhole = (v : View) → UsesAreEarlier v.judgments → (i n : ℕ) → i < n → equation n v i ≡ equation (i + 1) v i
