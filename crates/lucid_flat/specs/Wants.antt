-- How many actuals a call into a scope wants.
use Rattle.std.specs.Prelude.{◌≡◌, ℕ, suc, ◌<◌, Bool, true, ◌==◌, List, [], ◌∷◌, length, slice_index, max}
use Rattle.lucid_equations.specs.declared.rows.Entry.{Entry}
use Rattle.lucid_equations.specs.declared.rows.Entry.TheVariants.{Parameter}
use Rattle.lucid_equations.specs.declared.rows.NameRow.{NameRow}

-- how many actuals a name of the scope, or of another, asks for: a parameter of the scope one more than its index
abbrev pub asked_here : Bool → Entry → ℕ
asked_here true (Parameter i) = suc i
asked_here _ _ = 0

abbrev pub asked : (scope : ℕ) → NameRow → ℕ
asked s r = asked_here (r.scope == s) r.kind

-- The greatest number that a name asks for: 0, or one more than the greatest index of the scope's parameters.
abbrev pub wanted : List NameRow → (scope : ℕ) → ℕ
wanted [] s = 0
wanted (r ∷ rs) s = max (asked s r) (wanted rs s)

-- what each of the first n scopes wants
pub record AreWants (names : List NameRow) (n : ℕ) (wants : List ℕ) : Type 0 where
  pub all : length wants ≡ n
  pub each : (s : ℕ) → s < n → slice_index wants s ≡ wanted names s
