-- What is kept of the scopes of a table, to find the scope of a depth that stands round another.
use Rattle.std.specs.Prelude.{◌≡◌, ℕ, ◌<◌, ◌≤◌, List, length, slice_index}
use Rattle.lucid_equations.specs.Sound.{IsRound, HasDepth}
use Rattle.lucid_equations.specs.declared.rows.ScopeRow.{ScopeRow}
use Rattle.lucid_flat.specs.declared.nest.Nest.{Nest}

-- the depths of the first scopes
abbrev pub AreDepths : List ScopeRow → (depths : List ℕ) → Type 0
AreDepths xs ds = (s : ℕ) → s < length ds → HasDepth xs s (slice_index ds s)

-- for each of the first scopes a scope round it
abbrev pub AreRound : List ScopeRow → (leaps : List ℕ) → Type 0
AreRound xs ls = (s : ℕ) → s < length ls → IsRound xs (slice_index ls s) s

-- each leap leads to a lower number, but scope 0's own
abbrev pub AreLow : (leaps : List ℕ) → Type 0
AreLow ls = (s : ℕ) → s < length ls → slice_index ls s ≤ s

abbrev pub AreLower : (leaps : List ℕ) → Type 0
AreLower ls = (s : ℕ) → 0 < s → s < length ls → slice_index ls s < s

-- the depths and leaps of the first n scopes
pub record IsNestOf (xs : List ScopeRow) (ds ls : List ℕ) (n : ℕ) : Type 0 where
  pub all_depths : length ds ≡ n
  pub all_leaps : length ls ≡ n
  pub depths : AreDepths xs ds
  pub round : AreRound xs ls
  pub lower : AreLower ls

-- those of all scopes
abbrev pub IsNest : List ScopeRow → Nest → Type 0
IsNest xs n = IsNestOf xs n.depths.items n.leaps.items (length xs)
