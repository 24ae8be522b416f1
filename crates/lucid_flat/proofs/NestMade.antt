-- A nest is made scope by scope.
use Rattle.lucid_flat.proofs.SoundCommon.{ℕ, zero, suc, ◌+◌, ◌<◌, ◌≤◌, List, [], length, get_or, slice_index, subst, arith, slice_get-get_or, IsRound, HasDepth, further, ScopeRow, ScopeIsRight, AllRight}
use Rattle.lucid_equations.specs.Sound.HasDepth.{deeper}
use Rattle.lucid_equations.specs.declared.rows.ScopeKind.TheVariants.{Root}
use Rattle.lucid_flat.specs.Nests.{AreRound, AreLow, AreLower}

-- a leap to a lower scope is one to a scope no higher
pub lower-low : (xs : List ScopeRow) (ls : List ℕ) → AreLower ls → AreRound xs ls → ((s : ℕ) → IsRound xs s 0 → s ≤ 0) → AreLow ls
lower-low xs ls lower round none zero low = none (slice_index ls 0) (round 0 low)
lower-low xs ls lower round none (suc s) low = let h = lower (suc s) (omega arith) low in omega (arith, h)

-- the row that is read past the end
abbrev pub no_row : ScopeRow
no_row = record { parent = 0; kind = Root }

-- the parent of the next scope
module _ (xs : List ScopeRow) (right : AllRight ScopeIsRight xs) (n : ℕ) (within : n < length xs) (some : 0 < n) where
  pub next-low : (get_or xs n no_row).parent < n
  next-low = (right n (get_or xs n no_row) (slice_get-get_or xs n no_row within)).lower some

  pub next-depth : (m : ℕ) → HasDepth xs (get_or xs n no_row).parent m → HasDepth xs n (m + 1)
  next-depth m h = subst (HasDepth xs n) (omega arith) (deeper some (slice_get-get_or xs n no_row within) h)

  pub next-round : (l : ℕ) → IsRound xs l (get_or xs n no_row).parent → IsRound xs l n
  next-round l h = further (slice_get-get_or xs n no_row within) h
