-- Walks outwards by the depths and leaps of a nest, where the scopes' rows are right.
use Rattle.lucid_flat.proofs.SoundCommon.{◌≡◌, ℕ, zero, suc, ◌<◌, ◌↔◌, List, length, get_or, slice_index, refl, subst, arith, slice_get-get_or, IsRound, HasDepth, itself, further, ScopeRow, ScopeIsRight, AllRight, IsNestOf}
use Rattle.lucid_flat.proofs.Nesting.{zero-depth, one-deeper, one-round, round-shallow}
use Rattle.lucid_flat.proofs.NestMade.{no_row, next-low}

module _ (xs : List ScopeRow) (right : AllRight ScopeIsRight xs) (ds ls : List ℕ) (h : IsNestOf xs ds ls (length xs)) where
  -- a scope with a depth above another number isn't scope 0
  pub inner-some : (s level : ℕ) → s < length xs → level < slice_index ds s → 0 < s
  inner-some zero level within deep = let none = zero-depth xs 0 (slice_index ds 0) refl (h.depths 0 (omega (arith, within, h.all_depths))) in
      omega (arith, none, deep)
  inner-some (suc s) level within deep = omega arith

  -- a parent has one depth less
  pub parent-depth : (s : ℕ) → s < length xs → 0 < s → slice_index ds s ≡ suc (slice_index ds (get_or xs s no_row).parent)
  parent-depth s within some =
      let low = next-low xs right s within some in
      one-deeper xs s (get_or xs s no_row).parent _ _ _ some (slice_get-get_or xs s no_row within) (h.depths s (omega (arith, within, h.all_depths)))
      (h.depths _ (omega (arith, low, within, h.all_depths)))

  pub parent-round : (s : ℕ) → s < length xs → IsRound xs (get_or xs s no_row).parent s
  parent-round s within = further (slice_get-get_or xs s no_row within) itself

  -- where the walk ends, it has found the one scope of that depth that is another or stands round it
  pub ended : (at outer scope level : ℕ) → scope < length xs → at < length xs → IsRound xs at scope → slice_index ds at ≡ level
      → (at ≡ outer) ↔ (IsRound xs outer scope × HasDepth xs outer level)
  ended at outer scope level within there round deep =
      let depth = subst (HasDepth xs at) deep (h.depths at (omega (arith, there, h.all_depths))) in (
        λ same. let P : ℕ → Type 0 = λ s. IsRound xs s scope in let Q : ℕ → Type 0 = λ s. HasDepth xs s level in (subst P same round, subst Q same depth),
        λ w. one-round xs right at outer scope level round w.0 depth w.1,
      )

  -- no scope of a greater depth stands round another
  pub none-deeper : (outer scope level : ℕ) → scope < length xs → slice_index ds scope < level → IsRound xs outer scope × HasDepth xs outer level → ⊥
  none-deeper outer scope level within deep w =
      let low = round-shallow xs right outer scope level _ w.0 w.1 (h.depths scope (omega (arith, within, h.all_depths))) in omega (arith, low, deep)
