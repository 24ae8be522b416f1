-- One row of a table is the first that is wrong.
use Rattle.lucid_top.proofs.Common.{◌≡◌, ℕ, ◌<◌, List, [], Some, ◌⊎◌, inl, inr, refl, ap, subst, slice_get, cases_order, Table, BuildRefusal, IsFirstWrongRow}
use Rattle.lucid_flat.specs.declared.program.BuildRefusal.TheVariants as build
use Rattle.lucid_flat.specs.WrongRows.{ScopeIsRight, NodeIsRight, NameIsRight, PlaceIsRight, AllRight, IsFirstWrong, no_scopes, wrong_scope, wrong_node, wrong_name, wrong_place, wrong_root}

-- where all rows are right, none is the first wrong one
none_wrong : {A : Type 0} (Right : ℕ → A → Type 0) (rows : List A) (at : ℕ) → AllRight Right rows → IsFirstWrong Right rows at → ⊥
none_wrong Right rows at all w = w.wrong (all at w.row w.there)

-- one row is the first wrong one
wrong_once : {A : Type 0} (Right : ℕ → A → Type 0) (rows : List A) (a b : ℕ) → IsFirstWrong Right rows a → IsFirstWrong Right rows b → a ≡ b
wrong_once Right rows a b x y = ordered (cases_order a b)
  where
    ordered : (a ≡ b) ⊎ ((a < b) ⊎ (b < a)) → a ≡ b
    ordered (inl same) = same
    ordered (inr (inl below)) = absurd (x.wrong (y.before a x.row below x.there))
    ordered (inr (inr above)) = absurd (y.wrong (x.before b y.row above y.there))

-- no row stands in no rows
no_row : {A : Type 0} (Right : ℕ → A → Type 0) (rows : List A) (at : ℕ) → rows ≡ [] → IsFirstWrong Right rows at → ⊥
no_row Right rows at none w = let there : slice_get [] at ≡ Some w.row = subst (λ l. slice_get l at ≡ Some w.row) none w.there in absurd (cc there)

-- one row is told
pub one_wrong : (t : Table) (e f : BuildRefusal) → IsFirstWrongRow t e → IsFirstWrongRow t f → e ≡ f
one_wrong t e f (no_scopes x) (no_scopes x') = refl
one_wrong t e f (no_scopes x) (wrong_scope a' w') = absurd (no_row ScopeIsRight t.scopes a' x w')
one_wrong t e f (no_scopes x) (wrong_node a' s' w') = absurd (s'.0 x)
one_wrong t e f (no_scopes x) (wrong_name a' s' n' w') = absurd (s'.0 x)
one_wrong t e f (no_scopes x) (wrong_place a' s' n' m' w') = absurd (s'.0 x)
one_wrong t e f (no_scopes x) (wrong_root right' not') = absurd (right'.scopes.0 x)
one_wrong t e f (wrong_scope a w) (no_scopes x') = absurd (no_row ScopeIsRight t.scopes a x' w)
one_wrong t e f (wrong_scope a w) (wrong_scope a' w') = ap build.Scope (wrong_once ScopeIsRight t.scopes a a' w w')
one_wrong t e f (wrong_scope a w) (wrong_node a' s' w') = absurd (none_wrong ScopeIsRight t.scopes a s'.1 w)
one_wrong t e f (wrong_scope a w) (wrong_name a' s' n' w') = absurd (none_wrong ScopeIsRight t.scopes a s'.1 w)
one_wrong t e f (wrong_scope a w) (wrong_place a' s' n' m' w') = absurd (none_wrong ScopeIsRight t.scopes a s'.1 w)
one_wrong t e f (wrong_scope a w) (wrong_root right' not') = absurd (none_wrong ScopeIsRight t.scopes a right'.scopes.1 w)
one_wrong t e f (wrong_node a s w) (no_scopes x') = absurd (s.0 x')
one_wrong t e f (wrong_node a s w) (wrong_scope a' w') = absurd (none_wrong ScopeIsRight t.scopes a' s.1 w')
one_wrong t e f (wrong_node a s w) (wrong_node a' s' w') = ap build.Node (wrong_once (NodeIsRight t) t.nodes a a' w w')
one_wrong t e f (wrong_node a s w) (wrong_name a' s' n' w') = absurd (none_wrong (NodeIsRight t) t.nodes a n' w)
one_wrong t e f (wrong_node a s w) (wrong_place a' s' n' m' w') = absurd (none_wrong (NodeIsRight t) t.nodes a n' w)
one_wrong t e f (wrong_node a s w) (wrong_root right' not') = absurd (none_wrong (NodeIsRight t) t.nodes a right'.nodes w)
one_wrong t e f (wrong_name a s n w) (no_scopes x') = absurd (s.0 x')
one_wrong t e f (wrong_name a s n w) (wrong_scope a' w') = absurd (none_wrong ScopeIsRight t.scopes a' s.1 w')
one_wrong t e f (wrong_name a s n w) (wrong_node a' s' w') = absurd (none_wrong (NodeIsRight t) t.nodes a' n w')
one_wrong t e f (wrong_name a s n w) (wrong_name a' s' n' w') = ap build.Name (wrong_once (λ id. NameIsRight t) t.names a a' w w')
one_wrong t e f (wrong_name a s n w) (wrong_place a' s' n' m' w') = absurd (none_wrong (λ id. NameIsRight t) t.names a m' w)
one_wrong t e f (wrong_name a s n w) (wrong_root right' not') = absurd (none_wrong (λ id. NameIsRight t) t.names a right'.names w)
one_wrong t e f (wrong_place a s n m w) (no_scopes x') = absurd (s.0 x')
one_wrong t e f (wrong_place a s n m w) (wrong_scope a' w') = absurd (none_wrong ScopeIsRight t.scopes a' s.1 w')
one_wrong t e f (wrong_place a s n m w) (wrong_node a' s' w') = absurd (none_wrong (NodeIsRight t) t.nodes a' n w')
one_wrong t e f (wrong_place a s n m w) (wrong_name a' s' n' w') = absurd (none_wrong (λ id. NameIsRight t) t.names a' m w')
one_wrong t e f (wrong_place a s n m w) (wrong_place a' s' n' m' w') = ap build.Place (wrong_once (λ id. PlaceIsRight t) t.places a a' w w')
one_wrong t e f (wrong_place a s n m w) (wrong_root right' not') = absurd (none_wrong (λ id. PlaceIsRight t) t.places a right'.places w)
one_wrong t e f (wrong_root right not) (no_scopes x') = absurd (right.scopes.0 x')
one_wrong t e f (wrong_root right not) (wrong_scope a' w') = absurd (none_wrong ScopeIsRight t.scopes a' right.scopes.1 w')
one_wrong t e f (wrong_root right not) (wrong_node a' s' w') = absurd (none_wrong (NodeIsRight t) t.nodes a' right.nodes w')
one_wrong t e f (wrong_root right not) (wrong_name a' s' n' w') = absurd (none_wrong (λ id. NameIsRight t) t.names a' right.names w')
one_wrong t e f (wrong_root right not) (wrong_place a' s' n' m' w') = absurd (none_wrong (λ id. PlaceIsRight t) t.places a' right.places w')
one_wrong t e f (wrong_root right not) (wrong_root right' not') = refl
