-- Which contexts fit a scope of a table, and which frame an entry wants: of each daton that the table visits.
use Rattle.std.specs.Prelude.{◌≡◌, ℕ, Option, Some, slice_get}
use Rattle.lucid_tree.specs.Members.{In}
use Rattle.lucid_tree.specs.Levels.{Elements}
use Rattle.lucid_tags.specs.Contexts.{Context, root, call_frame, frozen_frame}
use Rattle.lucid_equations.specs.Datons.{Daton}
use Rattle.lucid_equations.specs.Visits.{visited_datons}
use Rattle.lucid_equations.specs.Rows.{name_at, equations_of}
use Rattle.lucid_equations.specs.Sound.{ScopeIs, NameIs}
use Rattle.lucid_equations.specs.declared.rows.ScopeKind.TheVariants.{Called as CalledScope, Frozen as FrozenScope}
use Rattle.lucid_equations.specs.declared.rows.Entry.{Entry}
use Rattle.lucid_equations.specs.declared.rows.Entry.TheVariants.{Plain, Parameter, Current, Called}
use Rattle.lucid_equations.specs.declared.rows.PlaceRow.{PlaceRow}
use Rattle.lucid_equations.specs.declared.table.Table.{Table}

-- A context fits a scope where it has one frame for each scope from there outwards, but none for scope 0. A called scope wants the frame of a
-- place that calls a name of this scope, and the caller's context fits the place's scope; a frozen scope wants a frozen time.
pub data Fits (T : Table) : Context → (scope : ℕ) → Type 0 where
  empty : Fits T root 0
  called : {s parent q body : ℕ} {r : PlaceRow} {caller base : Context} → ScopeIs T.scopes s parent CalledScope → slice_get T.places q ≡ Some r
      → NameIs T r.name s (Called body) → Fits T caller r.scope → Fits T base parent → Fits T (call_frame q caller base) s
  frozen : {s parent u : ℕ} {base : Context} → ScopeIs T.scopes s parent FrozenScope → Fits T base parent → Fits T (frozen_frame u base) s

-- A daton fits where its name has a row and its context fits the name's scope.
pub record DatonFits (T : Table) (k : Daton) : Type 0 where
  pub scope : ℕ
  pub entry : Entry
  pub named : NameIs T k.name scope entry
  pub fits : Fits T k.context scope

-- A context has the innermost frame that an entry wants: a parameter and a called name want a call's, a current name wants a frozen time, and a
-- plain name takes any.
abbrev pub HasFrameFor : Option Entry → Context → Type 0
HasFrameFor (Some (Plain a)) c = Unit {0}
HasFrameFor (Some (Parameter i)) (call_frame q caller base) = Unit {0}
HasFrameFor (Some (Current a)) (frozen_frame u base) = Unit {0}
HasFrameFor (Some (Called a)) (call_frame q caller base) = Unit {0}
HasFrameFor _ _ = ⊥

-- each daton that is visited fits
abbrev pub EachDatonFits : Table → Type 0
EachDatonFits T = (b : Elements) (m d t s : ℕ) (k : Daton × ℕ) → In k (visited_datons (equations_of T) b m d t s) → DatonFits T k.0

-- each has the innermost frame that its entry wants
abbrev pub EachDatonHasItsFrame : Table → Type 0
EachDatonHasItsFrame T =
    (b : Elements) (m d t s : ℕ) (k : Daton × ℕ) → In k (visited_datons (equations_of T) b m d t s) → HasFrameFor (name_at T k.0.name) k.0.context
