-- What a look at an argument leaves, what a row that has its first argument is, and which nodes are operations.
use Rattle.lucid_demand.proofs.Common.{ℕ, inr, List, [], ◌∷◌, Option, arith, slice_index_or, Op, arity, Table, refl, sym, ◌∙◌, subst, IsErrAnd, Value, Key, Task, TaskRow, value_at, IsTouched, Aim, Evaluating}
use Rattle.std.proofs.Common.{◌≡◌, ◌<◌, Some, length}
use Rattle.std.specs.Prelude.{Result, Ok, Err, IfOk}
use Rattle.lucid_tasks.specs.declared.Part.{Part}
use Rattle.lucid_tasks.specs.Rows.{IsPast, Asks, Gives}
use Rattle.lucid_equations.specs.Ranges.{IsInRange}
use Rattle.lucid_equations.specs.Rows as table
use Rattle.lucid_equations.specs.declared.rows.Node.TheVariants as node
use Rattle.lucid_demand_steps.proofs.OperatorParts.{argument_is_lower}
use Rattle.lucid_store.proofs.CallerLemmas.{value_at-touched}
use Rattle.lucid_demand.specs.Naming.{IsNamedAim}
use Rattle.lucid_demand.specs.Telling.{IsOperation, LooksAt, HasFirst}

-- A key was looked up, where the engine was seen so: what a name goes on with stays so,
module _ (o old new : Evaluating) (view : o ≡ old) (y : Task) (a : Aim) (named : IsNamedAim o y a)
    (touched : IsTouched o.engine.stored new.engine.stored a.key) (only : new ≡ record o { engine = record o.engine { stored = new.engine.stored } }) where
  pub key_looks : LooksAt old new
  key_looks = subst (λ z. LooksAt z new) view (record { stored = inr (a.key, touched); only = only })

  pub named_still : IsNamedAim new y a
  named_still = subst (λ z. IsNamedAim z y a) (sym only) (record { reference = named.reference; leads = named.leads; there = named.there })

  -- and so does what is held of it.
  pub found_still : (found : Option Value) → found ≡ value_at o.engine.stored a.key → value_at new.engine.stored a.key ≡ found
  found_still found is = value_at-touched o.engine.stored new.engine.stored a.key touched a.key ∙ sym is

-- a refusal says nothing of a value
pub no_value : {A E : Type 0} (r : Result A E) (Q : E → Type 0) (P : A → Type 0) → IsErrAnd r Q → IfOk r P
no_value (Ok v) Q P h = absurd h
no_value (Err e) Q P h = tt

-- A row was made, and its first part has a value, where the engine was seen so.
pub has_first : (o old : Evaluating) → o ≡ old → (between new : List (Option TaskRow)) (part : Option Part) (slot : ℕ) (x : Task) (key : Option Key) (v : Value)
    → IsPast o.rows slot → Asks o.rows between part slot x key → Gives between new (Some (record { slot = slot; index = 0 })) v
    → HasFirst old.rows new part slot x key v
has_first o old view between new part slot x key v past asks gives = subst (λ (z : Evaluating). HasFirst z.rows new part slot x key v) view
    (record { between = between; past = past; asks = asks; gives = gives })

-- An operator of two arguments is an operation.
pub operation_is : (T : Table) (id : ℕ) (op : Op) (args : List ℕ) → IsInRange T → table.row_at T id ≡ Some (node.Apply op args) → length args ≡ 3
    → arity op ≡ 2 → id < length T.nodes
    → IsOperation T id (record { op = op; first = slice_index_or args 0 0; second = slice_index_or args 1 0 })
operation_is T id op [] range is three two there = absurd (omega (arith, three))
operation_is T id op (a ∷ []) range is three two there = absurd (omega (arith, three))
operation_is T id op (a ∷ b ∷ rest) range is three two there = record {
  rest = rest;
  row = is;
  two = two;
  first_there = let low = argument_is_lower T id op (a ∷ b ∷ rest) range is 0 a (omega (arith, two)) refl in omega (arith, low, there);
  second_there = let low = argument_is_lower T id op (a ∷ b ∷ rest) range is 1 b (omega (arith, two)) refl in omega (arith, low, there);
}
