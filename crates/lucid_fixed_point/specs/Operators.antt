-- The operator of each form, by the rows of the forms.
use Rattle.std.specs.Prelude.{◌≡◌, ℕ, suc, ◌<◌, ◌≤◌, true, false, List, ◌↔◌}
use Rattle.lucid_value.specs.Plain.{PlainValue, truth, fault}
use Rattle.lucid_ops.specs.Algebra.{algebra}
use Rattle.lucid_ops.specs.declared.op.Op.{Op}
use Rattle.lucid_tree.specs.Tree.{const, apply, choose, both, either, first, next, fby, whenever, asa, upon, attime, initial, succ, sby, atspace}
use Rattle.lucid_tree.specs.Rows.{last}
use Rattle.lucid_fixed_point.specs.Search.{Search, Advance}
use Rattle.lucid_fixed_point.specs.Streams.{Streams, operator}
use Rattle.lucid_fixed_point.specs.Tests.{Tested, AsTruth, Placed, HaveValues}

-- The operator of each form, said of the streams of its parts.
pub record OperatesAsTheBook (a : Streams) : Type 0 where
  pub constant_is : (c : PlainValue) (t s : ℕ) (v : PlainValue) → operator (const c) a t s v ↔ (c ≡ v)
  pub data_is : (op : Op) (n t s : ℕ) (v : PlainValue)
      → operator (apply op n) a t s v ↔ ((vs : List PlainValue) × HaveValues a n 0 t s vs × (algebra op vs ≡ v))
  pub if_is : (t s : ℕ) (v : PlainValue) → operator choose a t s v ↔ Tested (a 0 t s) (a 1 t s) (a 2 t s) v
  pub and_is : (t s : ℕ) (v : PlainValue) → operator both a t s v ↔ Tested (a 0 t s) (AsTruth (a 1 t s)) (λ w. truth false ≡ w) v
  pub or_is : (t s : ℕ) (v : PlainValue) → operator either a t s v ↔ Tested (a 0 t s) (λ w. truth true ≡ w) (AsTruth (a 1 t s)) v
  pub first_is : (t s : ℕ) (v : PlainValue) → operator first a t s v ↔ a 0 0 s v
  pub next_is : (t s : ℕ) (v : PlainValue) → t < last → operator next a t s v ↔ a 0 (suc t) s v
  pub next_ends : (t s : ℕ) (v : PlainValue) → last ≤ t → operator next a t s v ↔ (fault ≡ v)
  pub fby_begins : (s : ℕ) (v : PlainValue) → operator fby a 0 s v ↔ a 0 0 s v
  pub fby_goes_on : (t s : ℕ) (v : PlainValue) → operator fby a (suc t) s v ↔ a 1 t s v
  pub whenever_is : (t s : ℕ) (v : PlainValue) → operator whenever a t s v ↔ Search a s 0 t v
  pub asa_is : (t s : ℕ) (v : PlainValue) → operator asa a t s v ↔ Search a s 0 0 v
  pub upon_is : (t s : ℕ) (v : PlainValue) → operator upon a t s v ↔ Advance a s t 0 0 v
  pub attime_is : (t s : ℕ) (v : PlainValue) → operator attime a t s v ↔ Placed (a 1 t s) (λ u. a 0 u s) v
  -- the same over space, at each time
  pub initial_is : (t s : ℕ) (v : PlainValue) → operator initial a t s v ↔ a 0 t 0 v
  pub succ_is : (t s : ℕ) (v : PlainValue) → s < last → operator succ a t s v ↔ a 0 t (suc s) v
  pub succ_ends : (t s : ℕ) (v : PlainValue) → last ≤ s → operator succ a t s v ↔ (fault ≡ v)
  pub sby_begins : (t : ℕ) (v : PlainValue) → operator sby a t 0 v ↔ a 0 t 0 v
  pub sby_goes_on : (t s : ℕ) (v : PlainValue) → operator sby a t (suc s) v ↔ a 1 t s v
  pub atspace_is : (t s : ℕ) (v : PlainValue) → operator atspace a t s v ↔ Placed (a 1 t s) (λ r. a 0 t r) v
