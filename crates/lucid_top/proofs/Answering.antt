-- What the words say of what they ask for.
use Rattle.lucid_top.proofs.Common.{◌≡◌, ℕ, ◌<◌, Bool, true, false, List, length, Option, Some, None, option_map, refl, sym, ap, ◌∙◌, arith, PlainWords, task_of, is_some, not}
use Rattle.std.proofs.Common.{cond, nat_eq, ◌^◌, ◌-◌}
use Rattle.lucid_words.specs.Numbers.{IsFromToIfGiven}
use Rattle.lucid_top.specs.declared.task.Task.TheVariants as task
use Rattle.lucid_top.specs.Asked.{columns_asked}
use Rattle.lucid_top.proofs.FewColumns.{no_columns, some_columns}

-- A run is of no columns, and where columns are asked for, it is of those that the words name.
pub none_asked : (w : PlainWords) → task_of w ≡ task.Run → None ≡ columns_asked w
none_asked w is = sym (ap (λ (b : Bool). cond b None (Some w.columns)) (no_columns w is))

pub these_asked : (w : PlainWords) (names : List (List ℕ)) → task_of w ≡ task.Columns → names ≡ w.columns → Some names ≡ columns_asked w
these_asked w names is same = ap Some same ∙ sym (ap (λ (b : Bool). cond b None (Some w.columns)) (some_columns w is))

none_if : {A : Type 0} (b : Bool) (x : A) → None ≡ cond b None (Some x) → b ≡ true
none_if true x is = refl
none_if false x is = absurd (cc is)

these_if : {A : Type 0} (b : Bool) (x y : A) → Some y ≡ cond b None (Some x) → (b ≡ false) × (y ≡ x)
these_if true x y is = absurd (cc is)
these_if false x y is = (refl, cc is)

-- and the other way round
module _ {A : Type 0} (f : A → List (List ℕ)) (o : Option A) (w : PlainWords) where
  pub at_none : o ≡ None → option_map f o ≡ columns_asked w → nat_eq (length w.columns) 0 ≡ true
  at_none is asked = none_if (nat_eq (length w.columns) 0) w.columns (ap (option_map f) (sym is) ∙ asked)

  pub at_these : (a : A) → o ≡ Some a → option_map f o ≡ columns_asked w → (nat_eq (length w.columns) 0 ≡ false) × (f a ≡ w.columns)
  at_these a is asked = these_if (nat_eq (length w.columns) 0) w.columns (f a) (ap (option_map f) (sym is) ∙ asked)

-- Words that ask for a certificate tell its time, which is in range.
time_by : (print empty cycles why check flat : Bool)
    → cond print task.Print (cond (not empty) task.Columns
    (cond cycles task.Cycles (cond why task.Why (cond check task.Check (cond flat task.Flat task.Run))))) ≡ task.Why → why ≡ true
time_by true empty cycles why check flat is = absurd (cc is)
time_by false false cycles why check flat is = absurd (cc is)
time_by false true true why check flat is = absurd (cc is)
time_by false true false true check flat is = refl
time_by false true false false true flat is = absurd (cc is)
time_by false true false false false true is = absurd (cc is)
time_by false true false false false false is = absurd (cc is)

none_there : (o : Option ℕ) → o ≡ None → is_some o ≡ true → ⊥
none_there None is there = cc there
none_there (Some t) is there = cc is

pub has_time : (w : PlainWords) → task_of w ≡ task.Why → w.why ≡ None → ⊥
has_time w is none =
    none_there w.why none
    (time_by w.print (nat_eq (length w.columns) 0) w.cycles (is_some w.why) (not (nat_eq (length w.check) 0)) w.flat is)

pub time_within : (o : Option ℕ) (t : ℕ) → IsFromToIfGiven 0 (2 ^ 63 - 1) o → o ≡ Some t → t < 2 ^ 63
time_within None t within is = absurd (cc is)
time_within (Some u) t within is =
    let same : u ≡ t = cc is in
    omega (arith, within.1, same)
