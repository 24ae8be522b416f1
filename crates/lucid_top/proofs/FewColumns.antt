-- Words ask for at most sixteen columns; those that ask for a run, for none.
use Rattle.lucid_top.proofs.Common.{◌≡◌, ℕ, ◌≤◌, Bool, true, false, nat_lt, List, [], ◌∷◌, length, Option, Some, None, inl, inr, refl, ap, subst, ◌∙◌, arith, option_and_then, option_map, codes, lt-ltb, cases_lt, PlainWords, words_asked, task_of, is_some, not, list_all, slice_split}
use Rattle.std.proofs.Common.{cond}
use Rattle.std.specs.Prelude.{nat_eq}
use Rattle.clap.specs.Words.{Kinds, Row, Text, fault_of, first_of, matches_of}
use Rattle.lucid_value.specs.Names.{is_name}
use Rattle.lucid_words.specs.Command.{lucid_command}
use Rattle.lucid_words.specs.Forms.{is_comma, names_for, columns_for}
use Rattle.lucid_words.specs.Rows.{has_conflict}
use Rattle.lucid_words.specs.Asked.{source_in, policy_in, given_in, columns_in, check_in, words_in, where_taken}
use Rattle.lucid_top.specs.declared.task.Task.TheVariants as task

module _ {A B : Type 0} where
  -- what comes of a part that is there
  pub part_of : (o : Option A) (f : A → Option B) (x : B) → option_and_then f o ≡ Some x → (a : A) × (o ≡ Some a) × (f a ≡ Some x)
  part_of None f x is = absurd (cc is)
  part_of (Some a) f x is = (a, refl, is)

  pub image_of : (o : Option A) (f : A → B) (x : B) → option_map f o ≡ Some x → (a : A) × (o ≡ Some a) × (f a ≡ x)
  image_of None f x is = absurd (cc is)
  image_of (Some a) f x is = (a, refl, cc is)

pub unless : {A : Type 0} (b : Bool) (o : Option A) (x : A) → cond b None o ≡ Some x → (b ≡ false) × (o ≡ Some x)
unless true o x is = absurd (cc is)
unless false o x is = (refl, is)

where_so : {A : Type 0} (b : Bool) (xs ys : A) → cond b (Some xs) None ≡ Some ys → xs ≡ ys
where_so true xs ys is = cc is
where_so false xs ys is = absurd (cc is)

pub taken : {A : Type 0} (ks : Kinds) (o : Option A) (x : A) → where_taken ks o ≡ Some x → o ≡ Some x
taken [] o x is = is
taken (k ∷ ks) o x is = absurd (cc is)

not_more : (n : ℕ) → nat_lt 16 n ≡ false → n ≤ 16
not_more n is = elim (cases_lt 16 n) [ inl lt ↦ let there = lt-ltb 16 n lt in absurd (cc (there, is)) | inr le ↦ le ]

few_in : (o : Option (List ℕ)) (ns : List (List ℕ)) → columns_for o ≡ Some ns → length ns ≤ 16
few_in None ns is = let none : [] ≡ ns = cc is in subst (λ (l : List (List ℕ)). length l ≤ 16) none (omega arith)
few_in (Some list) ns is =
    let pieces : List (List ℕ) = slice_split is_comma list in
    let few = unless (nat_lt 16 (length pieces)) (names_for pieces) ns is in
    let same : pieces ≡ ns = where_so (list_all is_name pieces) pieces ns few.1 in
    subst (λ (l : List (List ℕ)). length l ≤ 16) same (not_more (length pieces) few.0)

-- the words that rows ask for have the columns of the rows
columns_are : (rows : List Row) (w : PlainWords) → words_in rows ≡ Some w → columns_in rows ≡ Some w.columns
columns_are rows w is =
    let free = unless (has_conflict rows) _ w is in
    let source = part_of (source_in rows) _ w free.1 in
    let policy = part_of (policy_in rows) _ w source.2 in
    let given = part_of (given_in rows) _ w policy.2 in
    let columns = part_of (columns_in rows) _ w given.2 in
    let check = image_of (check_in rows) _ w columns.2 in
    columns.1 ∙ ap (λ (x : PlainWords). Some x.columns) check.2

pub few_columns : (words : List Text) (w : PlainWords) → words_asked words ≡ Some w → length w.columns ≤ 16
unfolding words_asked
few_columns words w is =
    few_in (first_of (codes "columns") (matches_of lucid_command words)) w.columns
    (columns_are (matches_of lucid_command words) w (taken (fault_of lucid_command words) (words_in (matches_of lucid_command words)) w is))

-- words that ask for a run name no column
none_by : (print empty cycles why check flat : Bool)
    → cond print task.Print (cond (not empty) task.Columns
    (cond cycles task.Cycles (cond why task.Why (cond check task.Check (cond flat task.Flat task.Run))))) ≡ task.Run → empty ≡ true
none_by true empty cycles why check flat is = absurd (cc is)
none_by false true cycles why check flat is = refl
none_by false false cycles why check flat is = absurd (cc is)

pub no_columns : (w : PlainWords) → task_of w ≡ task.Run → nat_eq (length w.columns) 0 ≡ true
no_columns w is = none_by w.print (nat_eq (length w.columns) 0) w.cycles (is_some w.why) (not (nat_eq (length w.check) 0)) w.flat is

some_by : (print empty cycles why check flat : Bool)
    → cond print task.Print (cond (not empty) task.Columns
    (cond cycles task.Cycles (cond why task.Why (cond check task.Check (cond flat task.Flat task.Run))))) ≡ task.Columns → empty ≡ false
some_by true empty cycles why check flat is = absurd (cc is)
some_by false false cycles why check flat is = refl
some_by false true true why check flat is = absurd (cc is)
some_by false true false true check flat is = absurd (cc is)
some_by false true false false true flat is = absurd (cc is)
some_by false true false false false true is = absurd (cc is)
some_by false true false false false false is = absurd (cc is)

-- and those that ask for columns name some
pub some_columns : (w : PlainWords) → task_of w ≡ task.Columns → nat_eq (length w.columns) 0 ≡ false
some_columns w is = some_by w.print (nat_eq (length w.columns) 0) w.cycles (is_some w.why) (not (nat_eq (length w.check) 0)) w.flat is
