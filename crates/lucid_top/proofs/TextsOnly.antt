-- Words that ask for something else than a run name no source in the flat form: two such options exclude each other.
use Rattle.lucid_top.proofs.Common.{◌≡◌, ◌≢◌, ℕ, ◌+◌, ◌≤◌, Bool, true, false, nat_lt, List, [], length, Option, Some, None, inl, inr, refl, sym, ap, ◌∙◌, arith, codes, lt-ltb, cases_lt, PlainSource, file, made, PlainWords, words_asked, task_of, form_of, is_some, not, option_and_then, option_map, slice_get, ◌||◌}
use Rattle.std.proofs.Common.{cond}
use Rattle.std.specs.Prelude.{nat_eq, find}
use Rattle.std.specs.Str.{bytes_eq}
use Rattle.clap.specs.Values.{read_as}
use Rattle.clap.specs.Walk.{row_text}
use Rattle.clap.specs.Words.{Row, Text, fault_of, first_of, matches_of}
use Rattle.lucid_words.specs.Command.{lucid_command}
use Rattle.lucid_words.specs.Forms.{columns_for, check_for}
use Rattle.lucid_words.specs.Rows.{has_conflict, is_set, number_in}
use Rattle.lucid_words.specs.Asked.{source_in, policy_in, given_in, columns_in, check_in, words_in}
use Rattle.lucid_top.specs.declared.task.Task.TheVariants as task
use Rattle.lucid_top.specs.declared.task.Form.TheVariants as form
use Rattle.lucid_top.specs.Tasks.{form_for}
use Rattle.lucid_top.proofs.FewColumns.{part_of, image_of, unless, taken}

-- how many of some options are given, one by one
abbrev ones : Bool → ℕ
ones b = cond b 1 0

not_given : (b : Bool) → ones b ≤ 0 → b ≡ false
not_given true few = absurd (omega (arith, few))
not_given false few = refl

left_of : (b c : Bool) → (b || c) ≡ false → b ≡ false
left_of true c is = absurd (cc is)
left_of false c is = refl

at_most_one : (n : ℕ) → nat_lt 1 n ≡ false → n ≤ 1
at_most_one n is = elim (cases_lt 1 n) [ inl lt ↦ let there = lt-ltb 1 n lt in absurd (cc (there, is)) | inr le ↦ le ]

-- what an option asks for that isn't given
no_list : (o : Option Text) (names : List Text) → is_some o ≡ false → columns_for o ≡ Some names → nat_eq (length names) 0 ≡ true
no_list None names none is = let same : [] ≡ names = cc is in ap (λ (l : List Text). nat_eq (length l) 0) (sym same)
no_list (Some list) names none is = absurd (cc none)

no_file : (o : Option Text) (name : Text) → is_some o ≡ false → check_for o ≡ Some name → not (nat_eq (length name) 0) ≡ false
no_file None name none is = let same : [] ≡ name = cc is in ap (λ (l : Text). not (nat_eq (length l) 0)) (sym same)
no_file (Some text) name none is = absurd (cc none)

no_number : (o : Option Row) (f : Text → Option ℕ) → is_some (option_and_then (λ (r : Row). slice_get r.values 0) o) ≡ false
    → is_some (option_and_then f (option_and_then row_text o)) ≡ false
no_number None f none = refl
no_number (Some r) f none = by (slice_get r.values 0) none
  where
    by : (v : Option Text) → is_some v ≡ false → is_some (option_and_then f (option_map (read_as r.reading) v)) ≡ false
    by None none = refl
    by (Some text) none = absurd (cc none)

-- where no option asks for something else, a run is asked for
run_by : (print empty cycles why check flat : Bool) → print ≡ false → empty ≡ true → cycles ≡ false → why ≡ false → check ≡ false → flat ≡ false
    → cond print task.Print (cond (not empty) task.Columns
    (cond cycles task.Cycles (cond why task.Why (cond check task.Check (cond flat task.Flat task.Run))))) ≡ task.Run
run_by print empty cycles why check flat a b c d e f = rw (a, b, c, d, e, f) refl

-- the words that rows ask for, where the rows name a source in the flat form
flat_runs : (rows : List Row) (w : PlainWords) → words_in rows ≡ Some w → w.from_flat ≡ true → task_of w ≡ task.Run
flat_runs rows w is from_flat =
    let free = unless (has_conflict rows) _ w is in
    let source = part_of (source_in rows) _ w free.1 in
    let policy = part_of (policy_in rows) _ w source.2 in
    let given = part_of (given_in rows) _ w policy.2 in
    let columns = part_of (columns_in rows) _ w given.2 in
    let check = image_of (check_in rows) _ w columns.2 in
    let same = check.2 in
    let p : Bool = is_set (codes "print") rows in
    let c : Bool = is_some (first_of (codes "columns") rows) in
    let y : Bool = is_set (codes "cycles") rows in
    let k : Bool = is_some (first_of (codes "why") rows) in
    let h : Bool = is_some (first_of (codes "check") rows) in
    let f : Bool = is_set (codes "flat") rows in
    let g : Bool = is_set (codes "from-flat") rows in
    let here : ones g ≡ 1 = ap (λ (x : PlainWords). ones x.from_flat) same ∙ ap ones from_flat in
    let few : 0 + ones p + ones c + ones y + ones k + ones h + ones f + ones g ≤ 1 =
    at_most_one (0 + ones p + ones c + ones y + ones k + ones h + ones f + ones g) (left_of _ _ free.0) in
    let print : w.print ≡ false = ap (λ (x : PlainWords). x.print) (sym same) ∙ not_given p (omega (arith, here, few)) in
    let empty : nat_eq (length w.columns) 0 ≡ true =
    ap (λ (x : PlainWords). nat_eq (length x.columns) 0) (sym same) ∙ no_list (first_of (codes "columns") rows) columns.0 (not_given c (omega (arith, here, few))) columns.1 in
    let cycles : w.cycles ≡ false = ap (λ (x : PlainWords). x.cycles) (sym same) ∙ not_given y (omega (arith, here, few)) in
    let why : is_some w.why ≡ false =
    ap (λ (x : PlainWords). is_some x.why) (sym same) ∙ no_number (find (λ (r : Row). bytes_eq r.id (codes "why")) rows) (number_in 64) (not_given k (omega (arith, here, few))) in
    let checked : not (nat_eq (length w.check) 0) ≡ false =
    ap (λ (x : PlainWords). not (nat_eq (length x.check) 0)) (sym same) ∙ no_file (first_of (codes "check") rows) check.0 (not_given h (omega (arith, here, few))) check.1 in
    let flat : w.flat ≡ false = ap (λ (x : PlainWords). x.flat) (sym same) ∙ not_given f (omega (arith, here, few)) in
    run_by w.print (nat_eq (length w.columns) 0) w.cycles (is_some w.why) (not (nat_eq (length w.check) 0)) w.flat print empty cycles why checked flat

flat_given : (s : PlainSource) (from_flat : Bool) → form_for s from_flat ≡ form.Flat → from_flat ≡ true
flat_given (made n) from_flat is = absurd (cc is)
flat_given (file name) true is = refl
flat_given (file name) false is = absurd (cc is)

pub texts_only : (words : List Text) (w : PlainWords) → words_asked words ≡ Some w → task_of w ≢ task.Run → form_of w ≢ form.Flat
unfolding words_asked
texts_only words w is other = λ flat.
    other (flat_runs (matches_of lucid_command words) w (taken (fault_of lucid_command words) (words_in (matches_of lucid_command words)) w is)
    (flat_given w.source w.from_flat flat))
