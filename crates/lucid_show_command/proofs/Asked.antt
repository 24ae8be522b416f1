-- What words ask for, from what `clap` answers to them.
use Rattle.lucid_show_command.proofs.Common.{◌≡◌, ◌≢◌, Some, true, List, [], ◌∷◌, Option, None, refl, sym, ap, subst, ◌∙◌, inl, inr}
use Rattle.clap.specs.declared.parser.matches.ArgMatches.{ArgMatches}
use Rattle.clap.specs.Words.{App, HasKind, HasMatchesOf, Kinds, Text, fault_of, found_of, is_simple, is_simple_and_free, kind_of, matches_of, rows_of}
use Rattle.clap.specs.declared.error.Error.{Error}
use Rattle.clap.specs.declared.error.kind.ErrorKind.TheVariants.{OutOfMemory}
use Rattle.std.specs.Prelude.{Bool, false, if◌then◌else◌}
use Rattle.lucid_words.specs.Asked.{PlainWords, where_taken}
use Rattle.lucid_top.specs.declared.task.Task.{Task}
use Rattle.lucid_top.specs.declared.task.Task.TheVariants.{Why}
use Rattle.lucid_top.specs.Tasks.{task_of}
use Rattle.lucid_show_command.specs.declared.form.Form.{Form}
use Rattle.lucid_show_command.specs.Words.{asked, for_certificate, for_run, is_run, is_why, of_words, show_command, words_shown}

-- words that ask for a certificate, and others
pub for_why : (w : PlainWords) → is_why (task_of w) ≡ true → for_certificate w ≡ Some w
for_why w is = ap (λ (b : Bool). if b then Some w else None) is

pub for_other : (w : PlainWords) → is_why (task_of w) ≡ false → for_certificate w ≡ None
for_other w is = ap (λ (b : Bool). if b then Some w else None) is

pub why_is : (t : Task) → is_why t ≡ true → t ≡ Why
unfolding is_why
why_is Why is = refl
why_is _ is = cc

-- what is asked for, where there are words for a certificate, names and a form
module _ (asked : Option PlainWords) (names : Option (List Text)) (form : Option Form) where
  pub of_all : (w : PlainWords) (ns : List Text) (f : Form) → asked ≡ Some w → names ≡ Some ns → form ≡ Some f
      → of_words asked names form ≡ Some (record { words = w; names = ns; form = f })
  of_all w ns f is are in_it = λ j. of_words (is j) (are j) (in_it j)

  pub of_no_words : asked ≡ None → of_words asked names form ≡ None
  of_no_words is = ap (λ (o : Option PlainWords). of_words o names form) is

  pub of_no_names : (w : PlainWords) → asked ≡ Some w → names ≡ None → of_words asked names form ≡ None
  of_no_names w is are = λ j. of_words (is j) (are j) form

  pub of_no_form : (w : PlainWords) (ns : List Text) → asked ≡ Some w → names ≡ Some ns → form ≡ None → of_words asked names form ≡ None
  of_no_form w ns is are none = λ j. of_words (is j) (are j) (none j)

-- the same of a run
pub for_a_run : (w : PlainWords) → is_run (task_of w) ≡ true → for_run w ≡ Some w
for_a_run w is = ap (λ (b : Bool). if b then Some w else None) is

pub for_no_run : (w : PlainWords) → is_run (task_of w) ≡ false → for_run w ≡ None
for_no_run w is = ap (λ (b : Bool). if b then Some w else None) is

-- the command is one of which `clap` says what it takes
is_simple_one : is_simple show_command ≡ true
is_simple_one = refl

is_free : is_simple_and_free show_command ≡ true
is_free = refl

-- where the words are taken, they ask for what the rows ask for
pub asked_at_ok : (app : App) (words : List Text) (m : ArgMatches) → app ≡ show_command → (is_simple_and_free app ≡ true → fault_of app words ≡ [])
    → HasMatchesOf app words m → asked words ≡ words_shown (rows_of (found_of m))
unfolding asked
asked_at_ok app words m same no_fault matches =
    let rows = subst (λ (a : App). rows_of (found_of m) ≡ matches_of a words) same (matches (ap is_simple same ∙ is_simple_one)).0 in
    let none = subst (λ (a : App). fault_of a words ≡ []) same (no_fault (ap is_simple_and_free same ∙ is_free)) in
    ap (λ (faults : Kinds). where_taken faults (words_shown (matches_of show_command words))) none ∙ ap words_shown (sym rows)

-- where they are refused but for memory, they ask for nothing
pub asked_at_err : (app : App) (words : List Text) (error : Error) → app ≡ show_command → (is_simple_and_free app ≡ true → HasKind (fault_of app words) error)
    → kind_of error ≢ OutOfMemory → asked words ≡ None
unfolding asked
asked_at_err app words error same kinds no_memory =
    refused (fault_of show_command words) (subst (λ (a : App). HasKind (fault_of a words) error) same (kinds (ap is_simple_and_free same ∙ is_free)))
  where
    refused : (faults : Kinds) → HasKind faults error → where_taken faults (words_shown (matches_of show_command words)) ≡ None
    refused [] (inl memory) = absurd (no_memory memory)
    refused [] (inr among) = absurd among
    refused (k ∷ ks) kind = refl
