-- What words ask for, from what `clap` answers to them.
use Rattle.lucid_words.proofs.Common.{◌≡◌, true, List, [], ◌∷◌, Option, None, refl, sym, ap, subst, ◌∙◌, inl, inr, ArgMatches, lucid_command, ◌≢◌}
use Rattle.clap.specs.Words.{App, HasKind, HasMatchesOf, IsAmong, Kinds, Text, fault_of, found_of, is_simple, is_simple_and_free, kind_of, matches_of, rows_of}
use Rattle.clap.specs.declared.error.Error.{Error}
use Rattle.clap.specs.declared.error.kind.ErrorKind.{ErrorKind}
use Rattle.clap.specs.declared.error.kind.ErrorKind.TheVariants.{OutOfMemory}
use Rattle.lucid_words.specs.Asked.{where_taken, words_asked, words_in}

-- the command is one of which `clap` says what it takes
lucid_is_simple : is_simple lucid_command ≡ true
lucid_is_simple = refl

lucid_is_free : is_simple_and_free lucid_command ≡ true
lucid_is_free = refl

where_none : {X : Type 0} (faults : Kinds) (answer : Option X) → faults ≡ [] → where_taken faults answer ≡ answer
where_none [] answer none = refl
where_none (k ∷ ks) answer none = cc

where_some : {X : Type 0} (faults : Kinds) (answer : Option X) (k : ErrorKind) → IsAmong k faults → where_taken faults answer ≡ None
where_some [] answer k among = absurd among
where_some (x ∷ xs) answer k among = refl

-- where the words are taken, they ask for what the rows ask for
pub asked_at_ok : (app : App) (words : List Text) (m : ArgMatches) → app ≡ lucid_command → (is_simple_and_free app ≡ true → fault_of app words ≡ [])
    → HasMatchesOf app words m → words_asked words ≡ words_in (rows_of (found_of m))
unfolding words_asked
asked_at_ok app words m same no_fault matches =
    let rows = subst (λ (a : App). rows_of (found_of m) ≡ matches_of a words) same (matches (ap is_simple same ∙ lucid_is_simple)).0 in
    let none = subst (λ (a : App). fault_of a words ≡ []) same (no_fault (ap is_simple_and_free same ∙ lucid_is_free)) in
    where_none (fault_of lucid_command words) (words_in (matches_of lucid_command words)) none ∙ ap words_in (sym rows)

-- where they are refused but for memory, they ask for nothing
pub asked_at_err : (app : App) (words : List Text) (error : Error) → app ≡ lucid_command → (is_simple_and_free app ≡ true → HasKind (fault_of app words) error)
    → kind_of error ≢ OutOfMemory → words_asked words ≡ None
unfolding words_asked
asked_at_err app words error same kinds no_memory =
    let kind = subst (λ (a : App). HasKind (fault_of a words) error) same (kinds (ap is_simple_and_free same ∙ lucid_is_free)) in
    elim kind [
      | inl memory ↦ absurd (no_memory memory)
      | inr among ↦ where_some (fault_of lucid_command words) (words_in (matches_of lucid_command words)) (kind_of error) among
    ]
