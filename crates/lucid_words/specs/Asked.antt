-- What the words of the command line ask for, or that they are refused as usage.
use Rattle.std.specs.Prelude.{ℕ, Bool, List, [], ◌∷◌, Option, None, option_and_then, option_map, unwrap_or, if◌then◌else◌, codes, map}
use Rattle.std.specs.String.{string_bytes}
use Rattle.clap.specs.Words.{Kinds, Row, Text, all_of, fault_of, first_of, matches_of}
use Rattle.lucid_words.specs.declared.PolicyWord.{PolicyWord}
use Rattle.lucid_words.specs.declared.Words.{Words}
use Rattle.lucid_words.specs.Command.{lucid_command}
use Rattle.lucid_words.specs.Plain.{PlainSource, plain_source, plain_given}
use Rattle.lucid_words.specs.Forms.{source_for, policy_for, given_for, columns_for, check_for}
use Rattle.lucid_words.specs.Rows.{is_set, number_given, has_conflict}

-- What words ask for, in its plain form.
pub record PlainWords : Type 0 where
  pub source : PlainSource
  pub given : List (Text × Text)
  pub count : ℕ
  pub depth : ℕ
  pub policy : PolicyWord
  pub age : ℕ
  pub room : ℕ
  pub stats : Bool
  pub print : Bool
  pub columns : List Text
  pub cycles : Bool
  pub why : Option ℕ
  pub check : Text
  pub flat : Bool
  pub from_flat : Bool

abbrev pub plain_words : Words → PlainWords
plain_words words = record {
  source = plain_source words.source;
  given = map plain_given words.given.items;
  count = words.options.count;
  depth = words.options.depth;
  policy = words.policy;
  age = words.age;
  room = words.room;
  stats = words.stats;
  print = words.print;
  columns = words.columns.items;
  cycles = words.cycles;
  why = words.why;
  check = string_bytes words.check;
  flat = words.flat;
  from_flat = words.from_flat;
}

-- The parts that have a form of their own.
abbrev pub source_in : List Row → Option PlainSource
source_in rows = source_for (first_of (codes "program") rows) (number_given 32 (codes "make") rows)

abbrev pub policy_in : List Row → Option PolicyWord
policy_in rows = policy_for (first_of (codes "policy") rows)

abbrev pub given_in : List Row → Option (List (Text × Text))
given_in rows = given_for (unwrap_or (all_of (codes "input") rows) [])

abbrev pub columns_in : List Row → Option (List Text)
columns_in rows = columns_for (first_of (codes "columns") rows)

abbrev pub check_in : List Row → Option Text
check_in rows = check_for (first_of (codes "check") rows)

-- The words with these parts; a number that is not given has its default.
abbrev pub words_with : List Row → PlainSource → PolicyWord → List (Text × Text) → List Text → Text → PlainWords
words_with rows source policy given columns check = record {
  source = source;
  given = given;
  count = unwrap_or (number_given 32 (codes "count") rows) 20;
  depth = unwrap_or (number_given 32 (codes "depth") rows) 100000;
  policy = policy;
  age = unwrap_or (number_given 32 (codes "age") rows) 10;
  room = unwrap_or (number_given 32 (codes "room") rows) 10000;
  stats = is_set (codes "stats") rows;
  print = is_set (codes "print") rows;
  columns = columns;
  cycles = is_set (codes "cycles") rows;
  why = number_given 64 (codes "why") rows;
  check = check;
  flat = is_set (codes "flat") rows;
  from_flat = is_set (codes "from-flat") rows;
}

-- What rows ask for: nothing where two options exclude each other, or a part is not of its form.
abbrev pub words_in : List Row → Option PlainWords
words_in rows = if has_conflict rows then None
    else option_and_then (λ source. option_and_then (λ policy. option_and_then (λ given. option_and_then (λ columns.
    option_map (λ check. words_with rows source policy given columns check) (check_in rows)) (columns_in rows))
    (given_in rows)) (policy_in rows)) (source_in rows)

-- An answer that holds where `clap` finds no fault in the words.
abbrev pub where_taken : {X : Type 0} → Kinds → Option X → Option X
where_taken [] answer = answer
where_taken (_ ∷ _) answer = None

-- What words ask for: nothing where `clap` refuses them.
unfoldable pub words_asked : List Text → Option PlainWords
words_asked words = where_taken (fault_of lucid_command words) (words_in (matches_of lucid_command words))
