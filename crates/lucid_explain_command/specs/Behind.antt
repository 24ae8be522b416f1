-- Of what more is said behind a call.
use Rattle.std.specs.Prelude.{◌≡◌, ℕ, ◌==◌, nat_eq, nat_le, Bool, true, false, ◌&&◌, not, is_none, if◌then◌else◌, List, [], length, codes, Option, Some, None, Ok, Err}
use Rattle.std.specs.List.{list_any, starts_with}
use Rattle.clap.specs.Words.{Text}
use Rattle.lucid_words.specs.Asked.{PlainWords, words_asked}
use Rattle.lucid_report.specs.declared.status.Status.{Status}
use Rattle.lucid_report.specs.declared.status.Status.TheVariants as status
use Rattle.lucid_report.specs.declared.stop.Done.TheVariants as done
use Rattle.lucid_report.specs.Status.{Outcome}
use Rattle.lucid_explain_report.specs.Said.{name_in}
use Rattle.lucid_explain_report.specs.Notes.{most_noted, TellsNote}
use Rattle.lucid_explain_command.specs.Noting.{Seen}
use Rattle.lucid_explain_command.specs.declared.behind.Behind.{Behind}
use Rattle.lucid_explain_command.specs.declared.behind.Behind.TheVariants as behind
use Rattle.lucid_explain_command.specs.Prompted.{asks_lines}

-- Where the value at time 0 came from, where a call is done that wrote no line; how many lines a run writes, where it wrote 20.
abbrev pub lines_behind : (lines : ℕ) → Behind
lines_behind n = if n == 0 then behind.Value 0 else if n == 20 then behind.Count else behind.Nothing

abbrev pub done_behind : Status → (lines : ℕ) → Behind
done_behind status.Done n = lines_behind n
done_behind _ n = behind.Nothing

-- Where the value came from of the first line that was `error`, if one was; else that.
abbrev pub first_or : Option ℕ → Behind → Behind
first_or (Some t) other = behind.Value t
first_or None other = other

abbrev pub behind_of : Status → Seen → Behind
behind_of s seen = first_or seen.first (done_behind s seen.lines)

-- A call that ended so wrote lines, and none that is `error`.
abbrev pub wrote_lines : Status → (lines : ℕ) → Bool
wrote_lines status.Done n = not (n == 0)
wrote_lines _ n = false

abbrev pub wrote_values : Status → Seen → Bool
wrote_values s seen = is_none seen.first && wrote_lines s seen.lines

-- a program or a table was run
abbrev pub has_run : Outcome → Bool
has_run (Ok (done.Ran summary stats)) = true
has_run (Ok done.Written) = false
has_run (Err why) = false

-- one of the words is `--from-flat`, or begins so
abbrev pub has_flat : (words : List Text) → Bool
has_flat words = list_any (λ word. starts_with nat_eq word (codes "--from-flat")) words

-- Something may be noted of the source of a call that wrote values: that was a run, and no table's, and the source is short enough.
abbrev pub may_note : (words : List Text) → (source : List ℕ) → Outcome → Bool
may_note words source o = has_run o && (not (has_flat words) && nat_le (length source) most_noted)

-- one of the words is `--count`, or begins so
abbrev pub has_count : (words : List Text) → Bool
has_count words = list_any (λ word. starts_with nat_eq word (codes "--count")) words

-- what is said of the number of lines, where lines of values are asked for
abbrev pub count_text : List ℕ
count_text = codes "A run writes 20 lines where no count is given: with --count N it writes N, 1000000 at most.\n"

abbrev pub count_said : PlainWords → List ℕ
count_said asked = if asks_lines asked then count_text else []

pub data SaysCount (words : List Text) (text : List ℕ) : Type 0 where
  refused_words : words_asked words ≡ None → text ≡ [] → SaysCount words text
  read : (asked : PlainWords) → words_asked words ≡ Some asked → text ≡ count_said asked → SaysCount words text

-- what is noted of the source, where lines of values are asked for
abbrev pub NotesOf : (of_lines : Bool) → PlainWords → (source text : List ℕ) → Type 0
NotesOf true asked source text = TellsNote (name_in asked.source) source text
NotesOf false asked source text = text ≡ []

pub data SaysNote (words : List Text) (source text : List ℕ) : Type 0 where
  no_words : words_asked words ≡ None → text ≡ [] → SaysNote words source text
  words_read : (asked : PlainWords) → words_asked words ≡ Some asked → NotesOf (asks_lines asked) asked source text → SaysNote words source text
