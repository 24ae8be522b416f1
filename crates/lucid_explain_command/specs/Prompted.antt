-- What is said before a call, where the standard input is a terminal.
use Rattle.std.specs.Prelude.{◌≡◌, ℕ, Bool, ◌&&◌, ◌||◌, ◌==◌, not, is_some, length, List, [], Option, Some, None, if◌then◌else◌}
use Rattle.clap.specs.Words.{Text}
use Rattle.lucid_words.specs.Asked.{PlainWords, words_asked}
use Rattle.lucid_explain_run.specs.Prompts.{TellsPrompt}
use Rattle.lucid_explain_report.specs.Files.{Files, Held, holds, unread, gone, IsSeen}
use Rattle.lucid_explain_report.specs.Causes.{asks_columns}
use Rattle.lucid_explain_report.specs.Said.{past_source, names_given, source_file}

-- The words ask for a text of the program.
abbrev pub asks_text : PlainWords → Bool
asks_text asked = asked.print || asked.cycles || asked.flat || asked.from_flat

-- they ask for lines of values, and for no certificate
abbrev pub asks_lines : PlainWords → Bool
asks_lines asked = not (asks_text asked) && (not (is_some asked.why) && (length asked.check == 0))

-- the file of the program whose one stream is run, or of whose value a certificate is made or checked
abbrev pub run_file : PlainWords → Option Text
run_file asked = if asks_text asked then None else if asks_columns asked then None else source_file asked.source

-- The text tells the only input without a file of a program that is seen so; nothing is said of a file that isn't read.
abbrev pub PromptsBy : (asked : PlainWords) → (seen : Held) → (text : List ℕ) → Type 0
PromptsBy asked (holds source) text = TellsPrompt source (names_given asked.given) text
PromptsBy asked unread text = text ≡ []
PromptsBy asked gone text = text ≡ []

-- What is said before a call with the words.
pub data IsPrompt (files : Files) (words : List Text) (text : List ℕ) : Type 0 where
  refused_words : words_asked words ≡ None → text ≡ [] → IsPrompt files words text
  no_run : (asked : PlainWords) → words_asked words ≡ Some asked → run_file asked ≡ None → text ≡ [] → IsPrompt files words text
  run : (asked : PlainWords) (name : Text) (seen : Held) → words_asked words ≡ Some asked → run_file asked ≡ Some name → IsSeen files name past_source seen
      → PromptsBy asked seen text → IsPrompt files words text
