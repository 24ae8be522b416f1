-- What is said behind a run that wrote `error`, or that is done and wrote no line.
use Rattle.std.specs.Prelude.{◌≡◌, ◌≢◌, ℕ, List, [], ◌∷◌, ◌++◌, codes, decimal, map, Option, Some, None, MatchOption, Bool, true, false, not, ◌||◌, if◌then◌else◌}
use Rattle.std.specs.String.{string_bytes}
use Rattle.clap.specs.Words.{Text}
use Rattle.lucid_value.specs.Plain.{same_bytes}
use Rattle.lucid_ports.specs.World.{World}
use Rattle.lucid_ports.specs.Files.{bytes_named}
use Rattle.lucid_ports.specs.declared.files.MemoryFile.{MemoryFile}
use Rattle.lucid_words.specs.Asked.{PlainWords, words_asked}
use Rattle.lucid_ports.specs.Told.{Told}
use Rattle.lucid_report.specs.declared.status.Status.{Status}
use Rattle.lucid_report.specs.declared.status.Status.TheVariants as status
use Rattle.lucid_top.specs.Call.{call}
use Rattle.lucid_top.specs.Clauses.{MeetsClauses}
use Rattle.lucid_explain_run.specs.Prompts.{TellsPrompt}
use Rattle.lucid_explain_errors.specs.declared.inputs.Input.{Input}
use Rattle.lucid_explain_errors.specs.Errors.{TellsError}
use Rattle.lucid_explain_report.specs.Files.{Files, Held, holds, unread, gone, IsSeen}
use Rattle.lucid_explain_report.specs.Said.{past_certificate, names_given, given_file, source_file}
use Rattle.lucid_explain_report.specs.Causes.{asks_columns}
use Rattle.lucid_explain_command.specs.Prompted.{asks_lines}

-- a sink in memory of which these bytes are written
abbrev pub in_memory : (bytes : List ℕ) → (faults late : ℕ) → Told
in_memory bytes faults late = record { bytes = Some bytes; faults = faults; late = late }

-- a file in memory, as its name and its bytes
abbrev pub plain_file : MemoryFile → Text × List ℕ
plain_file f = (string_bytes f.name, f.bytes.items)

-- an input, as its name and its bytes
abbrev pub plain_input : Input → Text × List ℕ
plain_input i = (i.name, i.bytes.items)

-- the name of the standard input
abbrev pub is_standard : (name : Text) → Bool
is_standard name = same_bytes name (codes "-")

-- The bytes of the file of a name as it is read again, if it is one: the standard input is none. An input's bytes past those that may be read,
-- 268,435,456, and one more aren't looked at.
abbrev pub bytes_seen : Held → Option (List ℕ)
bytes_seen (holds bytes) = Some bytes
bytes_seen unread = None
bytes_seen gone = None

pub data IsFound (files : Files) (name : Text) (found : Option (List ℕ)) : Type 0 where
  standard_input : is_standard name ≡ true → found ≡ None → IsFound files name found
  a_file : (seen : Held) → is_standard name ≡ false → IsSeen files name past_certificate seen → found ≡ bytes_seen seen → IsFound files name found

-- these bytes under a label, if there are any
abbrev pub labelled : (label : Text) → (found : Option (List ℕ)) → List (Text × List ℕ)
labelled label None = []
labelled label (Some bytes) = (label, bytes) ∷ []

-- those of some files, each named behind a label, that are read again, in order
pub data AreReadAgain (files : Files) : (names : List (Text × Text)) → (those : List (Text × List ℕ)) → Type 0 where
  no_names : AreReadAgain files [] []
  one_more : (label name : Text) (found : Option (List ℕ)) (names : List (Text × Text)) (those : List (Text × List ℕ)) → IsFound files name found
      → AreReadAgain files names those → AreReadAgain files ((label, name) ∷ names) (labelled label found ++ those)

-- a file that is its own label
abbrev pub as_named : Text → Text × Text
as_named name = (name, name)

-- Behind some others those are added that are read again.
abbrev pub Adds : Files → (names : List (Text × Text)) → (before after : List (Text × List ℕ)) → Type 0
Adds files names before after = (those : List (Text × List ℕ)) × AreReadAgain files names those × (after ≡ before ++ those)

-- the words of the call that makes the certificate of the value at a time
abbrev pub why_words : (time : ℕ) → List Text → List Text
why_words t words = codes "--why" ∷ decimal t ∷ words

-- Where a call is done, what it wrote is found.
abbrev pub Finds : Status → (written : List ℕ) → (found : Option (List ℕ)) → Type 0
Finds ended written found = MatchOption found (ended ≢ status.Done) (λ bytes. (ended ≡ status.Done) × (bytes ≡ written))

-- A call of the command with these words over files in memory, with an output and a report in memory: what is found of what it wrote.
pub record Calls (words : List Text) (files : List MemoryFile) (found : Option (List ℕ)) : Type 0 where
  pub before : World
  pub after : World
  pub written : List ℕ
  pub faults : ℕ
  pub late : ℕ
  pub report_after : Told
  pub ended : Status
  pub fresh : before.reached ≡ 0
  pub held : before.holds ≡ bytes_named files
  pub clauses : MeetsClauses (call (words_asked words) before after (in_memory [] 0 0) (in_memory written faults late)) (in_memory [] 0 0) report_after ended
  pub finds : Finds ended written found

-- The file of the source, as it was read; where that was the standard input, which may hold an input too, there is none.
abbrev pub file_read : (name : Text) → (source : List ℕ) → List (Text × List ℕ)
file_read name source = labelled name (if is_standard name then None else Some source)

-- So the certificate of a time is made again: by files in memory, which are that of the source and those of the inputs that are read again.
pub record IsMade (files : Files) (words : List Text) (asked : PlainWords) (name : Text) (source : List ℕ) (time : ℕ) (found : Option (List ℕ)) : Type 0 where
  pub those : List MemoryFile
  pub again : Adds files (map as_named (map given_file asked.given)) (file_read name source) (map plain_file those)
  pub calls : Calls (why_words time words) those found

-- Where none is made, the only input without a file is told, which the standard input gave; nothing, where that is a terminal.
abbrev pub behind_free : (said : List ℕ) → List ℕ
behind_free [] = []
behind_free (b ∷ bs) =
    codes "Where the values came from isn't told: the standard input can't be read again. With NAME=FILE an input has a file.\n" ++ (b ∷ bs)

abbrev pub SaysUnmade : (terminal : Bool) → PlainWords → (source text : List ℕ) → Type 0
SaysUnmade true asked source text = text ≡ []
SaysUnmade false asked source text = (said : List ℕ) × TellsPrompt source (names_given asked.given) said × (text ≡ behind_free said)

-- By a certificate it is told where the value came from, with the lines of those inputs whose files are read again.
abbrev pub SaysMade : Files → PlainWords → (name source certificate text : List ℕ) → Type 0
SaysMade files asked name source certificate text =
    (inputs : List Input) × AreReadAgain files asked.given (map plain_input inputs) × TellsError name source inputs certificate text

-- So the text tells of the value at a time.
pub data SaysOfTime (files : Files) (terminal : Bool) (words : List Text) (asked : PlainWords) (name : Text) (source : List ℕ) (time : ℕ) (text : List ℕ) : Type 0 where
  not_made : IsMade files words asked name source time None → SaysUnmade terminal asked source text → SaysOfTime files terminal words asked name source time text
  made : (certificate : List ℕ) → IsMade files words asked name source time (Some certificate) → SaysMade files asked name source certificate text
      → SaysOfTime files terminal words asked name source time text

-- the file of the program of which a line is a value
abbrev pub value_file : PlainWords → Option Text
value_file asked = if not (asks_lines asked) || asks_columns asked then None else source_file asked.source

-- What is said of a call that read these bytes of its source, where it is asked of this time; nothing of a call with words that are refused, or that ask
-- for no lines of one program in a file.
pub data SaysError (files : Files) (terminal : Bool) (words : List Text) (source : List ℕ) (time : ℕ) (text : List ℕ) : Type 0 where
  refused_words : words_asked words ≡ None → text ≡ [] → SaysError files terminal words source time text
  no_run : (asked : PlainWords) → words_asked words ≡ Some asked → value_file asked ≡ None → text ≡ [] → SaysError files terminal words source time text
  run : (asked : PlainWords) (name : Text) → words_asked words ≡ Some asked → value_file asked ≡ Some name
      → SaysOfTime files terminal words asked name source time text → SaysError files terminal words source time text
