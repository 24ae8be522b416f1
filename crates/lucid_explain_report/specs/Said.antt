-- What is said behind the line that a call reported.
use Rattle.std.specs.Prelude.{◌≡◌, ◌≢◌, ℕ, ◌+◌, ◌<◌, Bool, true, false, ◌&&◌, ◌||◌, not, nat_le, ◌==◌, List, [], ◌∷◌, ◌++◌, length, map, take, min, codes, Option, Some, None, is_some, if◌then◌else◌}
use Rattle.std.specs.Borrow.{Bor}
use Rattle.std.specs.List.{flat_map, list_any, prefix_len, slice_get}
use Rattle.clap.specs.Words.{Text}
use Rattle.lucid_value.specs.Plain.{same_bytes}
use Rattle.lucid_value.specs.Reading.{is_blank}
use Rattle.lucid_scan.specs.Refusals.{most_source_bytes}
use Rattle.lucid_words.specs.Plain.{PlainSource, file, made}
use Rattle.lucid_words.specs.Asked.{PlainWords, words_asked}
use Rattle.lucid_explain_source.specs.declared.fault.Fault.{Fault}
use Rattle.lucid_explain_source.specs.Accepted.{IsAccepted}
use Rattle.lucid_explain_source.specs.Characters.{begins}
use Rattle.lucid_explain_places.specs.Shown.{place_text, shown_byte}
use Rattle.lucid_explain_source.specs.Sources.{Explains}
use Rattle.lucid_explain_run.specs.Inputs.{TellsInputs, TellsFree}
use Rattle.lucid_explain_source.specs.Columns.{TellsColumns}
use Rattle.lucid_explain_run.specs.Depths.{TellsDepth}
use Rattle.lucid_explain_run.specs.Judgments.{TellsJudgment}
use Rattle.lucid_report.specs.declared.stop.Stop.{Stop}
use Rattle.lucid_explain_report.specs.declared.causes.Cause.{Cause}
use Rattle.lucid_explain_report.specs.declared.causes.Cause.TheVariants as cause
use Rattle.lucid_explain_report.specs.Files.{Files, Held, holds, unread, gone, is_unread, IsSeen}
use Rattle.lucid_explain_report.specs.Stops.{stop_text}
use Rattle.lucid_explain_report.specs.Notes.{TellsNote}
use Rattle.lucid_explain_report.specs.Causes.{cause_of}

-- one byte more than a source may have
abbrev pub past_source : ℕ
past_source = most_source_bytes + 1

-- the names of inputs for which files are given
abbrev pub given_name : Text × Text → Text
given_name given = given.0

abbrev pub names_given : List (Text × Text) → List Text
names_given given = map given_name given

-- Bytes as they are shown, at most 160.
abbrev pub shown_text : List ℕ → List ℕ
shown_text bytes = map shown_byte (take 160 bytes)

-- of a read fault: the files that can't be read now, of those that the words name
abbrev pub source_files : PlainSource → List Text
source_files (file name) = name ∷ []
source_files (made number) = []

abbrev pub certificate_files : Text → List Text
certificate_files name = if length name == 0 then [] else name ∷ []

abbrev pub given_file : Text × Text → Text
given_file given = given.1

abbrev pub files_asked : PlainWords → List Text
files_asked asked = source_files asked.source ++ (certificate_files asked.check ++ map given_file asked.given)

abbrev pub unread_text : (name : List ℕ) → List ℕ
unread_text name = codes "This file can't be opened or read: " ++ (shown_text name ++ codes "\n")

-- A program or values themselves, in place of the name of their file: blanks stand there, and neither a `.` (46) nor a `/` (47). The name of a file mostly
-- has one of these, and a program neither, but in comments and strings.
abbrev pub has_mark : (name : List ℕ) → Bool
has_mark name = list_any (λ b. b == 46 || b == 47) name

abbrev pub is_written : (name : List ℕ) → Bool
is_written name = list_any is_blank name && not (has_mark name)

abbrev pub written_text : (name : List ℕ) → List ℕ
written_text name =
    if is_written name then codes "A program stands in a file: put this into one, say program.lucid, and give its name. The values of an input stand in a file too.\n" else []

abbrev pub fault_text : (name : List ℕ) → List ℕ
fault_text name = unread_text name ++ written_text name

-- of a fault where all files can be read now
unfoldable pub unknown_text : List ℕ
unknown_text = codes "A file of these words, or the standard input, couldn't be read to the end. A folder can't be read: name a file in it.\n"

-- Those are the names, in order, under which nothing can be read.
pub data AreUnread (files : Files) : (names those : List Text) → Type 0 where
  no_names : AreUnread files [] []
  one_more : (name : Text) (seen : Held) (names those : List Text) → IsSeen files name 1 seen → AreUnread files names those
      → AreUnread files (name ∷ names) (if is_unread seen then name ∷ those else those)

-- Behind a text it is told of those that they can't be read.
abbrev pub TellsFiles : Files → (names : List Text) → (before after : List ℕ) → Type 0
TellsFiles files names before after = (those : List Text) × AreUnread files names those × (after ≡ before ++ flat_map fault_text those)

-- what is said of a read fault, by what is told of files
abbrev pub or_unknown : List ℕ → List ℕ
or_unknown [] = unknown_text
or_unknown (b ∷ bs) = b ∷ bs

-- Those are told, or that there are none.
abbrev pub SaysFiles : Files → PlainWords → (text : List ℕ) → Type 0
SaysFiles files asked text = (told : List ℕ) × TellsFiles files (files_asked asked) [] told × (text ≡ or_unknown told)

-- one byte more than a certificate may have
abbrev pub past_certificate : ℕ
past_certificate = 268435457

-- the file of a source
abbrev pub source_file : PlainSource → Option Text
source_file (file name) = Some name
source_file (made number) = None

-- its name; a made program has none
abbrev pub name_in : PlainSource → List ℕ
name_in (file name) = name
name_in (made number) = []

-- What a source of this name says of a fault for which a call was refused: why, and where, if that is its fault; else what is said of the refusal alone.
pub data TellsFault (fault : Fault) (name source alone text : List ℕ) : Type 0 where
  its_own : Explains name source fault text → TellsFault fault name source alone text
  another : (found : Fault) (said : List ℕ) → Explains name source found said → found ≢ fault → text ≡ alone → TellsFault fault name source alone text
  accepted : IsAccepted source → text ≡ alone → TellsFault fault name source alone text

-- the place at which a source isn't judged, where it is one of the source
abbrev pub place_said : (name source : List ℕ) → (at : ℕ) → List ℕ
place_said name source at = if nat_le at (length source) && nat_le (length source) most_source_bytes then place_text name source at else []

-- The text says which piece of the source has the node of a judgment, where the certificate is seen; and behind that, and else, what is said alone.
abbrev pub TellsPiece : (name source : List ℕ) → (certificate : Held) → (number : ℕ) → (alone text : List ℕ) → Type 0
TellsPiece name source (holds certificate) number alone text = (said : List ℕ) × TellsJudgment name source certificate number said × (text ≡ said ++ alone)
TellsPiece name source unread number alone text = text ≡ alone
TellsPiece name source gone number alone text = text ≡ alone

-- The text says that of the source of this name: its fault; its inputs without a file; all its inputs; the names that may be columns; a place; what
-- `--cycles` says of it, and what that means for a time, with what is noted of it; which piece has a judgment. Or it tells the files that can't be read now;
-- or nothing more. Before all inputs, behind a place, a depth and a judgment, and alone, stands what is said of the stop alone.
abbrev pub SaysBy : Cause → Files → PlainWords → (name source : List ℕ) → Stop → (text : List ℕ) → Type 0
SaysBy (cause.Source fault) files asked name source why text = TellsFault fault name source (stop_text why) text
SaysBy cause.Inputs files asked name source why text = TellsInputs source (names_given asked.given) text
SaysBy cause.Free files asked name source why text = (said : List ℕ) × TellsFree source said × (text ≡ stop_text why ++ said)
SaysBy cause.Columns files asked name source why text = TellsColumns source text
SaysBy (cause.Place at) files asked name source why text = text ≡ place_said name source at ++ stop_text why
SaysBy (cause.Depth time) files asked name source why text =
    (said : List ℕ) × (note : List ℕ) × TellsDepth source asked.depth time said × TellsNote name source note
    × (text ≡ said ++ (stop_text why ++ note))
SaysBy (cause.Judgment number) files asked name source why text =
    (seen : Held) × IsSeen files asked.check past_certificate seen × TellsPiece name source seen number (stop_text why) text
SaysBy cause.Files files asked name source why text = SaysFiles files asked text
SaysBy cause.Alone files asked name source why text = text ≡ stop_text why

-- What is said of a call with these words that was stopped so, and read these bytes of its source.
abbrev pub Says : Files → PlainWords → (source : List ℕ) → Stop → (text : List ℕ) → Type 0
Says files asked source why text = SaysBy (cause_of asked why) files asked (name_in asked.source) source why text

-- texts that are lent
abbrev pub texts_of : List (Bor Text) → List Text
texts_of words = map (λ word. word.now) words

-- what is tried behind words, to see whether they are the first of some that are right
abbrev pub tried : List (List Text)
tried =
    [] ∷ (codes "p" ∷ []) ∷ (codes "1" ∷ codes "p" ∷ []) ∷ (codes "1" ∷ []) ∷ (codes "p" ∷ codes "p" ∷ []) ∷ (codes "keep" ∷ codes "p" ∷ []) ∷ []

abbrev pub is_right_with : (words end : List Text) → Bool
is_right_with words end = is_some (words_asked (words ++ end))

-- One of those makes the words right.
abbrev pub goes_on : (words : List Text) → Bool
goes_on words = list_any (is_right_with words) tried

-- what stands before the `=` of a word
abbrev pub option_of : (word : Text) → List ℕ
option_of word = take (prefix_len (λ b. not (b == 61)) word) word

-- an option with a number of this range
abbrev pub is_number_option : (option : List ℕ) → Bool
is_number_option option =
    same_bytes option (codes "--count") || same_bytes option (codes "--depth") || same_bytes option (codes "--age") || same_bytes option (codes "--room")

-- an option of `lucid_show` alone
abbrev pub is_shown_option : (option : List ℕ) → Bool
is_shown_option option =
    same_bytes option (codes "--at") || same_bytes option (codes "--as") || same_bytes option (codes "--names") || same_bytes option (codes "--cells")
    || same_bytes option (codes "--steps")

-- with these bytes the dashes begin that stand for two minus signs in typeset text
abbrev pub dash_bytes : List ℕ
dash_bytes = 226 ∷ 128 ∷ []

-- A `=` (61) stands in the word.
abbrev pub has_equals : (word : Text) → Bool
has_equals word = list_any (λ b. b == 61) word

-- of what is no option
abbrev pub argument_advice : (word : Text) → List ℕ
argument_advice word =
    if begins word dash_bytes then codes "An option begins with two plain minus signs, as --count.\n"
    else if has_equals word then codes "Before `=` stands the name of an input, and behind it its file, without blanks: `a=data.txt`.\n"
    else codes "What an option wants stands behind it: of --count, --depth, --age and --room a number from 1 to 1000000, of --columns names as n,m, of --why a time. Then comes the program's file, and then NAME=FILE, as one word without blanks, for each input that has a file.\n"

-- the words that go with no others
abbrev pub stands_alone : (word : Text) → Bool
stands_alone word = same_bytes word (codes "--help") || same_bytes word (codes "--version")

abbrev pub word_advice : (word : Text) → List ℕ
word_advice word =
    if same_bytes word (codes "-") then codes "No file is called `-`: the program stands in a file, and an input without NAME=FILE is read from the standard input.\n"
    else if stands_alone word then codes "`--help` and `--version` stand alone, as in `lucid_explain --help`.\n"
    else if is_number_option (option_of word) then codes "This option has a number from 1 to 1000000, in digits alone, and is given once at most.\n"
    else if same_bytes (option_of word) (codes "--policy") then codes "The policies are keep, none, age and last, and the option is given once at most.\n"
    else if is_shown_option (option_of word) then codes "This is an option of `lucid_show`, which shows how values are computed.\n"
    else if begins word (codes "-") then codes "The line above has the options, each of which is given once at most; of --print, --columns, --cycles, --why, --check, --flat and --from-flat one alone is given. --columns has names with commas between them, as n,m, and --why a time.\n"
    else argument_advice word

abbrev pub wrong_text : (word : Text) → List ℕ
wrong_text word = codes "This word doesn't go with those before it: " ++ (shown_text word ++ (codes "\n" ++ word_advice word))

abbrev pub lacking_text : List ℕ
lacking_text = codes "Behind these words something lacks: the program's file, or what an option wants.\n"

-- With each of the first words, so many, one of those makes the words right.
abbrev pub GoOn : (words : List Text) → (count : ℕ) → Type 0
GoOn words count = (k : ℕ) → k < count → goes_on (take (k + 1) words) ≡ true

-- What is said of words that are refused: the first with which none of those makes them right, among the first hundred; or that something lacks behind them.
pub data SaysWords (words : List Text) (text : List ℕ) : Type 0 where
  wrong : (number : ℕ) (word : Text) → slice_get words number ≡ Some word → number < 100 → GoOn words number
      → goes_on (take (number + 1) words) ≡ false → text ≡ wrong_text word → SaysWords words text
  lacking : GoOn words (min (length words) 100) → text ≡ lacking_text → SaysWords words text

-- What is said behind the line of a call that was stopped so, and read these bytes of its source.
pub data IsExplanation (files : Files) (words : List Text) (source : List ℕ) (why : Stop) (text : List ℕ) : Type 0 where
  refused_words : words_asked words ≡ None → SaysWords words text → IsExplanation files words source why text
  asked_words : (asked : PlainWords) → words_asked words ≡ Some asked → Says files asked source why text → IsExplanation files words source why text
