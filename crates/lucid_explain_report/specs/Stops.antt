-- What is said of a call that was stopped, by the reason alone.
use Rattle.std.specs.Prelude.{ℕ, ◌==◌, ◌||◌, Bool, true, false, List, [], codes, if◌then◌else◌}
use Rattle.lucid_value.specs.Plain.{same_bytes}
use Rattle.lucid_report.specs.declared.refusal.Refusal.{Refusal}
use Rattle.lucid_report.specs.declared.refusal.Refusal.TheVariants as refusal
use Rattle.lucid_report.specs.declared.stop.Stop.{Stop}
use Rattle.lucid_report.specs.declared.stop.Stop.TheVariants as stop

-- of a value that is too deep: whether the store was cleared, where the figures are told
abbrev pub store_text : (cleared : ℕ) → (stats : Bool) → List ℕ
store_text cleared false = []
store_text cleared true =
    if cleared == 0 then codes "The store wasn't cleared.\n"
    else codes "The store was cleared on the way: more than 1,000,000 contexts were known. So values were computed anew, which wants more depth.\n"

-- of a name for which a word gives a file; where an option has this name, the word may be that option without its minus signs
unfoldable pub given_text : (name : List ℕ) → List ℕ
given_text name =
    if same_bytes name (codes "count") || same_bytes name (codes "depth") then codes "An option begins with two minus signs, as --count=5: this word gives a file for a name, which in the program isn't free.\n"
    else codes "A word gives a file for this name, but in the program it isn't free: leave the word out, or mend the name.\n"

-- of a refusal
abbrev pub refusal_text : Refusal → List ℕ
refusal_text refusal.TooLong = codes "A source has at most 1,048,576 bytes, and in the flat form 67,108,864.\n"
refusal_text (refusal.TooNested at) = codes "This stands more than 400 levels deep: give an inner part a name of its own behind `where`.\n"
refusal_text (refusal.NoColumn name) = codes "A column is a name that the program's outermost block defines without parameters.\n"
refusal_text (refusal.NoFlatLine line) = codes "No table's text goes on with this line. What `lucid --flat` writes of a program has the right form.\n"
refusal_text (refusal.FlatScope at) = codes "The row of this number, from 0 among those of its kind, doesn't fit the table. What `lucid --flat` writes of a program fits.\n"
refusal_text (refusal.FlatNode at) = codes "The row of this number, from 0 among those of its kind, doesn't fit the table. What `lucid --flat` writes of a program fits.\n"
refusal_text (refusal.FlatName at) = codes "The row of this number, from 0 among those of its kind, doesn't fit the table. What `lucid --flat` writes of a program fits.\n"
refusal_text (refusal.FlatPlace at) = codes "The row of this number, from 0 among those of its kind, doesn't fit the table. What `lucid --flat` writes of a program fits.\n"
refusal_text refusal.FlatRoot = codes "The root, or a row of an input, doesn't fit the table. What `lucid --flat` writes of a program fits.\n"
refusal_text (refusal.NotJudged at) = codes "`--cycles` judges constants, data operators, `if`, `and`, `or`, `first`, `next`, `fby`, inputs, plain names and blocks of plain definitions: at the place stands something else.\n"
refusal_text refusal.TooManyNames = codes "`--cycles` judges programs of at most 2,000 plain names.\n"
refusal_text (refusal.NotFree name) = given_text name
refusal_text (refusal.GivenTwice name) = codes "Two words give a file for this name: leave one of them out.\n"
refusal_text refusal.NoInput = codes "A name that nothing defines is an input. One of them may be read from the standard input; give each other a file, as in NAME=FILE. Often such a name is misspelt.\n"
refusal_text refusal.CertificateTooLong = codes "A certificate has at most 268,435,456 bytes.\n"
refusal_text (refusal.NoJudgment line) = codes "No certificate's text goes on with this line: a context stands in a line as `c BASE PLACE CALLER` or `z BASE TIME`, and behind all of these a judgment as `j NODE CONTEXT TIME SPACE K U .. VALUE`.\n"
refusal_text _ = []

-- Of any reason. Of a read fault nothing is said without the names of the files.
abbrev pub stop_text : Stop → List ℕ
stop_text (stop.Refused why) = refusal_text why
stop_text stop.ReadFault = []
stop_text stop.WriteFault = codes "The standard output can't be written: the disk may be full. Or a program that reads it has ended, as `head` does: that is no mistake.\n"
stop_text (stop.TooDeep time lost cleared stats) = store_text cleared stats
stop_text (stop.TooLarge stream name) = codes "An element of this input that is needed ends past the bytes of it that may be read, 268,435,456.\n"
stop_text (stop.Wrong judgment) = codes "The judgment of this number, from 0, isn't what its node gives from the judgments that it uses, or it is the last one and not that of the program itself. The certificate is false, or it is one of another program or of other inputs.\n"
stop_text stop.NoMemory = codes "There is not memory enough. A smaller --depth needs less, and so does --policy last with a small --room.\n"
