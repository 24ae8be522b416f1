-- The line that reports each outcome. The texts are this language's own.
use Rattle.std.specs.Prelude.{ℕ, Bool, true, false, List, [], ◌∷◌, ◌++◌, codes, decimal, Ok, Err, if◌then◌else◌}
use Rattle.lucid_ports.specs.declared.run.Summary.{Summary}
use Rattle.lucid_report.specs.declared.refusal.Refusal.{Refusal}
use Rattle.lucid_report.specs.declared.refusal.Refusal.TheVariants as refusal
use Rattle.lucid_report.specs.declared.stop.Done.TheVariants as done
use Rattle.lucid_report.specs.declared.stop.Stop.{Stop}
use Rattle.lucid_report.specs.declared.stop.Stop.TheVariants as stop
use Rattle.lucid_report.specs.declared.report.Part.{Part}
use Rattle.lucid_report.specs.declared.report.Part.TheVariants as part
use Rattle.lucid_report.specs.Status.{Outcome}

-- a text, a number and a line feed
abbrev pub line_at : List ℕ → ℕ → List ℕ
line_at text n = text ++ (decimal n ++ codes "\n")

-- a text, a number and another text
abbrev pub line_with : List ℕ → ℕ → List ℕ → List ℕ
line_with before n after = before ++ (decimal n ++ after)

abbrev pub usage_line : List ℕ
usage_line =
    codes "usage: lucid [--count N] [--depth N] [--policy keep|none|age|last] [--age K] [--room N] [--stats] [--print] [--columns LIST] [--cycles] [--why T] [--check FILE] [--flat] [--from-flat] PROGRAM [NAME=FILE]... | lucid --make N\n"

abbrev pub refusal_line : Refusal → List ℕ
refusal_line refusal.Usage = usage_line
refusal_line refusal.TooLong = codes "source too long\n"
refusal_line (refusal.BadByte at) = line_at (codes "bad byte at ") at
refusal_line (refusal.OpenText at) = line_at (codes "open text at ") at
refusal_line (refusal.BigNumber at) = line_at (codes "number too big at ") at
refusal_line (refusal.Syntax at) = line_at (codes "syntax at ") at
refusal_line (refusal.TooNested at) = line_at (codes "too nested at ") at
refusal_line (refusal.Twice at) = line_at (codes "defined twice at ") at
refusal_line (refusal.NoFunction at) = line_at (codes "no such function at ") at
refusal_line (refusal.NotFunction at) = line_at (codes "not a function at ") at
refusal_line (refusal.IsFunction at) = line_at (codes "function without arguments at ") at
refusal_line (refusal.Arity at wanted given) =
    codes "wrong number of arguments at " ++ (decimal at ++ (codes ": " ++ (decimal wanted ++ (codes " wanted, " ++ (decimal given ++ codes " given\n")))))
refusal_line (refusal.NoColumn name) = codes "no column " ++ (name ++ codes "\n")
refusal_line (refusal.NoFlatLine line) = line_with (codes "line ") line (codes " is no flat line\n")
refusal_line (refusal.FlatScope at) = line_with (codes "flat scope ") at (codes " is wrong\n")
refusal_line (refusal.FlatNode at) = line_with (codes "flat node ") at (codes " is wrong\n")
refusal_line (refusal.FlatName at) = line_with (codes "flat name ") at (codes " is wrong\n")
refusal_line (refusal.FlatPlace at) = line_with (codes "flat place ") at (codes " is wrong\n")
refusal_line refusal.FlatRoot = codes "flat root is wrong\n"
refusal_line (refusal.NotJudged at) = line_at (codes "not judged at ") at
refusal_line refusal.TooManyNames = codes "too many names\n"
refusal_line (refusal.NotFree name) = codes "no input is named " ++ (name ++ codes "\n")
refusal_line (refusal.GivenTwice name) = name ++ codes " is given twice\n"
refusal_line refusal.NoInput = codes "no input for two names\n"
refusal_line refusal.CertificateTooLong = codes "certificate too long\n"
refusal_line (refusal.NoJudgment line) = line_with (codes "line ") line (codes " is no judgment\n")

-- the figures of a run that was done, and of one that was too deep
abbrev pub figures_line : Summary → List ℕ
figures_line s =
    codes "lines " ++ (decimal s.lines ++ (codes " held " ++ (decimal s.held ++ (codes " lost " ++ (decimal s.lost ++ line_at (codes " cleared ") s.cleared)))))

abbrev pub depth_line : (time lost cleared : ℕ) → (stats : Bool) → List ℕ
depth_line time lost cleared true =
    codes "too deep at time " ++ (decimal time ++ (codes " lost " ++ (decimal lost ++ line_at (codes " cleared ") cleared)))
depth_line time lost cleared false = line_at (codes "too deep at time ") time

abbrev pub stop_line : Stop → List ℕ
stop_line (stop.Refused why) = refusal_line why
stop_line stop.ReadFault = codes "read fault\n"
stop_line stop.WriteFault = codes "write fault\n"
stop_line (stop.TooDeep time lost cleared stats) = depth_line time lost cleared stats
stop_line (stop.TooLarge stream name) = codes "input " ++ (name ++ codes " too large\n")
stop_line (stop.Wrong judgment) = line_with (codes "judgment ") judgment (codes " does not follow\n")
stop_line stop.NoMemory = codes "no memory\n"

-- the line of an outcome, or nothing where it has none
abbrev pub outcome_line : Outcome → List ℕ
outcome_line (Ok (done.Ran summary stats)) = if stats then figures_line summary else []
outcome_line (Ok done.Written) = []
outcome_line (Err why) = stop_line why

-- the parts of a line, one behind the other
abbrev pub line_of : List Part → List ℕ
line_of [] = []
line_of (part.Text text ∷ parts) = text.now ++ line_of parts
line_of (part.Number n ∷ parts) = decimal n ++ line_of parts
