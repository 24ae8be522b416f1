-- The refusals of the words, the scanner, the parser, the scopes, the judgment of cycles, the flat form and certificates, as a call's own. Want of memory is no refusal.
use Rattle.lucid_words.specs.declared.WordsRefusal.{WordsRefusal}
use Rattle.lucid_words.specs.declared.WordsRefusal.TheVariants as words
use Rattle.lucid_scan.specs.declared.refusal.ScanRefusal.{ScanRefusal}
use Rattle.lucid_scan.specs.declared.refusal.ScanRefusal.TheVariants as scan
use Rattle.lucid_parse.specs.declared.refusal.ParseRefusal.{ParseRefusal}
use Rattle.lucid_parse.specs.declared.refusal.ParseRefusal.TheVariants as parse
use Rattle.lucid_scope.specs.declared.refusal.ScopeRefusal.{ScopeRefusal}
use Rattle.lucid_scope.specs.declared.refusal.ScopeRefusal.TheVariants as scope
use Rattle.lucid_cycles.specs.declared.judgment.JudgeRefusal.{JudgeRefusal}
use Rattle.lucid_cycles.specs.declared.judgment.JudgeRefusal.TheVariants as judge
use Rattle.lucid_flat.specs.declared.read.FlatRefusal.{FlatRefusal}
use Rattle.lucid_flat.specs.declared.read.FlatRefusal.TheVariants as flat
use Rattle.lucid_flat.specs.declared.program.BuildRefusal.{BuildRefusal}
use Rattle.lucid_flat.specs.declared.program.BuildRefusal.TheVariants as build
use Rattle.lucid_cert_rules.specs.declared.read.WhyRefusal.{WhyRefusal}
use Rattle.lucid_cert_rules.specs.declared.read.WhyRefusal.TheVariants as why
use Rattle.lucid_report.specs.declared.refusal.Refusal.{Refusal}
use Rattle.lucid_report.specs.declared.refusal.Refusal.TheVariants as refusal
use Rattle.lucid_report.specs.declared.stop.Stop.{Stop}
use Rattle.lucid_report.specs.declared.stop.Stop.TheVariants as stop

abbrev pub words_stop : WordsRefusal → Stop
words_stop words.Usage = stop.Refused refusal.Usage
words_stop words.NoMemory = stop.NoMemory

abbrev pub scan_stop : ScanRefusal → Stop
scan_stop scan.TooLong = stop.Refused refusal.TooLong
scan_stop (scan.BadByte at) = stop.Refused (refusal.BadByte at)
scan_stop (scan.OpenText at) = stop.Refused (refusal.OpenText at)
scan_stop (scan.BigNumber at) = stop.Refused (refusal.BigNumber at)
scan_stop scan.NoMemory = stop.NoMemory

abbrev pub parse_stop : ParseRefusal → Stop
parse_stop (parse.Syntax at) = stop.Refused (refusal.Syntax at)
parse_stop (parse.TooNested at) = stop.Refused (refusal.TooNested at)
parse_stop parse.NoMemory = stop.NoMemory

abbrev pub scope_stop : ScopeRefusal → Stop
scope_stop (scope.Twice at) = stop.Refused (refusal.Twice at)
scope_stop (scope.NoFunction at) = stop.Refused (refusal.NoFunction at)
scope_stop (scope.NotFunction at) = stop.Refused (refusal.NotFunction at)
scope_stop (scope.IsFunction at) = stop.Refused (refusal.IsFunction at)
scope_stop (scope.Arity at wanted given) = stop.Refused (refusal.Arity at wanted given)
scope_stop scope.NoMemory = stop.NoMemory

abbrev pub judge_stop : JudgeRefusal → Stop
judge_stop (judge.Outside at) = stop.Refused (refusal.NotJudged at)
judge_stop judge.TooMany = stop.Refused refusal.TooManyNames
judge_stop judge.NoMemory = stop.NoMemory

abbrev pub flat_stop : FlatRefusal → Stop
flat_stop (flat.Form line) = stop.Refused (refusal.NoFlatLine line)
flat_stop flat.NoMemory = stop.NoMemory

abbrev pub build_stop : BuildRefusal → Stop
build_stop (build.Scope at) = stop.Refused (refusal.FlatScope at)
build_stop (build.Node at) = stop.Refused (refusal.FlatNode at)
build_stop (build.Name at) = stop.Refused (refusal.FlatName at)
build_stop (build.Place at) = stop.Refused (refusal.FlatPlace at)
build_stop build.Root = stop.Refused refusal.FlatRoot
build_stop build.NoMemory = stop.NoMemory

abbrev pub why_stop : WhyRefusal → Stop
why_stop (why.Form line) = stop.Refused (refusal.NoJudgment line)
why_stop why.NoMemory = stop.NoMemory

-- The call stops by a refusal of which this holds, or for want of memory.
abbrev pub IsRefusalOf : (Refusal → Type 0) → Stop → Type 0
IsRefusalOf P (stop.Refused why) = P why
IsRefusalOf P stop.NoMemory = Unit {0}
IsRefusalOf P _ = ⊥
