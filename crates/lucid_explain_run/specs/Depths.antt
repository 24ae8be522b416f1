-- What is said of a value that is too deep: the judgment of cycles, and what it means for the value at a time.
use Rattle.std.specs.Prelude.{◌≡◌, ◌≢◌, ℕ, ◌+◌, ◌*◌, Bool, List, [], ◌++◌, length, drop, not, ◌&&◌, ◌||◌, codes, decimal, nat_le, nat_lt, if◌then◌else◌}
use Rattle.lucid_value.specs.Plain.{same_bytes}
use Rattle.lucid_value.specs.Names.{is_reserved}
use Rattle.lucid_tree.specs.Tree.{PlainTree}
use Rattle.lucid_scope.specs.declared.scoped.Scoped.{Scoped}
use Rattle.lucid_scope.specs.Scoped.{scoped_tree, scoped_binding}
use Rattle.lucid_cycles.specs.Judgments.{IsJudgment, IsJudgeRefusal}
use Rattle.lucid_cycles.specs.JudgmentLine.{judgment_line}
use Rattle.lucid_cycles.specs.Laws.{IsDefinedAsJudged}
use Rattle.lucid_cycles.specs.declared.judgment.Judgment.{Judgment}
use Rattle.lucid_cycles.specs.declared.judgment.Judgment.TheVariants.{Enough, Cycle}
use Rattle.lucid_cycles.specs.declared.judgment.JudgeRefusal.{JudgeRefusal}
use Rattle.lucid_cycles.specs.declared.judgment.JudgeRefusal.TheVariants.{Outside, TooMany, NoMemory}
use Rattle.lucid_explain_source.specs.Accepted.{IsProgram, IsTurnedDown}
use Rattle.lucid_explain_source.specs.Characters.{begins}
use Rattle.lucid_explain_source.specs.Names.{name_at}

-- the greatest depth limit
abbrev pub most_depth : ℕ
most_depth = 1000000

-- a depth that is enough for the time, where one may be given
abbrev pub enough_text : (depth time : ℕ) → List ℕ
enough_text depth time =
    if nat_le depth most_depth then codes "So --depth " ++ (decimal depth ++ (codes " is enough for time " ++ (decimal time ++ codes ".\n")))
    else codes "For time " ++ (decimal time ++ codes " that is more than the greatest --depth, 1000000.\n")

abbrev pub cycle_advice : List ℕ
cycle_advice = codes "A value of these names needs one of them at the same time or at a later one: so there may be no depth that is enough. `X fby Y` is X at time 0, and then Y of one time before; `next X` is X of one time later. So `x = 0 fby x + 1` begins with 0 and goes on, and `x = 0 fby 1 fby x + next x` begins with two values. In `x = 1 fby x * next n` each x has the n of its own time.\n"

-- the searches, by their words
abbrev pub is_search : List ℕ → Bool
is_search word =
    same_bytes word (codes "whenever") || same_bytes word (codes "wvr") || same_bytes word (codes "asa") || same_bytes word (codes "upon")

-- a name, and directly behind it a parenthesis: a call, or the definition of a function
abbrev pub is_call : (word rest : List ℕ) → Bool
is_call word rest = nat_lt 0 (length word) && not (is_reserved word) && begins (drop (length word) rest) (codes "(")

-- what is said of a depth, by the word with which the rest of a source begins at the place where it isn't judged: of a search, of a function, and else
abbrev pub place_advice : (word rest : List ℕ) → List ℕ
place_advice word rest =
    if is_search word then codes "\nHere is a search: it looks at times below the depth limit alone. If its test is never true again, no depth is enough: --count asks for the lines that there are. If it is true later:\n"
    else if is_call word rest then codes "\nHere is a function: one that calls itself without an end has no value at any depth. An `if` that doesn't call it gives an end, once its test is true: for an x below 0 that counts down, `x eq 0` never is, and `x <= 0` is.\n"
    else codes "\nSo no depth is told for this program.\n"

abbrev pub unjudged_advice : (source : List ℕ) → JudgeRefusal → List ℕ
unjudged_advice source (Outside at) = place_advice (name_at source at) (drop at source)
unjudged_advice source TooMany = codes "\nSo no depth is told for this program.\n"
unjudged_advice source NoMemory = []

-- what else may be tried, by the limit at which the value is too deep
abbrev pub greater_advice : (limit : ℕ) → List ℕ
greater_advice limit =
    if nat_lt limit most_depth then codes "A greater --depth may be enough, up to 1000000.\n"
    else codes "The limit is the greatest --depth already, 1000000.\n"

-- what a judgment means for the value at a time
abbrev pub meaning_text : (time : ℕ) → Judgment → List ℕ
meaning_text time (Enough factor add potentials) = enough_text (factor * time + add) time
meaning_text time (Cycle names delays) = cycle_advice

abbrev pub judged_text : PlainTree → (time : ℕ) → Judgment → List ℕ
judged_text e time judgment = codes "`--cycles` says: " ++ (judgment_line e judgment ++ meaning_text time judgment)

-- why a program isn't judged
abbrev pub refusal_text : JudgeRefusal → List ℕ
refusal_text (Outside at) = codes "not judged at " ++ decimal at
refusal_text TooMany = codes "too many names"
refusal_text NoMemory = codes "no memory"

abbrev pub unjudged_text : (source : List ℕ) → (limit : ℕ) → JudgeRefusal → List ℕ
unjudged_text source limit why = codes "`--cycles` says: " ++ (refusal_text why ++ (unjudged_advice source why ++ greater_advice limit))

-- The text tells the judgment of cycles of the source, or why there is none; or nothing, where the source is refused. A depth that is told is
-- enough: at it the value at the time is defined.
pub data TellsDepth (source : List ℕ) (limit time : ℕ) (text : List ℕ) : Type 0 where
  nothing : IsTurnedDown source → text ≡ [] → TellsDepth source limit time text
  judged : (scoped : Scoped) (judgment : Judgment) → IsProgram source (scoped_tree scoped) → IsJudgment (scoped_tree scoped) (scoped_binding scoped) judgment
      → IsDefinedAsJudged (scoped_tree scoped) judgment → text ≡ judged_text (scoped_tree scoped) time judgment → TellsDepth source limit time text
  unjudged : (scoped : Scoped) (why : JudgeRefusal) → why ≢ NoMemory → IsProgram source (scoped_tree scoped) → IsJudgeRefusal (scoped_tree scoped) why
      → text ≡ unjudged_text source limit why → TellsDepth source limit time text
