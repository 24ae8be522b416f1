-- Calls of which the headline speaks. What they write, how they stop and what they consume is told from it alone; and calls of which the other
-- clauses of the command speak: a check, the making of a certificate, and columns.
use Rattle.std.specs.Prelude.{◌≡◌, ℕ, ◌<◌, ◌≤◌, ◌⊎◌, List, [], ◌∷◌, ◌++◌, length, take, Some, codes, pos}
use Rattle.lucid_value.specs.Plain.{int}
use Rattle.lucid_words.specs.Asked.{words_asked}
use Rattle.lucid_ports.specs.World.{Contents}
use Rattle.lucid_ports.specs.Told.{Told}
use Rattle.lucid_report.specs.declared.status.Status.{Status}
use Rattle.lucid_report.specs.declared.status.Status.TheVariants as status
use Rattle.lucid_cert_rules.specs.Certificates.{PlainJudgment}
use Rattle.lucid_cert_rules.specs.WhyTexts.{IsTextOf}
use Rattle.lucid_cert_rules.specs.declared.rows.Why.{Why}
use Rattle.lucid_top.specs.Call.{Call}
use Rattle.lucid_top.specs.Stages.{IsCheck, IsMaking, IsRun}
use Rattle.lucid_top.specs.Checks.{IsLast}
use Rattle.lucid_top.specs.Clauses.{ReadFails, WriteFails, MeetsClauses}
use Rattle.lucid_top.specs.Headline.{RunsProgram, Headline}

-- the words `--count 3 p`, and with a depth limit of 1
abbrev pub three_lines : List (List ℕ)
three_lines = codes "--count" ∷ codes "3" ∷ codes "p" ∷ []

abbrev pub three_lines_deep : List (List ℕ)
three_lines_deep = codes "--count" ∷ codes "3" ∷ codes "--depth" ∷ codes "1" ∷ codes "p" ∷ []

-- the source that the file `p` holds
abbrev pub counting_source : List ℕ
counting_source = codes "x where x = 0 fby x + 1; end\n"

-- what is written
abbrev pub three_numbers : List ℕ
three_numbers = codes "0\n1\n2\n"

-- The call has these words, the file holds this source, and nothing was written before.
pub record Counts (c : Call) (words : List (List ℕ)) : Type 0 where
  pub asked : c.asked ≡ words_asked words
  pub held : c.before.holds (codes "p") ≡ Some counting_source
  pub nothing_written : c.out_before.bytes ≡ Some []

-- It is a run of a program, so the headline speaks of it; and from the headline alone:
pub record CountsToThree (c : Call) : Type 0 where
  pub runs : RunsProgram c
  -- Where it is done, three numbers are written.
  pub writes : (s : Status) → Headline runs s → s ≡ status.Done → c.out_after.bytes ≡ Some three_numbers
  -- However it ends, as by a write that fails, a front of them is.
  pub front : (s : Status) → Headline runs s → (n : ℕ) × (c.out_after.bytes ≡ Some (take n three_numbers))
  -- Where no call fails, it is done, or there was no memory.
  pub is_done : (s : Status) → Headline runs s → (ReadFails c → ⊥) → (WriteFails c → ⊥) → (s ≡ status.Done) ⊎ (s ≡ status.NoMemory)

abbrev pub CountingIsAWitness : Type 0
CountingIsAWitness = (c : Call) → Counts c three_lines → CountsToThree c

-- With a depth limit of 1, which is enough for time 0: where it is too deep, the line of that time is written.
pub record CountsOne (c : Call) : Type 0 where
  pub runs : RunsProgram c
  pub writes : (s : Status) → Headline runs s → s ≡ status.TooDeep → (more : List ℕ) × (c.out_after.bytes ≡ Some (codes "0\n" ++ more))

abbrev pub DepthIsAWitness : Type 0
DepthIsAWitness = (c : Call) → Counts c three_lines_deep → CountsOne c

-- the words `--count 1 p`; the source of the program that is the input `a`; and what standard input holds, of which the first line is written
abbrev pub one_line : List (List ℕ)
one_line = codes "--count" ∷ codes "1" ∷ codes "p" ∷ []

abbrev pub input_source : List ℕ
input_source = codes "a\n"

abbrev pub two_lines : List ℕ
two_lines = codes "7\n8\n"

pub record Reads (c : Call) : Type 0 where
  pub asked : c.asked ≡ words_asked one_line
  pub held : c.before.holds (codes "p") ≡ Some input_source
  pub input : c.before.holds (codes "-") ≡ Some two_lines
  pub nothing_written : c.out_before.bytes ≡ Some []

-- Where it is done, the first line is written; and of the input no more is consumed than that line, however it ends.
pub record ReadsOne (c : Call) : Type 0 where
  pub runs : RunsProgram c
  pub writes : (s : Status) → Headline runs s → s ≡ status.Done → c.out_after.bytes ≡ Some (codes "7\n")
  pub consumes : (s : Status) → Headline runs s → 1 < c.after.reached → (new : Contents) → (c.after.place 1).contents ≡ Some new
      → (new.consumed ++ new.left ≡ two_lines) × (length new.consumed ≤ 2)

abbrev pub InputIsAWitness : Type 0
InputIsAWitness = (c : Call) → Reads c → ReadsOne c

-- Where the clauses hold and no call fails, the call is done, or there was no memory.
abbrev pub IsDoneUndisturbed : Call → Type 0
IsDoneUndisturbed c =
    (p q : Told) (s : Status) → MeetsClauses c p q s → (ReadFails c → ⊥) → (WriteFails c → ⊥) → (s ≡ status.Done) ⊎ (s ≡ status.NoMemory)

-- the words `--check w p`; and the certificate that the file `w` holds: the element of the input, which is node 0, is 7 at time 0
abbrev pub check_words : List (List ℕ)
check_words = codes "--check" ∷ codes "w" ∷ codes "p" ∷ []

abbrev pub seven_certificate : List ℕ
seven_certificate = codes "j 0 0 0 0 0 7\n"

pub record AsksCheck (c : Call) : Type 0 where
  pub asked : c.asked ≡ words_asked check_words
  pub held : c.before.holds (codes "p") ≡ Some input_source
  pub certificate : c.before.holds (codes "w") ≡ Some seven_certificate
  pub input : c.before.holds (codes "-") ≡ Some two_lines
  pub nothing_written : c.out_before.bytes ≡ Some []

-- It is a check. Where it is done, the value and the time of the last judgment are written; and it is done: the certificate is found right.
pub record ChecksSeven (c : Call) : Type 0 where
  pub checks : IsCheck c
  pub writes : (p q : Told) (s : Status) → MeetsClauses c p q s → s ≡ status.Done → c.out_after.bytes ≡ Some (codes "7 at 0\n")
  pub is_done : IsDoneUndisturbed c

abbrev pub CheckIsAWitness : Type 0
CheckIsAWitness = (c : Call) → AsksCheck c → ChecksSeven c

-- the words `--why 0 p`
abbrev pub why_words : List (List ℕ)
why_words = codes "--why" ∷ codes "0" ∷ codes "p" ∷ []

pub record AsksWhy (c : Call) : Type 0 where
  pub asked : c.asked ≡ words_asked why_words
  pub held : c.before.holds (codes "p") ≡ Some input_source
  pub input : c.before.holds (codes "-") ≡ Some two_lines
  pub nothing_written : c.out_before.bytes ≡ Some []

-- the last judgment of the certificate is that the value is 7 at time 0
abbrev pub EndsWithSeven : Why → Type 0
EndsWithSeven w = (j : PlainJudgment) → IsLast w j → (j.value ≡ int (pos 7)) × (j.time ≡ 0)

-- A certificate is made. Where it is done, the text of one that ends with 7 at time 0 is written; and it is done.
pub record MakesSeven (c : Call) : Type 0 where
  pub makes : IsMaking c
  pub writes : (p q : Told) (s : Status) → MeetsClauses c p q s → s ≡ status.Done
      → (text : List ℕ) × (w : Why) × EndsWithSeven w × IsTextOf text w × (c.out_after.bytes ≡ Some text)
  pub is_done : IsDoneUndisturbed c

abbrev pub MakingIsAWitness : Type 0
MakingIsAWitness = (c : Call) → AsksWhy c → MakesSeven c

-- the words `--count 3 --columns x,x p`, of the counting program; and what is written: its numbers twice, parted by byte 9
abbrev pub column_words : List (List ℕ)
column_words = codes "--count" ∷ codes "3" ∷ codes "--columns" ∷ codes "x,x" ∷ codes "p" ∷ []

abbrev pub numbers_twice : List ℕ
numbers_twice = codes "0" ++ 9 ∷ codes "0\n1" ++ 9 ∷ codes "1\n2" ++ 9 ∷ codes "2\n"

-- It runs columns. Where it is done, three lines are written; and it is done.
pub record CountsTwice (c : Call) : Type 0 where
  pub runs : IsRun c
  pub writes : (p q : Told) (s : Status) → MeetsClauses c p q s → s ≡ status.Done → c.out_after.bytes ≡ Some numbers_twice
  pub is_done : IsDoneUndisturbed c

abbrev pub ColumnsAreAWitness : Type 0
ColumnsAreAWitness = (c : Call) → Counts c column_words → CountsTwice c
