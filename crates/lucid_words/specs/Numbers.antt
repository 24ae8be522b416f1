-- The ranges of the numbers that words give. They are this language's own rules.
use Rattle.std.specs.Prelude.{ℕ, ◌≤◌, ◌-◌, ◌^◌, ⊤, List, Option, IfSome, codes}
use Rattle.clap.specs.Words.{Row}
use Rattle.lucid_ports.specs.Limits.{most_asked}
use Rattle.lucid_words.specs.declared.Source.{Source}
use Rattle.lucid_words.specs.declared.Source.TheVariants.{File, Made}
use Rattle.lucid_words.specs.Rows.{number_given}

-- A number from `least` to `most`.
abbrev pub IsFromTo : ℕ → ℕ → ℕ → Type 0
IsFromTo least most number = (least ≤ number) × (number ≤ most)

-- The same of a number that need not be given.
abbrev pub IsFromToIfGiven : ℕ → ℕ → Option ℕ → Type 0
IsFromToIfGiven least most number = IfSome number (IsFromTo least most)

-- A made program has a number from `least` to `most`.
abbrev pub MadeIsFromTo : ℕ → ℕ → Source → Type 0
MadeIsFromTo least most (File name) = ⊤
MadeIsFromTo least most (Made number) = IsFromTo least most number

-- Each number that rows give passed the parser of its option.
pub record HasNumbersInRange (rows : List Row) : Type 0 where
  pub count : IsFromToIfGiven 1 most_asked (number_given 32 (codes "count") rows)
  pub depth : IsFromToIfGiven 1 most_asked (number_given 32 (codes "depth") rows)
  pub age : IsFromToIfGiven 1 most_asked (number_given 32 (codes "age") rows)
  pub room : IsFromToIfGiven 1 most_asked (number_given 32 (codes "room") rows)
  pub make : IsFromToIfGiven 1 10000 (number_given 32 (codes "make") rows)
  pub why : IsFromToIfGiven 0 (2 ^ 63 - 1) (number_given 64 (codes "why") rows)
