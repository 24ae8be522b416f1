-- The values of sample programs at several points, each at the least limit at which it is defined.
use Rattle.std.specs.Prelude.{◌≡◌, ℕ, zero, suc, false, List, [], ◌∷◌, Some, None}
use Rattle.lucid_value.specs.Plain.{PlainValue, truth, eod, fault}
use Rattle.lucid_tree.specs.Tree.{PlainTree}
use Rattle.lucid_tree.specs.Rows.{last}
use Rattle.lucid_tree.specs.Levels.{Elements}
use Rattle.lucid_tree.specs.Env.{empty}
use Rattle.lucid_tree.specs.Meaning.{val}
use Rattle.lucid_tree.specs.SamplePrograms.{number, counting, needing_each_other, every_third, advancing, at_times, nested, counting_lines, factorials, calling_twice, false_and, whenever_five, eod_plus_error, binomials, binomial_row, initial_plus, succ_alone, next_one, succ_one, at_the_last_time, past_the_last_time, at_the_last_space, past_the_last_space}

-- no input is known
abbrev pub no_inputs : Elements
no_inputs n j = None

-- the line of that index; past the last one, end of data
abbrev pub line_at : List PlainValue → ℕ → PlainValue
line_at [] j = eod
line_at (v ∷ vs) zero = v
line_at (v ∷ vs) (suc j) = line_at vs j

-- the input has the lines 5, 5, 7 and 5
abbrev pub counted_lines : Elements
counted_lines n j = Some (line_at (number 5 ∷ number 5 ∷ number 7 ∷ number 5 ∷ []) j)

-- The program has the value at the limit m and the point (t, s), and m is the least limit at which it has one there.
abbrev pub IsFirstAt : Elements → PlainTree → (m t s : ℕ) → PlainValue → Type 0
IsFirstAt b p zero t s v = val b 0 p empty t s ≡ Some v
IsFirstAt b p (suc m) t s v = (val b (suc m) p empty t s ≡ Some v) × (val b m p empty t s ≡ None)

-- Counting up.
abbrev pub CountingUp : Type 0
CountingUp =
    IsFirstAt no_inputs counting 1 0 0 (number 0)
    × IsFirstAt no_inputs counting 2 1 0 (number 1)
    × IsFirstAt no_inputs counting 3 2 0 (number 2)
    × IsFirstAt no_inputs counting 4 3 0 (number 3)
    × IsFirstAt no_inputs counting 5 4 0 (number 4)
    × IsFirstAt no_inputs counting 31 30 0 (number 30)

-- Two names that need each other.
abbrev pub NamesThatNeedEachOther : Type 0
NamesThatNeedEachOther =
    IsFirstAt no_inputs needing_each_other 1 0 0 (number 0)
    × IsFirstAt no_inputs needing_each_other 2 1 0 (number 1)
    × IsFirstAt no_inputs needing_each_other 3 2 0 (number 1)
    × IsFirstAt no_inputs needing_each_other 4 3 0 (number 2)
    × IsFirstAt no_inputs needing_each_other 5 4 0 (number 3)
    × IsFirstAt no_inputs needing_each_other 6 5 0 (number 5)
    × IsFirstAt no_inputs needing_each_other 7 6 0 (number 8)

-- Every third number.
abbrev pub EveryThirdNumber : Type 0
EveryThirdNumber =
    IsFirstAt no_inputs every_third 1 0 0 (number 0)
    × IsFirstAt no_inputs every_third 4 1 0 (number 3)
    × IsFirstAt no_inputs every_third 7 2 0 (number 6)
    × IsFirstAt no_inputs every_third 10 3 0 (number 9)

-- Advance upon truths.
abbrev pub AdvanceUponTruths : Type 0
AdvanceUponTruths =
    IsFirstAt no_inputs advancing 1 0 0 (number 0)
    × IsFirstAt no_inputs advancing 2 1 0 (number 1)
    × IsFirstAt no_inputs advancing 2 2 0 (number 1)
    × IsFirstAt no_inputs advancing 3 3 0 (number 2)
    × IsFirstAt no_inputs advancing 4 4 0 (number 2)

-- Value at a time; where the time is none, an error.
abbrev pub ValuesAtATime : Type 0
ValuesAtATime =
    IsFirstAt no_inputs at_times 4 0 0 (number 3)
    × IsFirstAt no_inputs at_times 3 1 0 (number 2)
    × IsFirstAt no_inputs at_times 3 2 0 (number 1)
    × IsFirstAt no_inputs at_times 4 3 0 (number 0)
    × IsFirstAt no_inputs at_times 5 4 0 fault
    × IsFirstAt no_inputs at_times 6 5 0 fault

-- Nested iteration: at each time an inner block counts up to that time.
abbrev pub NestedIteration : Type 0
NestedIteration =
    IsFirstAt no_inputs nested 2 0 0 (number 1)
    × IsFirstAt no_inputs nested 3 1 0 (number 1)
    × IsFirstAt no_inputs nested 4 2 0 (number 2)
    × IsFirstAt no_inputs nested 5 3 0 (number 6)
    × IsFirstAt no_inputs nested 6 4 0 (number 24)

-- Running counts over an input: how often the line has come so far.
abbrev pub RunningCounts : Type 0
RunningCounts =
    IsFirstAt counted_lines counting_lines 4 0 0 (number 1)
    × IsFirstAt counted_lines counting_lines 5 1 0 (number 2)
    × IsFirstAt counted_lines counting_lines 6 2 0 (number 1)
    × IsFirstAt counted_lines counting_lines 7 3 0 (number 3)
    × IsFirstAt counted_lines counting_lines 8 4 0 eod

-- A recursive function.
abbrev pub RecursiveFunction : Type 0
RecursiveFunction =
    IsFirstAt no_inputs factorials 3 0 0 (number 1)
    × IsFirstAt no_inputs factorials 6 1 0 (number 1)
    × IsFirstAt no_inputs factorials 9 2 0 (number 2)
    × IsFirstAt no_inputs factorials 12 3 0 (number 6)
    × IsFirstAt no_inputs factorials 15 4 0 (number 24)

-- Two calls of one function.
abbrev pub TwoCallsOfOneFunction : Type 0
TwoCallsOfOneFunction =
    IsFirstAt no_inputs calling_twice 4 0 0 (number 11)
    × IsFirstAt no_inputs calling_twice 5 1 0 (number 23)
    × IsFirstAt no_inputs calling_twice 6 2 0 (number 36)

-- What is not looked at, a search that a value ends, and end of data before error.
abbrev pub WhatIsNotLookedAt : Type 0
WhatIsNotLookedAt =
    IsFirstAt no_inputs false_and 0 0 0 (truth false)
    × IsFirstAt no_inputs false_and 0 2 0 (truth false)
    × IsFirstAt no_inputs whenever_five 1 0 0 fault
    × IsFirstAt no_inputs whenever_five 1 1 0 fault
    × IsFirstAt no_inputs eod_plus_error 0 0 0 eod

-- Binomial numbers over space: those of one space, and those of one time.
abbrev pub BinomialNumbers : Type 0
BinomialNumbers =
    IsFirstAt no_inputs binomials 1 0 0 (number 0)
    × IsFirstAt no_inputs binomials 2 1 0 (number 0)
    × IsFirstAt no_inputs binomials 3 2 0 (number 1)
    × IsFirstAt no_inputs binomials 4 3 0 (number 3)
    × IsFirstAt no_inputs binomials 5 4 0 (number 6)
    × IsFirstAt no_inputs binomials 6 5 0 (number 10)
    × IsFirstAt no_inputs binomial_row 1 3 0 (number 1)
    × IsFirstAt no_inputs binomial_row 4 3 1 (number 3)
    × IsFirstAt no_inputs binomial_row 4 3 2 (number 3)
    × IsFirstAt no_inputs binomial_row 4 3 3 (number 1)
    × IsFirstAt no_inputs binomial_row 4 3 4 (number 0)

-- `initial` and `succ`.
abbrev pub InitialAndSucc : Type 0
InitialAndSucc =
    IsFirstAt no_inputs initial_plus 1 0 0 (number 8)
    × IsFirstAt no_inputs initial_plus 1 5 0 (number 8)
    × IsFirstAt no_inputs initial_plus 1 0 1 (number 13)
    × IsFirstAt no_inputs initial_plus 1 2 7 (number 13)
    × IsFirstAt no_inputs succ_alone 1 0 0 (number 9)
    × IsFirstAt no_inputs succ_alone 1 1 3 (number 9)

-- The last time and the last space, and one before each; a place that is the last one, and one past it.
abbrev pub LastTimeAndSpace : Type 0
LastTimeAndSpace =
    IsFirstAt no_inputs next_one 0 last 0 fault
    × IsFirstAt no_inputs next_one 0 9223372036854775806 0 (number 1)
    × IsFirstAt no_inputs succ_one 0 0 last fault
    × IsFirstAt no_inputs succ_one 0 0 9223372036854775806 (number 1)
    × IsFirstAt no_inputs at_the_last_time 0 0 0 (number 2)
    × IsFirstAt no_inputs past_the_last_time 0 0 0 fault
    × IsFirstAt no_inputs at_the_last_space 0 0 0 (number 1)
    × IsFirstAt no_inputs past_the_last_space 0 0 0 fault
