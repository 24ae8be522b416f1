-- What forms give by the value of a test, of a place, or of all their arguments: each as what their parts have.
use Rattle.std.specs.Prelude.{◌≡◌, ℕ, zero, suc, pos, ◌<◌, ◌≤◌, true, false, List, [], ◌∷◌}
use Rattle.lucid_value.specs.Plain.{PlainValue, int, truth, eod, fault}
use Rattle.lucid_tree.specs.Rows.{last, only_truth}
use Rattle.lucid_fixed_point.specs.Streams.{Streams}

-- Some values: what a stream has at one point.
abbrev pub Values : Type 1
Values = PlainValue → Type 0

-- neither a truth nor end of data
abbrev pub IsNoTruth : PlainValue → Type 0
IsNoTruth (truth b) = ⊥
IsNoTruth eod = ⊥
IsNoTruth _ = Unit {0}

-- One by a true test, another by a false one; at end of data that, and else an error.
pub data Tested (test on off : Values) : PlainValue → Type 0 where
  on_true : {v : PlainValue} → test (truth true) → on v → Tested test on off v
  on_false : {v : PlainValue} → test (truth false) → off v → Tested test on off v
  ends : test eod → Tested test on off eod
  fails : {w : PlainValue} → test w → IsNoTruth w → Tested test on off fault

-- a truth or end of data as it is, for all else an error
abbrev pub AsTruth : Values → Values
AsTruth a v = (w : PlainValue) × a w × (only_truth w ≡ v)

-- neither a time or space nor end of data
abbrev pub IsNoPlace : PlainValue → Type 0
IsNoPlace (int (pos n)) = last < n
IsNoPlace eod = ⊥
IsNoPlace _ = Unit {0}

-- What stands at a time or a space that is itself a value; at end of data that, and else an error.
pub data Placed (place : Values) (at : ℕ → Values) : PlainValue → Type 0 where
  there : {n : ℕ} {v : PlainValue} → place (int (pos n)) → n ≤ last → at n v → Placed place at v
  ended : place eod → Placed place at eod
  nowhere : {w : PlainValue} → place w → IsNoPlace w → Placed place at fault

-- The values are those of so many parts, from that number on.
abbrev pub HaveValues : Streams → (left from time space : ℕ) → List PlainValue → Type 0
HaveValues a zero i t s vs = vs ≡ []
HaveValues a (suc n) i t s [] = ⊥
HaveValues a (suc n) i t s (v ∷ vs) = a i t s v × HaveValues a n (suc i) t s vs
