-- Which tokens may stand at a place of a source: those with which some program goes on.
use Rattle.std.specs.Prelude.{ℕ, suc, ◌≤◌, List, [], ◌∷◌, ◌++◌, length, take, codes}
use Rattle.lucid_scan.specs.declared.token.Token.{Token}
use Rattle.lucid_scan.specs.Tokens.{Tokens}
use Rattle.lucid_scan.specs.Refusals.{most_source_bytes}
use Rattle.lucid_parse.specs.Grammar.{PlacedTerminal}
use Rattle.lucid_parse.specs.Terminals.{Terminals}
use Rattle.lucid_parse.specs.Verdict.{Begins}
use Rattle.lucid_explain_places.specs.declared.candidates.Candidate.{Candidate}

-- Some program goes on with the bytes: they are tokens to their end, and some program begins with what these stand for.
pub record GoesOn (bytes : List ℕ) : Type 0 where
  pub tokens : List Token
  pub terminals : List PlacedTerminal
  pub scanned : Tokens bytes 0 tokens
  pub stand_for : Terminals bytes tokens terminals
  pub begins : Begins terminals

-- Some program goes on with the bytes, which are no more than a source may have.
pub record IsBegun (bytes : List ℕ) : Type 0 where
  pub short : length bytes ≤ most_source_bytes
  pub goes_on : GoesOn bytes

-- A token's text may stand at a place: some program goes on with what stands before the place, a line end and the text.
abbrev pub MayStand : (source : List ℕ) → (at : ℕ) → (text : List ℕ) → Type 0
MayStand source at text = IsBegun (take at source ++ (10 ∷ text))

-- The texts that are tried at a place, the commonest first, and how each is told. One name, one number and one operator stand for all.
abbrev pub tried : List (List ℕ × List ℕ)
tried =
    (codes ";", codes "`;`") ∷ (codes "then", codes "`then`") ∷ (codes "else", codes "`else`") ∷ (codes "fi", codes "`fi`")
    ∷ (codes ")", codes "`)`") ∷ (codes ",", codes "`,`") ∷ (codes "=", codes "`=`") ∷ (codes "end", codes "`end`")
    ∷ (codes "where", codes "`where`") ∷ (codes "+", codes "an operator") ∷ (codes "x", codes "a name") ∷ (codes "1", codes "a number")
    ∷ (codes "(", codes "`(`") ∷ (codes "if", codes "`if`") ∷ (codes "is", codes "`is`") ∷ (codes "current", codes "`current`") ∷ []

-- a token's text, and how it is told
abbrev pub text_and_told : Candidate → List ℕ × List ℕ
text_and_told c = (c.text.now, c.told.now)

-- Those are the first of these that may stand at the place, as many as there is room for.
pub data AreFirst (source : List ℕ) (at : ℕ) : (room : ℕ) → (these : List (List ℕ × List ℕ)) → (those : List Candidate) → Type 0 where
  ended : (room : ℕ) → AreFirst source at room [] []
  stands : (room : ℕ) (c : Candidate) (these : List (List ℕ × List ℕ)) (those : List Candidate) → MayStand source at c.text.now
      → AreFirst source at room these those → AreFirst source at (suc room) (text_and_told c ∷ these) (c ∷ those)
  passed : (room : ℕ) (one : List ℕ × List ℕ) (these : List (List ℕ × List ℕ)) (those : List Candidate) → (MayStand source at one.0 → ⊥)
      → AreFirst source at room these those → AreFirst source at room (one ∷ these) those
  no_room : (one : List ℕ × List ℕ) (these : List (List ℕ × List ℕ)) (those : List Candidate)
      → AreFirst source at 0 these those → AreFirst source at 0 (one ∷ these) those

-- They are the first six that may stand there, or all.
abbrev pub AreStanding : (source : List ℕ) → (at : ℕ) → (those : List Candidate) → Type 0
AreStanding source at those = AreFirst source at 6 tried those
