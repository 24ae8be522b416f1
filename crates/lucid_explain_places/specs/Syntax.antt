-- What is said of tokens that spell no program: what stands at the place, which tokens may stand there, and what was probably meant.
use Rattle.std.specs.Prelude.{ℕ, List, [], ◌++◌, length, take, map, min, codes, ◌==◌, if◌then◌else◌}
use Rattle.std.specs.List.{join_by}
use Rattle.lucid_explain_places.specs.declared.candidates.Candidate.{Candidate}
use Rattle.lucid_explain_places.specs.Around.{PlainAround}
use Rattle.lucid_explain_places.specs.Hints.{hint_text}
use Rattle.lucid_explain_places.specs.Shown.{shown_byte, place_text}

-- at most so many bytes of it are shown
abbrev pub most_read : ℕ
most_read = 40

abbrev pub read_line : (read : List ℕ) → List ℕ
read_line read =
    if length read == 0 then codes "Here the source ends.\n" else codes "Here stands `" ++ (map shown_byte (take (min (length read) most_read) read) ++ codes "`.\n")

abbrev pub told_of : Candidate → List ℕ
told_of c = c.told.now

abbrev pub standing_line : List Candidate → List ℕ
standing_line those =
    if length those == 0 then [] else codes "What may stand here: " ++ (join_by told_of (codes ", ") those ++ codes ".\n")

-- what stands there, which tokens may stand there, and what was probably meant
abbrev pub around_text : PlainAround → List Candidate → List ℕ
around_text a those = read_line a.read ++ (standing_line those ++ hint_text a those)

abbrev pub syntax_text : (file source : List ℕ) → (at : ℕ) → PlainAround → List Candidate → List ℕ
syntax_text file source at a those = place_text file source at ++ around_text a those
