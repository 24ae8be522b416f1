-- What is said of a judgment of a certificate that doesn't follow: its line, its node, and the piece of the source that has this node.
use Rattle.std.specs.Prelude.{◌≡◌, ℕ, ◌+◌, List, [], ◌++◌, length, min, codes, decimal, Option, Some, None, slice_get}
use Rattle.lucid_tree.specs.Tree.{PlainTree}
use Rattle.lucid_explain_run.specs.Parts.{own_place}
use Rattle.lucid_cert_rules.specs.Certificates.{PlainJudgment}
use Rattle.lucid_cert_rules.specs.WhyTexts.{IsTextOf, IsFirstWrongLine}
use Rattle.lucid_cert_rules.specs.declared.rows.Why.{Why}
use Rattle.lucid_explain_source.specs.Accepted.{IsProgram, IsTurnedDown}
use Rattle.lucid_explain_places.specs.Shown.{place_text}
use Rattle.lucid_explain_run.specs.Pieces.{piece_of, piece_word}

-- The judgment of this number, from 0, is of this node, and stands in this line of the certificate's text, from 1.
pub record IsRow (certificate : List ℕ) (number node line : ℕ) : Type 0 where
  pub why : Why
  pub text : IsTextOf certificate why
  pub judgment : PlainJudgment
  pub stands : slice_get why.judgments number ≡ Some judgment
  pub node_is : node ≡ judgment.node
  pub line_is : line ≡ (length why.contexts + number) + 1

-- There is none of this number: the bytes are no certificate's text, or that of one with fewer judgments.
pub data HasNoRow (certificate : List ℕ) (number : ℕ) : Type 0 where
  no_text : (line : ℕ) → IsFirstWrongLine certificate line → HasNoRow certificate number
  too_few : (why : Why) → IsTextOf certificate why → slice_get why.judgments number ≡ None → HasNoRow certificate number

abbrev pub numbers_text : (node line : ℕ) → List ℕ
numbers_text node line = (codes "Line " ++ decimal line) ++ (codes " of the certificate has this judgment, of node " ++ decimal node)

abbrev pub told_text : (node line : ℕ) → (word : List ℕ) → List ℕ
told_text node line word = numbers_text node line ++ (codes ", which stands here: " ++ (word ++ codes ".\n"))

-- A piece, by its place, with what it is.
abbrev pub piece_text : (file source : List ℕ) → (node line : ℕ) → PlainTree → List ℕ
piece_text file source node line piece = place_text file source (min (length source) (own_place piece)) ++ told_text node line (piece_word piece)

-- nothing of a node that the tree's table hasn't
abbrev pub found_text : (file source : List ℕ) → (node line : ℕ) → Option PlainTree → List ℕ
found_text file source node line (Some piece) = piece_text file source node line piece
found_text file source node line None = []

-- The text tells the piece of the source from which the judgment's node comes; or nothing, where the certificate hasn't the judgment, or the source is
-- refused.
pub data TellsJudgment (file source certificate : List ℕ) (number : ℕ) (text : List ℕ) : Type 0 where
  no_row : HasNoRow certificate number → text ≡ [] → TellsJudgment file source certificate number text
  refused : (node line : ℕ) → IsRow certificate number node line → IsTurnedDown source → text ≡ [] → TellsJudgment file source certificate number text
  told : (node line : ℕ) (tree : PlainTree) → IsRow certificate number node line → IsProgram source tree
      → text ≡ found_text file source node line (piece_of tree node) → TellsJudgment file source certificate number text
