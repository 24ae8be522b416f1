use Rattle.lucid_words.proofs.Common.{map, take, is_name}
use Rattle.lucid_words.proofs.Each.{EachSoFar}
use Rattle.lucid_words.proofs.forms.names_of.Given as goal

-- the pieces so far are all names, and these are the names
abbrev pub invariant-loop-piece : goal.invariant-loop-piece
invariant-loop-piece l = EachSoFar is_name (λ name. name) (map (λ piece. piece.now) (take l.piece-index l.pieces)) l.names.items
