use Rattle.lucid_explain_run.proofs.Standing.{own-piece}
use Rattle.lucid_explain_run.proofs.piece_laws.pieces_are_of_their_nodes.Goals as goal

pub returns : goal.returns
returns c = own-piece
