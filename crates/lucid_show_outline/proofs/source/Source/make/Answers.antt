use Rattle.std.proofs.Common.{◌≡◌, ◌++◌, sym, ◌∙◌}
use Rattle.lucid_tree.specs.Tree.{PlainTree}
use Rattle.lucid_show_outline.specs.Pieces.{found, lent, node_pieces}
use Rattle.lucid_show_outline.proofs.Found.{pieces_found}
use Rattle.lucid_show_outline.proofs.source.Source.make.Goals as goal

pub returns : goal.returns
returns c =
    let e : PlainTree = c.args.tree.now in
    let all : lent c.find_pieces.new.to.items ≡ node_pieces e = c.in_ok-find_pieces.ensures ∙ (λ j. lent (c.new-pieces.ensures.items j) ++ found e) ∙ sym (pieces_found e) in
    λ j. record { table = c.args.table.now; pieces = all j; contexts = c.items-contexts.ensures j; judgments = c.items-judgments.ensures j; names = c.args.names.now }
