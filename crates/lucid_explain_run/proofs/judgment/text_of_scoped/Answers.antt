use Rattle.std.proofs.Common.{ℕ, List, ◌++◌, ap, ◌∙◌, Option}
use Rattle.std.specs.Option.{option_copied}
use Rattle.lucid_tree.specs.Tree.{PlainTree}
use Rattle.lucid_scope.specs.Scoped.{scoped_tree}
use Rattle.lucid_explain_run.specs.Judgments.{found_text, told}
use Rattle.lucid_explain_run.proofs.judgment.text_of_scoped.Goals as goal

pub returns : goal.returns
returns c =
    let file = c.args.judged.now.file.now in
    let source = c.args.judged.now.source.now in
    let node = c.args.row.node in
    let line = c.args.row.line in
    told node line (scoped_tree c.args.scoped.now) c.requires.row c.requires.program
    (c.in_ok-put_found.ensures
    ∙ ap (λ (z : List ℕ). z ++ found_text file source node line (option_copied c.in_ok-piece.piece)) c.new-text.ensures.items
    ∙ ap (λ (o : Option PlainTree). found_text file source node line o) c.in_ok-piece.ensures)
