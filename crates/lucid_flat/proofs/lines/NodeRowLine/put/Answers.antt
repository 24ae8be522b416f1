use Rattle.lucid_flat.proofs.Common.{List, ℕ, [], ◌∷◌, ◌++◌, ap, ◌∙◌, codes, decimal, node_words, spaced, appended}
use Rattle.lucid_texts.proofs.Spaced.{line_two}
use Rattle.lucid_flat.proofs.lines.NodeRowLine.put.Goals as goal

pub returns-clause-line : goal.returns-clause-line
returns-clause-line c =
    let s = decimal c.args.self.now.scope ∷ [] in
    let ws = node_words c.args.self.now.node in
    let e = ap (λ (x : List ℕ). (x ++ spaced s) ++ spaced ws) c.in_ok-extend_from_slice.ensures.items in
    let f = ap (λ (x : List ℕ). x ++ spaced ws) c.in_ok-put_number.ensures in
    let g = ap (λ (x : List ℕ). x ++ 10 ∷ []) (c.in_ok-put_node.ensures.words ∙ (f ∙ e)) in
    appended c.extend_from_slice-2.result c.extend_from_slice-2.new.self.items c.put_node.new.to.items (10 ∷ []) _ c.extend_from_slice-2.ensures.items (g ∙ line_two c.args.to.now.items (codes "node") s ws)
