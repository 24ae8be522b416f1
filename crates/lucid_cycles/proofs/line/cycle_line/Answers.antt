use Rattle.lucid_cycles.proofs.Common.{rules, codes, List, ℕ, ap, ◌∙◌, ◌++◌, ◌≡◌, join_by, scoped_tree, total, name_text, text_at, signed_decimal}
use Rattle.lucid_cycles.proofs.Defined.{join-same}
use Rattle.lucid_cycles.proofs.line.cycle_line.Goals as goal

pub returns : goal.returns
returns c =
    let same = join-same (text_at c.in_ok-found.found.items) (name_text (scoped_tree c.args.scoped.now)) (codes ", ") c.args.names.now c.in_ok-found.ensures in
    let shown : List ℕ = join_by (text_at c.in_ok-found.found.items) (codes ", ") c.args.names.now in
    let sum : List ℕ = codes ": sum " ++ (signed_decimal (total c.args.delays.now) ++ codes "\n") in
    let begun : c.in_ok-line.line.items ≡ codes "cycle " = search rules in
    let names : c.put_names.new.line.items ≡ c.in_ok-line.line.items ++ shown = search rules in
    let all : c.extend_from_slice.new.self.items ≡ c.put_names.new.line.items ++ sum = search rules in
    all ∙ ap (λ (z : List ℕ). z ++ sum) names ∙ ap (λ (z : List ℕ). (z ++ shown) ++ sum) begun ∙ ap (λ (z : List ℕ). codes "cycle " ++ (z ++ sum)) same
