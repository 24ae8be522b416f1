use Rattle.std.proofs.Common.{ℕ, List, ◌++◌, ap, ◌∙◌, append_assoc}
use Rattle.std.specs.Prelude.{codes, decimal}
use Rattle.std.proofs.lemmas.Result.{on_ok_weaker}
use Rattle.lucid_explain_run.proofs.judgment.put_numbers.Goals as goal

pub returns : goal.returns
returns c =
    let text = c.args.text.now.items in
    let first = codes "Line " ++ decimal c.args.row.line in
    let second : ℕ → List ℕ = λ n. codes " of the certificate has this judgment, of node " ++ decimal n in
    on_ok_weaker c.put_number-2.result
    (λ e. e
    ∙ ap (λ (z : List ℕ). z ++ second c.from.result) c.in_ok-put_number.ensures
    ∙ append_assoc text first (second c.from.result)
    ∙ ap (λ (n : ℕ). text ++ (first ++ second n)) c.from.ensures)
    c.put_number-2.ensures
