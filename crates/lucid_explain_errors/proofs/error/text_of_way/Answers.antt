use Rattle.std.proofs.Common.{ℕ, List, ◌++◌, ap, ◌∙◌}
use Rattle.lucid_explain_errors.specs.Steps.{plain_sight, named, steps_text}
use Rattle.lucid_explain_errors.proofs.Telling.{told_way}
use Rattle.lucid_explain_errors.proofs.error.text_of_way.Goals as goal

pub returns : goal.returns
returns c =
    let t = plain_sight c.args.sight.now in
    let T = c.args.table.now in
    let found = c.in_ok-steps.ensures ∙ ap (λ (is : List ℕ). named T t.judgments is) c.deref.ensures.value in
    let second = c.in_ok-put_steps.ensures ∙ ap (λ (is : List ℕ). c.put_head.new.text.items ++ steps_text t is) c.deref-2.ensures.value in
    told_way t T c.args.number _ _ _ _ _ _ _ _ _ c.in_ok-passed.ensures c.in_ok-push.ensures.items found c.time_at-time.ensures c.new-text.ensures.items
    c.in_ok-put_head.ensures second c.in_ok-put_ending.ensures
