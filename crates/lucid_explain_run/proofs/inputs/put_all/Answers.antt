use Rattle.std.proofs.Common.{List, ℕ, ◌++◌, ap, ◌∙◌}
use Rattle.lucid_explain_run.specs.Inputs.{lacking_text}
use Rattle.lucid_explain_run.proofs.Flat.{flat_step}
use Rattle.lucid_explain_run.proofs.inputs.put_all.Goals as goal

pub loop-lacking-preserved : goal.loop-lacking-preserved
loop-lacking-preserved c =
    flat_step (lacking_text c.args.source.now) c.args.text.now.items c.put_lacking.new.text.items c.args.those.now c.loop-lacking.lacking-index
    c.lacking-item.result
    c.loop-lacking-test.true c.lacking-item.is
    (c.in_ok-put_lacking.ensures ∙ ap (λ (z : List ℕ). z ++ lacking_text c.args.source.now c.lacking-item.result) c.loop-lacking.invariant)
