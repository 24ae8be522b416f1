use Rattle.lucid_store.proofs.Common.{◌≡◌, ◌-◌, ◌++◌, length, take, ap, ◌∙◌}
use Rattle.std.proofs.Common.{take_all, vec_len}
use Rattle.std.specs.Prelude.{replicate}
use Rattle.lucid_store.proofs.AgeLemmas.{zeros-copies}
use Rattle.lucid_store.proofs.ages.fill.Goals as goal

pub returns-clause-items : goal.returns-clause-items
returns-clause-items c =
    let ws = c.args.written.now.items in
    let len : vec_len c.args.written.now ≡ length ws = c.args.written.now.ok.0 in
    c.in-Ok.ensures.items ∙ ap (λ n. take c.args.count ws ++ replicate (c.args.count - n) 0) len
    ∙ (λ i. take_all c.args.count ws c.requires.few i ++ zeros-copies (c.args.count - length ws) i)
