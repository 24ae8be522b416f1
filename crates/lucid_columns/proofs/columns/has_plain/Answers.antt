use Rattle.lucid_columns.proofs.Common.{◌≡◌, false, sym, ◌∙◌, ap, definition, is_plain, defines_plain}
use Rattle.lucid_columns.proofs.Defined.{same_if, not_same_if, passed, met, none_left}
use Rattle.lucid_columns.proofs.columns.has_plain.Goals as goal

pub loop-def-preserved : goal.loop-def-preserved
loop-def-preserved c =
    sym (passed c.args.name.now c.items-def-items.result.now c.loop-def.def-index c.def-item.result c.loop-def-test.true c.def-item.is
    (not_same_if c.same.result c.args.name.now c.def-item.result.name c.same.ensures c.if-same.false)) ∙ c.loop-def.invariant

pub returns-then-same : goal.returns-then-same
returns-then-same c =
    let e : defines_plain c.def-item.result.kind ≡ is_plain (definition c.args.name.now c.args.defs.now) =
    sym (met c.args.name.now c.items-def-items.result.now c.loop-def.def-index c.def-item.result c.loop-def-test.true c.def-item.is
    (same_if c.same.result c.args.name.now c.def-item.result.name c.same.ensures c.if-same.true)) ∙ c.loop-def.invariant
    ∙ ap (λ ds. is_plain (definition c.args.name.now ds)) c.items-def-items.ensures in
    c.is_plain_def.ensures ∙ e

pub returns : goal.returns
returns c =
    let e : false ≡ is_plain (definition c.args.name.now c.args.defs.now) =
    sym (none_left c.args.name.now c.items-def-items.result.now c.loop-def.def-index c.loop-def-test.false) ∙ c.loop-def.invariant
    ∙ ap (λ ds. is_plain (definition c.args.name.now ds)) c.items-def-items.ensures in e
