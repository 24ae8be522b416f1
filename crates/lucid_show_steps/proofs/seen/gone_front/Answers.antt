use Rattle.std.proofs.Common.{sym, ◌∙◌, arith}
use Rattle.lucid_show_steps.proofs.Held.{same_then, same_touched, none_held, gone_more, none_past}
use Rattle.lucid_show_steps.proofs.seen.gone_front.Goals as goal

pub returns-then-is_held-clause-same : goal.returns-then-is_held-clause-same
returns-then-is_held-clause-same c = same_then _ _ _ c.loop-gone.invariant.2 (same_touched _ _ _ c.is_held.ensures.touched)

pub loop-gone-preserved : goal.loop-gone-preserved
loop-gone-preserved c =
    let still = same_touched c.loop-gone.warehouse c.is_held.new.warehouse c.index-keys-gone.result c.is_held.ensures.touched in
    let none = none_held c.loop-gone.warehouse c.index-keys-gone.result (sym c.is_held.ensures.held ∙ c.if-is_held.false) in (
      grind (arith, c.loop-gone.invariant.0, c.if-gone-count.false),
      gone_more c.loop-gone.warehouse c.is_held.new.warehouse c.args.keys.now c.loop-gone.gone c.index-keys-gone.result c.loop-gone-test.true
          c.index-keys-gone.is still c.loop-gone.invariant.1 none,
      same_then _ _ _ c.loop-gone.invariant.2 still,
    )

pub returns-clause-rest : goal.returns-clause-rest
returns-clause-rest c = λ few key is none. none_past c.args.keys.now key is
