use Rattle.lucid_show_drawing.proofs.Common.{ℕ, ◌+◌, ◌-◌, ap, arith}
use Rattle.lucid_show_drawing.specs.Spots.{frames}
use Rattle.std.proofs.lemmas.Bool.{ne_eqb}
use Rattle.lucid_show_drawing.proofs.Frames.{frames_more}
use Rattle.lucid_show_drawing.proofs.spot.frames.Goals as goal

pub loop-count-preserved : goal.loop-count-preserved
loop-count-preserved c =
    let left : ℕ = c.args.most - (c.loop-count.count + 1) in
    let more = frames_more c.args.most c.loop-count.count c.args.contexts.now c.loop-count.at c.loop-count-test.true (ne_eqb c.loop-count.at 0 c.if-at-eq0.false) in
    let same = ap (λ (k : ℕ). frames left c.args.contexts.now k) c.base_at-at.ensures in
    omega (arith, c.loop-count.invariant, more, same)
