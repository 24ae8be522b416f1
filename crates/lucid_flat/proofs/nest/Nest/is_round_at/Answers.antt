use Rattle.lucid_flat.proofs.SoundCommon.{arith, eqb-true, eq-eqb, false≢true, itself, get_or_read}
use Rattle.lucid_flat.proofs.Nesting.{round-then}
use Rattle.lucid_flat.proofs.Leaping.{ended, none-deeper}
use Rattle.lucid_flat.proofs.nest.Nest.is_round_at.Goals as goal

pub returns-then-index-level : goal.returns-then-index-level
returns-then-index-level c =
    let xs = c.args.rows.now in
    let e = get_or_read c.args.self.now.depths.items _ _ (omega (arith, c.requires.known, c.requires.nest.all_depths)) c.index.ensures 0 in (
      λ no. absurd (false≢true no),
      λ w. absurd (none-deeper xs c.requires.right _ _ c.requires.nest c.args.outer c.args.scope c.args.level c.requires.known
          (omega (arith, e, c.if-index-level.true)) w),
    )

pub loop-at-init : goal.loop-at-init
loop-at-init c =
    let e = get_or_read c.args.self.now.depths.items _ _ (omega (arith, c.requires.known, c.requires.nest.all_depths)) c.index.ensures 0 in
    record { known = c.requires.known; round = itself; deep = omega (arith, e, c.if-index-level.false) }

pub loop-at-preserved : goal.loop-at-preserved
loop-at-preserved c = record {
  known = omega (arith, c.further-at.ensures.less, c.loop-at.invariant.known);
  round = round-then c.args.rows.now _ _ _ c.further-at.ensures.round c.loop-at.invariant.round;
  deep = c.further-at.ensures.deep;
}

pub returns : goal.returns
returns c =
    let inv = c.loop-at.invariant in
    let e = get_or_read c.args.self.now.depths.items _ _ (omega (arith, inv.known, c.requires.nest.all_depths)) c.index-in-loop-at.ensures 0 in
    let w = ended c.args.rows.now c.requires.right _ _ c.requires.nest c.loop-at.at c.args.outer c.args.scope c.args.level c.requires.known inv.known inv.round
    (omega (arith, e, inv.deep, c.loop-at-test.false)) in
    (λ same. w.0 (eqb-true _ _ same), λ at. eq-eqb _ _ (w.1 at))
