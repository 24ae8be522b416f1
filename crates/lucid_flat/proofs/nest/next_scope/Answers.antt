use Rattle.lucid_flat.proofs.SoundCommon.{◌≡◌, ◌<◌, ℕ, length, sym, subst, arith, IsRound, HasDepth, itself, outermost}
use Rattle.lucid_flat.proofs.Nesting.{round-low, depth-low}
use Rattle.lucid_flat.proofs.NestMade.{lower-low, next-low, next-depth, next-round}
use Rattle.lucid_flat.proofs.nest.next_scope.Goals as goal

pub returns-then-id-eq0-clause-depth : goal.returns-then-id-eq0-clause-depth
returns-then-id-eq0-clause-depth c =
    let xs = c.args.rows.now in
    let none : length c.args.depths.now ≡ 0 = c.if-id-eq0.true in
    let P : ℕ → Type 0 = λ s. HasDepth xs s 0 in subst P (sym none) outermost

pub returns-then-id-eq0-clause-round : goal.returns-then-id-eq0-clause-round
returns-then-id-eq0-clause-round c = subst (IsRound c.args.rows.now 0) (sym c.if-id-eq0.true) itself

pub bounds-depths-parent : goal.bounds-depths-parent
bounds-depths-parent c = next-low c.args.rows.now c.requires.right (length c.args.depths.now) c.requires.known (omega (arith, c.if-id-eq0.false))

pub overflow_add-result : goal.overflow_add-result
overflow_add-result c =
    let low = next-low c.args.rows.now c.requires.right (length c.args.depths.now) c.requires.known (omega (arith, c.if-id-eq0.false)) in
    let deep = depth-low c.args.rows.now c.requires.right _ _ (c.requires.nest.depths _ low) in
    omega (arith, low, deep, c.requires.known, c.requires.few)

pub leap_of-requires-clause-known : goal.leap_of-requires-clause-known
leap_of-requires-clause-known c =
    let low = next-low c.args.rows.now c.requires.right (length c.args.depths.now) c.requires.known (omega (arith, c.if-id-eq0.false)) in
    omega (arith, low, c.requires.nest.all_leaps)

pub leap_of-requires-clause-low : goal.leap_of-requires-clause-low
leap_of-requires-clause-low c = lower-low c.args.rows.now c.args.leaps.now c.requires.nest.lower c.requires.nest.round
    (λ s. round-low c.args.rows.now c.requires.right s 0)

pub returns-clause-depth : goal.returns-clause-depth
returns-clause-depth c =
    let some : 0 < length c.args.depths.now = omega (arith, c.if-id-eq0.false) in
    let low = next-low c.args.rows.now c.requires.right (length c.args.depths.now) c.requires.known some in
    next-depth c.args.rows.now c.requires.right (length c.args.depths.now) c.requires.known some _ (c.requires.nest.depths _ low)

pub returns-clause-round : goal.returns-clause-round
returns-clause-round c = next-round c.args.rows.now c.requires.right (length c.args.depths.now) c.requires.known (omega (arith, c.if-id-eq0.false)) _
    (c.leap_of.ensures.round c.args.rows.now c.requires.nest.round)

pub returns-clause-lower : goal.returns-clause-lower
returns-clause-lower c some =
    let low = next-low c.args.rows.now c.requires.right (length c.args.depths.now) c.requires.known some in
    omega (arith, low, c.leap_of.ensures.low)
