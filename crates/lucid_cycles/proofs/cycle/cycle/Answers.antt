use Rattle.lucid_cycles.proofs.Common.{◌≡◌, ◌+◌, [], ◌∷◌, ◌++◌, length, get_or, drop, refl, sym, subst, ◌∙◌, ap, arith, rules, to_z-of_z, In, Closed, potential}
use mir.Syntax.{w64}
use mir.Val.{SFits}
use Rattle.lucid_cycles.proofs.Closing.{length-level, some-rises, back-begins, back-goes, back-low, back-ends, is-due, delays-many, closes}
use Rattle.lucid_cycles.proofs.cycle.cycle.Goals as goal

pub risen-requires-clause-same : goal.risen-requires-clause-same
risen-requires-clause-same c =
    length-level c.args.edges.now c.args.factor c.args.count c.args.levels.now c.requires.levels c.requires.many c.level_at-2.result.now (c.args.count + 1)
    (omega arith) c.level_at-2.ensures
    ∙ sym (length-level c.args.edges.now c.args.factor c.args.count c.args.levels.now c.requires.levels c.requires.many c.level_at.result.now c.args.count
    (omega arith) c.level_at.ensures)

pub risen-requires-clause-few : goal.risen-requires-clause-few
risen-requires-clause-few c =
    let e = length-level c.args.edges.now c.args.factor c.args.count c.args.levels.now c.requires.levels c.requires.many c.level_at.result.now c.args.count
    (omega arith) c.level_at.ensures in
    omega (arith, e, c.requires.count)

pub unreachable-requires : goal.unreachable-requires
unreachable-requires c =
    some-rises c.args.edges.now c.args.factor c.args.count c.args.levels.now c.requires.levels c.requires.many c.level_at.result.now c.level_at-2.result.now
    c.level_at.ensures c.level_at-2.ensures c.in-None.ensures

pub loop-level-init : goal.loop-level-init
loop-level-init c =
    back-begins c.args.edges.now c.args.factor c.args.count c.args.levels.now c.requires.levels c.requires.many c.level_at.result.now c.level_at-2.result.now
    c.new-names.result.items c.new-delays.result.items c.in-Some.name
    c.level_at.ensures c.level_at-2.ensures c.in-Some.ensures c.new-names.ensures.items c.new-delays.ensures.items

pub split_off-requires-in-Some-place_of : goal.split_off-requires-in-Some-place_of
split_off-requires-in-Some-place_of c =
    let many = delays-many c.args.edges.now c.args.factor c.args.count c.args.levels.now c.requires.levels c.requires.many c.loop-level.names.items
    c.loop-level.delays.items c.loop-level.level c.loop-level.name c.loop-level.invariant in
    let names = ap length c.deref.ensures.value in
    omega (arith, many, names, c.in-Some-place_of.ensures.0, c.loop-level.names.ok, c.loop-level.delays.ok)

pub begun-requires : goal.begun-requires
begun-requires c =
    let whole : c.deref.result.now ≡ c.loop-level.names.items = c.deref.ensures.value in
    let closed = closes c.args.edges.now c.args.factor c.args.count c.args.levels.now c.requires.levels c.requires.many c.loop-level.names.items
    c.loop-level.names.items c.loop-level.delays.items
    c.loop-level.delays.items c.loop-level.level c.loop-level.name c.from-number.result c.in-Some-place_of.start c.requires.factor c.loop-level.invariant refl
    refl
    c.from-number.ensures (omega (arith, ap length whole, c.in-Some-place_of.ensures.0))
    (ap (λ x. get_or x c.in-Some-place_of.start 0) (sym whole) ∙ c.in-Some-place_of.ensures.1) in
    subst (λ ns. Closed c.args.edges.now ns c.in_ok-delays.delays.items) (sym c.in_ok-names.ensures.tail)
    (subst (Closed c.args.edges.now (drop c.in-Some-place_of.start c.loop-level.names.items)) (sym c.in_ok-delays.ensures.tail) closed)

pub level_at-requires-in-loop-level : goal.level_at-requires-in-loop-level
level_at-requires-in-loop-level c =
    let low = back-low c.args.edges.now c.args.factor c.args.count c.args.levels.now c.requires.levels c.requires.many c.loop-level.names.items
    c.loop-level.delays.items c.loop-level.level c.loop-level.name c.loop-level.invariant in
    omega (arith, low, c.requires.many)

pub level_at-requires-in-loop-level-2 : goal.level_at-requires-in-loop-level-2
level_at-requires-in-loop-level-2 c =
    let low = back-low c.args.edges.now c.args.factor c.args.count c.args.levels.now c.requires.levels c.requires.many c.loop-level.names.items
    c.loop-level.delays.items c.loop-level.level c.loop-level.name c.loop-level.invariant in
    omega (arith, low, c.requires.many)

pub loop-level-preserved : goal.loop-level-preserved
loop-level-preserved c =
    let fits : SFits w64 c.in-Some-due.edge.delay = search rules in
    back-goes c.args.edges.now c.args.factor c.args.count c.args.levels.now c.requires.levels c.requires.many c.loop-level.names.items c.push.new.self.items
    c.loop-level.delays.items c.push-in-Some-due.new.self.items
    c.loop-level.level c.loop-level.name c.potential-value.result c.level_at-in-loop-level-2.result.now c.in-Some-due.edge
    (omega (arith, c.loop-level-test.true)) c.loop-level.invariant
    (λ i. c.in_default.ensures (subst (In c.from-number.result) (sym c.deref.ensures.value)
    (subst (λ x. In x c.loop-level.names.items) (sym c.from-number.ensures) i)))
    c.level_at-in-loop-level-2.ensures (c.potential-value.ensures ∙ ap (λ x. potential x c.loop-level.name) c.level_at-in-loop-level.ensures)
    c.in-Some-due.ensures
    (c.in_ok-push-in-Some-due.ensures.items ∙ ap (λ x. c.loop-level.names.items ++ x ∷ []) c.from-number.ensures)
    (c.in_ok-push-in-Some-due-2.ensures.items ∙ ap (λ x. c.loop-level.delays.items ++ x ∷ []) (to_z-of_z w64 c.in-Some-due.edge.delay fits))

pub unreachable-requires-in-None-due : goal.unreachable-requires-in-None-due
unreachable-requires-in-None-due c =
    c.in-None-due.ensures
    (is-due c.args.edges.now c.args.factor c.args.count c.args.levels.now c.requires.levels c.requires.many c.loop-level.names.items c.loop-level.delays.items
    c.loop-level.level c.loop-level.name c.potential-value.result
    c.level_at-in-loop-level-2.result.now (omega (arith, c.loop-level-test.true)) c.loop-level.invariant
    c.level_at-in-loop-level-2.ensures (c.potential-value.ensures ∙ ap (λ x. potential x c.loop-level.name) c.level_at-in-loop-level.ensures))

pub unreachable-requires-2 : goal.unreachable-requires-2
unreachable-requires-2 c =
    let up = back-ends c.args.edges.now c.args.factor c.args.count _ c.loop-level.names.items c.loop-level.delays.items c.loop-level.level c.loop-level.name
    c.loop-level.invariant in
    omega (arith, up, c.loop-level-test.false)
