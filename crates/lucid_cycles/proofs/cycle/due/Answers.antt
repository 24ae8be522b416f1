use Rattle.lucid_cycles.proofs.Common.{refl, subst, All, take_all, All-more, Edge, edge, Makes}
use Rattle.std.proofs.lemmas.List.{get_or_default}
use Rattle.lucid_cycles.proofs.Lists.{all-in, in-at}
use Rattle.lucid_cycles.proofs.cycle.due.Goals as goal

pub returns-then-makes : goal.returns-then-makes
returns-then-makes c = record {
  stands = in-at c.args.edges.now c.loop-edge.edge-index _ c.loop-edge-test.true (get_or_default c.args.edges.now c.loop-edge.edge-index _ _ c.loop-edge-test.true);
  makes = c.makes.ensures.0 c.if-makes.true;
}

pub loop-edge-preserved : goal.loop-edge-preserved
loop-edge-preserved c =
    All-more (λ (e : Edge). Makes c.args.factor c.args.before.now c.args.name c.args.value e → ⊥) c.args.edges.now c.loop-edge.edge-index _
    c.loop-edge-test.true c.loop-edge.invariant
    (λ m. let t = c.makes.ensures.1 m in cc)

pub returns : goal.returns
returns c d =
    all-in (λ (e : Edge). Makes c.args.factor c.args.before.now c.args.name c.args.value e → ⊥) (edge c.args.name d.to d.delay) c.args.edges.now d.stands
    (subst (All (λ (e : Edge). Makes c.args.factor c.args.before.now c.args.name c.args.value e → ⊥))
    (take_all c.loop-edge.edge-index c.args.edges.now c.loop-edge-test.false) c.loop-edge.invariant)
    (record { from_name = refl; is = d.is })
