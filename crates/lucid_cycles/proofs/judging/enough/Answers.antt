use Rattle.lucid_cycles.proofs.Common.{◌≡◌, true, length, sym, ap, subst, ◌∙◌, pos, All, PlainTree, scoped_tree, scoped_inputs, scoped_binding, Survey, Bindings, edges, listed_names, HasAsked, HasNames, IsTrue, ◌↔◌}
use Rattle.std.specs.Prelude.{None}
use Rattle.lucid_cycles.proofs.Descended.{enough-from, enough-asks, ok-on, defined}
use Rattle.lucid_cycles.proofs.judging.enough.Goals as goal

pub returns-then-counts_hold-clause-value : goal.returns-then-counts_hold-clause-value
returns-then-counts_hold-clause-value c =
    let e : PlainTree = scoped_tree c.args.scoped.now in
    let b : Bindings = scoped_binding c.args.scoped.now in
    let s : Survey = c.of-survey.result in
    let h : HasNames e s.names = c.of-survey.ensures.names c.requires.few in
    let P = HasAsked (listed_names s.names) c.args.factor c.args.potentials.now c.args.add in
    let g : IsTrue c.is_ok.result ↔ All P (edges b None (pos 0) e) =
    subst (λ p. IsTrue c.is_ok.result ↔ All (HasAsked (listed_names s.names) c.args.factor p c.args.add) (edges b None (pos 0) e)) c.items-potentials.ensures
    (subst (λ r. r ≡ true ↔ All (HasAsked (listed_names s.names) c.args.factor c.items-potentials.result.now c.args.add) (edges b None (pos 0) e))
    (sym c.is_ok.ensures.value) c.walk.ensures.marks.tells) in
    let k = c.counts_hold.ensures.0 c.if-counts_hold.true in (
      (λ t. enough-from e b s.names c.args.factor c.args.add c.args.potentials.now h (ap length (sym c.items-potentials.ensures) ∙ k.0) k.1 k.2 (g.0 t)),
      (λ q. g.1 (enough-asks e b s.names c.args.factor c.args.add c.args.potentials.now h q)),
    )

pub returns-then-counts_hold-clause-depth : goal.returns-then-counts_hold-clause-depth
returns-then-counts_hold-clause-depth c t =
    defined c.enough_is_enough.ensures (scoped_tree c.args.scoped.now) (scoped_inputs c.args.scoped.now) (scoped_binding c.args.scoped.now) c.args.factor
    c.args.add c.args.potentials.now
    (ok-on _ c.walk.result (sym c.is_ok.ensures.value ∙ t) c.walk.ensures.parts) c.walk.ensures.resolved c.requires.inside
    ((returns-then-counts_hold-clause-value c).0 t)
