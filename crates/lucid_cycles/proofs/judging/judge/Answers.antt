use Rattle.lucid_cycles.proofs.Common.{◌≡◌, ◌++◌, [], length, map, sym, ap, subst, ◌∙◌, arith, pos, MatchOption, All, PlainTree, scoped_tree, scoped_inputs, scoped_binding, Survey, outside, plain_names, IsFirstOutside, Bindings, edges, graph, IsSmall, listed_names, HasNames}
use Rattle.std.specs.Prelude.{None}
use Rattle.lucid_cycles.specs.Graph.{numbered}
use Rattle.lucid_cycles.proofs.Small.{graph-small}
use Rattle.lucid_cycles.proofs.Descended.{few-names, graph-is, judgment-is, judged-defined}
use Rattle.lucid_cycles.proofs.judging.judge.Goals as goal

pub returns-clause-judged : goal.returns-clause-judged
returns-clause-judged c =
    let e : PlainTree = scoped_tree c.args.scoped.now in
    record {
      inside = subst (λ o. MatchOption o (outside e ≡ []) (λ at. IsFirstOutside e at)) c.in_default.is c.of-survey.ensures.outside;
      few = few-names e c.of-survey.result c.of-survey.ensures c.if-names-gt-MOST_NAMES.false;
    }

pub settle-requires-clause-small : goal.settle-requires-clause-small
settle-requires-clause-small c =
    let e : PlainTree = scoped_tree c.args.scoped.now in
    let b : Bindings = scoped_binding c.args.scoped.now in
    let s : Survey = c.of-survey.result in
    let h : HasNames e s.names = c.of-survey.ensures.names (few-names e s c.of-survey.ensures c.if-names-gt-MOST_NAMES.false) in
    let inside : outside e ≡ [] = subst (λ o. MatchOption o (outside e ≡ []) (λ at. IsFirstOutside e at)) c.in_default.is c.of-survey.ensures.outside in
    let f : c.deref.result.now ≡ map (numbered (listed_names s.names)) (edges b None (pos 0) e) =
    c.deref.ensures.value ∙ c.in_ok-walk.ensures.marks.found
    ∙ ap (λ z. z ++ map (numbered (listed_names s.names)) (edges b None (pos 0) e)) c.new-found.ensures.items in
    subst (λ n. All (IsSmall n) c.deref.result.now) (sym h.count)
    (subst (All (IsSmall (length (plain_names e)))) (sym (graph-is e b s.names c.deref.result.now h f))
    (graph-small e b c.in_ok-walk.ensures.well_made inside))

pub returns-clause-judgment : goal.returns-clause-judgment
returns-clause-judgment c =
    let e : PlainTree = scoped_tree c.args.scoped.now in
    let b : Bindings = scoped_binding c.args.scoped.now in
    let s : Survey = c.of-survey.result in
    let h : HasNames e s.names = c.of-survey.ensures.names (few-names e s c.of-survey.ensures c.if-names-gt-MOST_NAMES.false) in
    let f : c.deref.result.now ≡ map (numbered (listed_names s.names)) (edges b None (pos 0) e) =
    c.deref.ensures.value ∙ c.in_ok-walk.ensures.marks.found
    ∙ ap (λ z. z ++ map (numbered (listed_names s.names)) (edges b None (pos 0) e)) c.new-found.ensures.items in
    judgment-is e b c.deref.result.now s.names.count c.in_ok-settle.field-0 (graph-is e b s.names c.deref.result.now h f) h.count c.in_ok-settle.ensures

pub returns-clause-depth : goal.returns-clause-depth
returns-clause-depth c =
    judged-defined c.enough_is_enough.ensures (scoped_tree c.args.scoped.now) (scoped_inputs c.args.scoped.now) (scoped_binding c.args.scoped.now)
    c.in_ok-settle.field-0
    c.in_ok-walk.ensures.parts c.in_ok-walk.ensures.resolved (returns-clause-judged c).inside (returns-clause-judgment c)
