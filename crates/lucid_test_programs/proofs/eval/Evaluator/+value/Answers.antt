use Rattle.lucid_test_programs.proofs.Common.{◌≡◌, sym, ◌∙◌, ap, subst, arith, Some, name_target, at_tree, env_of, ◌+◌, ◌-◌, val, elements_of, found_by, turn_of, ◌≤◌, true, refl, None, map, drop, [], ◌∷◌, ◌++◌, plain, algebra, nat_tests, nodes, nodes_in, trees_of, call_target, calls, counted_by, each_value, Applies, AllApply, count, length, nat_le, option_map, map-append, length-map}
use Rattle.lucid_test_programs.proofs.Goings.{IsGoingSmall, target_small, below_by_going}
use Rattle.lucid_test_programs.proofs.Searches.{met_at, on_at, off_at, ends_at}
use Rattle.lucid_test_programs.proofs.eval.Evaluator.+value.Goals.{search-in-On+else-left-eq0, search-in-Off, counted-in-On, counted-in-Off}
use Rattle.lucid_test_programs.proofs.Searches.{one_more, no_more, count_ends}
use Rattle.lucid_test_programs.proofs.Parts.{nodes_at, applies_at, each_count, each_one, next_all, none_left, undefined_at, op_none, op_some, before_all}
use Rattle.lucid_test_programs.proofs.Calls.{IsCallSmall, calling_small, call_going_is}
use Rattle.lucid_test_programs.proofs.eval.Evaluator.+value.Goals as goal

pub named-value-requires : goal.named-value-requires
named-value-requires t c =
    let small : IsGoingSmall (at_tree c.in-Goes.tree.now (env_of c.in-Goes.env.now) c.in-Goes.time) =
    subst IsGoingSmall (sym c.in-Goes.ensures) (target_small c.args.name.now (env_of c.args.at.now.env.now) c.args.at.now.time c.requires.point.0
    c.requires.point.1) in
    (omega (arith, small.0, c.decreases), (small.0, (small.1, (small.2, small.3, c.requires.point.2))))

pub named-returns-in-Element : goal.named-returns-in-Element
named-returns-in-Element t c =
    rw (
      below_by_going c.args.self.now.streams.now c.args.at.now.limit (name_target c.args.name.now (env_of c.args.at.now.env.now) c.args.at.now.time)
          c.args.at.now.space c.if-at-eq0.false,
      ← c.in-Element.ensures,
    ) c.element.ensures

pub named-returns-in-Goes : goal.named-returns-in-Goes
named-returns-in-Goes t c =
    rw (
      below_by_going c.args.self.now.streams.now c.args.at.now.limit (name_target c.args.name.now (env_of c.args.at.now.env.now) c.args.at.now.time)
          c.args.at.now.space c.if-at-eq0.false,
      ← c.in-Goes.ensures,
    ) c.value.ensures

pub value-returns-in-If : goal.value-returns-in-If
value-returns-in-If t c = rw (← c.tree.view_is, c.in-If.is, ← c.deref.ensures, ← c.deref-in-If.ensures, ← c.deref-in-If-2.ensures) c.choose.ensures

pub value-returns-in-Scope : goal.value-returns-in-Scope
value-returns-in-Scope t c = rw (← c.tree.view_is, c.in-Scope.is, ← c.deref-in-Scope.ensures) c.scoped.ensures

pub value-returns-in-And : goal.value-returns-in-And
value-returns-in-And t c = rw (← c.tree.view_is, c.in-And.is, ← c.deref-in-And.ensures, ← c.deref-in-And-2.ensures) c.both.ensures

pub value-returns-in-Or : goal.value-returns-in-Or
value-returns-in-Or t c = rw (← c.tree.view_is, c.in-Or.is, ← c.deref-in-Or.ensures, ← c.deref-in-Or-2.ensures) c.either.ensures

pub value-returns-in-Attime : goal.value-returns-in-Attime
value-returns-in-Attime t c = rw (← c.tree.view_is, c.in-Attime.is, ← c.deref-in-Attime.ensures, ← c.deref-in-Attime-2.ensures) c.attime.ensures

pub value-returns-in-Atspace : goal.value-returns-in-Atspace
value-returns-in-Atspace t c = rw (← c.tree.view_is, c.in-Atspace.is, ← c.deref-in-Atspace.ensures, ← c.deref-in-Atspace-2.ensures) c.atspace.ensures

pub value-returns-in-Whenever : goal.value-returns-in-Whenever
value-returns-in-Whenever t c = rw (← c.tree.view_is, c.in-Whenever.is, ← c.deref-in-Whenever.ensures, ← c.deref-in-Whenever-2.ensures) c.search.ensures

pub value-returns-in-Asa : goal.value-returns-in-Asa
value-returns-in-Asa t c = rw (← c.tree.view_is, c.in-Asa.is, ← c.deref-in-Asa.ensures, ← c.deref-in-Asa-2.ensures) c.search-in-Asa.ensures

pub search-returns-then-left-eq0 : goal.search-returns-then-left-eq0
search-returns-then-left-eq0 t c =
    let so : found_by c.args.self.now.streams.now c.args.at.now.limit c.args.subject.now c.args.test.now (env_of c.args.at.now.env.now) c.args.at.now.limit 0
    c.args.number c.args.at.now.space ≡ val (elements_of c.args.self.now.streams.now) c.args.at.now.limit c.args.subject.now (env_of c.args.at.now.env.now)
    c.loop-j.j c.args.at.now.space =
    c.loop-j.invariant ∙ met_at c.args.self.now.streams.now c.args.at.now.limit c.args.subject.now c.args.test.now (env_of c.args.at.now.env.now)
    c.args.at.now.space c.loop-j.j c.loop-j.left c.loop-j-test.true (c.in-On.ensures ∙ ap turn_of c.in_ok-value.ensures) c.if-left-eq0.true in
    rw so c.value-then-left-eq0.ensures

pub search-returns-in-Ends : goal.search-returns-in-Ends
search-returns-in-Ends t c =
    sym (c.loop-j.invariant ∙ ends_at c.args.self.now.streams.now c.args.at.now.limit c.args.subject.now c.args.test.now (env_of c.args.at.now.env.now)
    c.args.at.now.space c.loop-j.j c.loop-j.left _ c.loop-j-test.true (c.in-Ends.ensures ∙ ap turn_of c.in_ok-value.ensures))

pub search-loop-j-preserved : goal.search-loop-j-preserved
search-loop-j-preserved t c =
    let later : found_by c.args.self.now.streams.now c.args.at.now.limit c.args.subject.now c.args.test.now (env_of c.args.at.now.env.now)
    (c.args.at.now.limit - c.loop-j.j) c.loop-j.j c.loop-j.left c.args.at.now.space ≡ found_by c.args.self.now.streams.now c.args.at.now.limit
    c.args.subject.now c.args.test.now (env_of c.args.at.now.env.now) (c.args.at.now.limit - (c.loop-j.j + 1)) (c.loop-j.j + 1) c.match-tested.left
    c.args.at.now.space =
    elim c.match-tested.branch [
      | search-in-On+else-left-eq0 w ↦ rw w.left-is (on_at c.args.self.now.streams.now c.args.at.now.limit c.args.subject.now c.args.test.now
          (env_of c.args.at.now.env.now) c.args.at.now.space c.loop-j.j c.loop-j.left c.loop-j-test.true (w.in-On.ensures ∙ ap turn_of c.in_ok-value.ensures)
          w.if-left-eq0.false)
      | search-in-Off w ↦ rw w.left-is (off_at c.args.self.now.streams.now c.args.at.now.limit c.args.subject.now c.args.test.now (env_of c.args.at.now.env.now)
          c.args.at.now.space c.loop-j.j c.loop-j.left c.loop-j-test.true (w.in-Off.ensures ∙ ap turn_of c.in_ok-value.ensures))
    ] in
    c.loop-j.invariant ∙ later

pub value-returns-in-Upon : goal.value-returns-in-Upon
value-returns-in-Upon t c =
    let within : nat_le c.args.at.now.time c.args.at.now.limit ≡ true = grind (arith, nat_tests, c.if-at.true) in
    rw (← c.tree.view_is, c.in-Upon.is, ← c.deref-in-Upon.ensures, ← c.deref-in-Upon-2.ensures, within) c.counted.ensures

pub value-returns-in-Apply : goal.value-returns-in-Apply
value-returns-in-Apply t c = rw (← c.tree.view_is, c.in-Apply.is) c.applied.ensures

pub value-returns-in-Call : goal.value-returns-in-Call
value-returns-in-Call t c = rw (← c.tree.view_is, c.in-Call.is) c.called.ensures

pub counted-returns-in-Ends : goal.counted-returns-in-Ends
counted-returns-in-Ends t c =
    sym (c.loop-time.invariant.same ∙ count_ends c.args.self.now.streams.now c.args.at.now.limit c.args.subject.now c.args.test.now
    (env_of c.args.at.now.env.now) c.args.at.now.space c.args.at.now.time c.loop-time.time c.loop-time.number _ c.loop-time-test.true
    (c.in-Ends.ensures ∙ ap turn_of c.in_ok-value.ensures))

pub counted-loop-time-preserved : goal.counted-loop-time-preserved
counted-loop-time-preserved t c =
    let later : counted_by c.args.self.now.streams.now c.args.at.now.limit c.args.subject.now c.args.test.now (env_of c.args.at.now.env.now) c.args.at.now.time
    (c.args.at.now.time - c.loop-time.time) c.loop-time.time c.loop-time.number c.args.at.now.space ≡ counted_by c.args.self.now.streams.now
    c.args.at.now.limit c.args.subject.now c.args.test.now (env_of c.args.at.now.env.now) c.args.at.now.time (c.args.at.now.time - (c.loop-time.time + 1))
    (c.loop-time.time + 1) c.match-tested.number c.args.at.now.space =
    elim c.match-tested.branch [
      | counted-in-On w ↦ rw w.number-is (one_more c.args.self.now.streams.now c.args.at.now.limit c.args.subject.now c.args.test.now
          (env_of c.args.at.now.env.now) c.args.at.now.space c.args.at.now.time c.loop-time.time c.loop-time.number c.loop-time-test.true
          (w.in-On.ensures ∙ ap turn_of c.in_ok-value.ensures))
      | counted-in-Off w ↦ rw w.number-is (no_more c.args.self.now.streams.now c.args.at.now.limit c.args.subject.now c.args.test.now
          (env_of c.args.at.now.env.now) c.args.at.now.space c.args.at.now.time c.loop-time.time c.loop-time.number c.loop-time-test.true
          (w.in-Off.ensures ∙ ap turn_of c.in_ok-value.ensures))
    ] in
    record {
      same = c.loop-time.invariant.same ∙ later;
      few = elim c.match-tested.branch [
        | counted-in-On w ↦ omega (arith, w.number-is, c.loop-time.invariant.few)
        | counted-in-Off w ↦ omega (arith, w.number-is, c.loop-time.invariant.few)
      ];
    }

pub applied-value-requires : goal.applied-value-requires
applied-value-requires t c =
    let items = c.items-arg-items.result.now in
    let of_items : nodes c.arg-item.result ≤ nodes_in (trees_of items) =
    subst (λ x. nodes x ≤ nodes_in (trees_of items)) (sym c.arg-item.is) (nodes_at items c.loop-arg.arg-index c.arg-item.result c.loop-arg-test.true) in
    let of_args : nodes c.arg-item.result ≤ nodes_in c.args.args.now =
    subst (λ es. nodes c.arg-item.result ≤ nodes_in es) c.items-arg-items.ensures of_items in
    let applied : AllApply (trees_of items) = subst AllApply (sym c.items-arg-items.ensures) c.requires.applies in
    let applies : Applies c.arg-item.result = subst Applies (sym c.arg-item.is)
    (applies_at items c.loop-arg.arg-index c.arg-item.result c.loop-arg-test.true applied) in
    (omega (arith, c.decreases, of_args), (omega (arith, of_args, c.requires.small), (applies, c.requires.point)))

pub applied-loop-arg-preserved : goal.applied-loop-arg-preserved
applied-loop-arg-preserved t c =
    let items = c.items-arg-items.result.now in
    let so_far = map plain c.loop-arg.values.items in
    let rest = each_value c.args.self.now.streams.now c.args.at.now.limit (trees_of (drop (c.loop-arg.arg-index + 1) items)) (env_of c.args.at.now.env.now)
    c.args.at.now.time c.args.at.now.space in
    let this : Some (plain c.in-Some.value) ≡ val (elements_of c.args.self.now.streams.now) c.args.at.now.limit c.arg-item.result (env_of c.args.at.now.env.now)
    c.args.at.now.time c.args.at.now.space =
    ap (option_map plain) (sym c.in-Some.is) ∙ c.in_ok-value.ensures in
    let longer : so_far ++ plain c.in-Some.value ∷ [] ≡ map plain c.push.new.self.items =
    sym (map-append plain c.loop-arg.values.items (c.in-Some.value ∷ [])) ∙ ap (map plain) (sym c.in_ok-push-in-Some.ensures.items) in
    c.loop-arg.invariant
    ∙ ap (before_all so_far) (each_one c.args.self.now.streams.now c.args.at.now.limit (env_of c.args.at.now.env.now) c.args.at.now.time c.args.at.now.space
    items c.loop-arg.arg-index c.arg-item.result c.loop-arg-test.true c.arg-item.is)
    ∙ next_all so_far (plain c.in-Some.value) (val (elements_of c.args.self.now.streams.now) c.args.at.now.limit c.arg-item.result
    (env_of c.args.at.now.env.now) c.args.at.now.time c.args.at.now.space) rest this
    ∙ ap (λ xs. before_all xs rest) longer

pub applied-returns-in-None : goal.applied-returns-in-None
applied-returns-in-None t c =
    let items = c.items-arg-items.result.now in
    let so_far = map plain c.loop-arg.values.items in
    let none : None ≡ val (elements_of c.args.self.now.streams.now) c.args.at.now.limit c.arg-item.result (env_of c.args.at.now.env.now) c.args.at.now.time
    c.args.at.now.space =
    ap (option_map plain) (sym c.in-None.is) ∙ c.in_ok-value.ensures in
    let all : each_value c.args.self.now.streams.now c.args.at.now.limit c.args.args.now (env_of c.args.at.now.env.now) c.args.at.now.time
    c.args.at.now.space ≡ None =
    ap (λ es. each_value c.args.self.now.streams.now c.args.at.now.limit es (env_of c.args.at.now.env.now) c.args.at.now.time c.args.at.now.space)
    (sym c.items-arg-items.ensures)
    ∙ c.loop-arg.invariant
    ∙ undefined_at c.args.self.now.streams.now c.args.at.now.limit (env_of c.args.at.now.env.now) c.args.at.now.time c.args.at.now.space so_far items
    c.loop-arg.arg-index c.arg-item.result c.loop-arg-test.true c.arg-item.is none in
    op_none c.args.self.now.streams.now c.args.at.now.limit (env_of c.args.at.now.env.now) c.args.at.now.time c.args.at.now.space 0 c.args.op c.args.args.now
    (sym all)

pub applied-apply-requires : goal.applied-apply-requires
applied-apply-requires t c =
    let so_far = map plain c.loop-arg.values.items in
    let left = none_left c.args.self.now.streams.now c.args.at.now.limit (env_of c.args.at.now.env.now) c.args.at.now.time c.args.at.now.space so_far
    c.items-arg-items.result.now c.loop-arg.arg-index c.loop-arg-test.false in
    let all : each_value c.args.self.now.streams.now c.args.at.now.limit c.args.args.now (env_of c.args.at.now.env.now) c.args.at.now.time
    c.args.at.now.space ≡ Some so_far =
    ap (λ es. each_value c.args.self.now.streams.now c.args.at.now.limit es (env_of c.args.at.now.env.now) c.args.at.now.time c.args.at.now.space)
    (sym c.items-arg-items.ensures) ∙ c.loop-arg.invariant ∙ left in
    let many : length c.loop-arg.values.items ≡ count c.args.args.now =
    sym (length-map c.loop-arg.values.items plain)
    ∙ each_count c.args.self.now.streams.now c.args.at.now.limit (env_of c.args.at.now.env.now) c.args.at.now.time c.args.at.now.space c.args.args.now
    so_far (sym all) in
    ap length c.deref.ensures.value ∙ many ∙ c.requires.arity

pub applied-returns : goal.applied-returns
applied-returns t c =
    let so_far = map plain c.loop-arg.values.items in
    let left = none_left c.args.self.now.streams.now c.args.at.now.limit (env_of c.args.at.now.env.now) c.args.at.now.time c.args.at.now.space so_far
    c.items-arg-items.result.now c.loop-arg.arg-index c.loop-arg-test.false in
    let all : each_value c.args.self.now.streams.now c.args.at.now.limit c.args.args.now (env_of c.args.at.now.env.now) c.args.at.now.time
    c.args.at.now.space ≡ Some so_far =
    ap (λ es. each_value c.args.self.now.streams.now c.args.at.now.limit es (env_of c.args.at.now.env.now) c.args.at.now.time c.args.at.now.space)
    (sym c.items-arg-items.ensures) ∙ c.loop-arg.invariant ∙ left in
    let made : plain c.in_ok-apply.field-0 ≡ algebra c.args.op so_far =
    c.in_ok-apply.ensures ∙ ap (λ vs. algebra c.args.op (map plain vs)) c.deref.ensures.value in
    ap Some made ∙ op_some c.args.self.now.streams.now c.args.at.now.limit (env_of c.args.at.now.env.now) c.args.at.now.time c.args.at.now.space 0 c.args.op
    c.args.args.now so_far (sym all)

pub called-value-requires : goal.called-value-requires
called-value-requires t c =
    let small : IsCallSmall (calls c.in-Is.names.now c.in-Is.places.now c.in-Is.tree.now (env_of c.in-Is.outer.now)) =
    subst IsCallSmall (sym c.in-Is.ensures) (calling_small c.args.name.now (env_of c.args.at.now.env.now) c.requires.point.0) in (
      omega (arith, small.0, c.decreases),
      (
        small.0,
        (small.1, ((c.requires.small, c.requires.applies, c.requires.point.0, small.2), c.requires.point.1, c.requires.point.2)),
      ),
    )

pub called-returns-in-Is : goal.called-returns-in-Is
called-returns-in-Is t c =
    rw (
      below_by_going c.args.self.now.streams.now c.args.at.now.limit
          (call_target c.args.place c.args.name.now c.args.args.now (env_of c.args.at.now.env.now) (env_of c.args.at.now.env.now) c.args.at.now.time)
          c.args.at.now.space c.if-at-eq0.false,
      (call_going_is c.args.place c.args.name.now c.args.args.now (env_of c.args.at.now.env.now)
          (env_of c.args.at.now.env.now) c.args.at.now.time),
      ← c.in-Is.ensures,
    ) c.value.ensures

pub called-returns-in-Lost : goal.called-returns-in-Lost
called-returns-in-Lost t c =
    rw (
      below_by_going c.args.self.now.streams.now c.args.at.now.limit
          (call_target c.args.place c.args.name.now c.args.args.now (env_of c.args.at.now.env.now) (env_of c.args.at.now.env.now) c.args.at.now.time)
          c.args.at.now.space c.if-at-eq0.false,
      (call_going_is c.args.place c.args.name.now c.args.args.now (env_of c.args.at.now.env.now)
          (env_of c.args.at.now.env.now) c.args.at.now.time),
      ← c.in-Lost.ensures,
    ) refl
