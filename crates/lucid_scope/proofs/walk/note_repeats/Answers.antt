use Rattle.lucid_scope.proofs.Common.{ap, ◌∙◌, ◌++◌, map, inl, inr, arith, repeats, no_names, mark, is_seen}
use Rattle.lucid_scope.proofs.Noting.{noted-first, noted-all, repeats-next, repeats-end}
use Rattle.lucid_scope.proofs.walk.note_repeats.Goals as goal
use Rattle.lucid_scope.proofs.walk.note_repeats.Goals.{then-loop-i-test+else-i-places, else-loop-i-test}

pub loop-i-preserved : goal.loop-i-preserved
loop-i-preserved c = (
  c.in_ok-note_repeat.ensures.noted.names ∙ c.loop-i.invariant.0,
  noted-first c.loop-i.walk c.note_repeat.new.walk _ _ _ _
      (repeats-next c.items-names.result.now c.items-places.result.now c.loop-i.i c.index-names-i.result (is_seen c.loop-i.seen)
      (is_seen c.note_repeat.new.seen) c.loop-i-test.true c.if-i-places.true c.index-names-i.is c.in_ok-note_repeat.ensures.seen)
      c.in_ok-note_repeat.ensures.noted c.loop-i.invariant.1,
)

pub returns : goal.returns
returns c = record {
  names = c.loop-i.invariant.0;
  marks_are =
      noted-all c.loop-i.walk _ _
      (repeats-end c.items-names.result.now c.items-places.result.now c.loop-i.i (is_seen c.loop-i.seen)
      (elim c.loop-i-test.branch [ then-loop-i-test+else-i-places w ↦ inr (omega arith) | else-loop-i-test w ↦ inl (omega arith) ]))
      c.loop-i.invariant.1
      ∙ ap (λ l. c.args.walk.now.marks.items ++ map mark (repeats no_names l c.items-places.result.now)) c.items-names.ensures
      ∙ ap (λ l. c.args.walk.now.marks.items ++ map mark (repeats no_names c.args.names.now l)) c.items-places.ensures;
}
