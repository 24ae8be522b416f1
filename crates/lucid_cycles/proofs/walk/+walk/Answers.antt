use Rattle.lucid_cycles.proofs.Common.{◌≡◌, length, ap, sym, subst, ◌∙◌, arith, rules, Some, false, pos, to_z-of_z, right_of, nodes, nodes_in, places, places_in, scoped_binding, is_judged, first_delay, later_delay, Fits, marked, own_marks, marks, marks_in, marks_in_defs}
use Rattle.std.proofs.Common.{Ok, Err}
use mir.Syntax.{w64}
use mir.Val.{SFits, to_z, of_z}
use Rattle.lucid_tree.specs.Shape.{head_of}
use Rattle.lucid_cycles.specs.declared.walk.Mark.TheVariants.{Part}
use Rattle.lucid_cycles.specs.Walks.{both}
use Rattle.lucid_cycles.proofs.Small.{fits-here, fits-after, fits-first, fits-later, marks-def, rest-places}
use Rattle.lucid_cycles.proofs.walk.+walk.Goals as goal

pub walk_defs-returns-in_err-read-clause-marks : goal.walk_defs-returns-in_err-read-clause-marks
walk_defs-returns-in_err-read-clause-marks g t c =
    let b = scoped_binding c.args.scoped.now in
    let d = c.in-Some.def.now in
    let R = c.from_residual.result in
    c.loop-def.invariant.2 R c.read.new.self
    (subst (λ m. g.R.Reader.reads c.loop-def.reader m R c.read.new.self) (sym (marks-def b d c.next.new.self c.loop-def.def-iterator c.in-Some.ensures.steps))
    (g.met.R.Reader.goes.stops c.loop-def.reader c.read.new.self (own_marks d.at d.name d.kind)
    (both (marks b (Some d.at) (pos 0) (right_of d.kind)) (marks_in_defs b c.next.new.self)) _ R c.from_residual.ensures.0
    (subst (λ m. g.R.Reader.reads c.loop-def.reader m (Err c.in_err-read.field-0.0) c.read.new.self) c.own_mark.ensures c.in_err-read.ensures)))

pub walk_defs-returns-in_err-walk_tree-clause-marks : goal.walk_defs-returns-in_err-walk_tree-clause-marks
walk_defs-returns-in_err-walk_tree-clause-marks g t c =
    let b = scoped_binding c.args.scoped.now in
    let d = c.in-Some.def.now in
    let R = c.from_residual-in_err-walk_tree.result in
    let N = c.walk_tree.new.reader in
    c.loop-def.invariant.2 R N
    (subst (λ m. g.R.Reader.reads c.loop-def.reader m R N) (sym (marks-def b d c.next.new.self c.loop-def.def-iterator c.in-Some.ensures.steps))
    (g.met.R.Reader.goes.more c.loop-def.reader c.read.new.self N (own_marks d.at d.name d.kind)
    (both (marks b (Some d.at) (pos 0) (right_of d.kind)) (marks_in_defs b c.next.new.self)) R
    (subst (λ m. g.R.Reader.reads c.loop-def.reader m (Ok tt) c.read.new.self) c.own_mark.ensures c.in_ok-read.ensures)
    (g.met.R.Reader.goes.stops c.read.new.self N (marks b (Some d.at) (pos 0) (right_of d.kind)) (marks_in_defs b c.next.new.self) _ R
    c.from_residual-in_err-walk_tree.ensures.0
    (subst (λ e. g.R.Reader.reads c.read.new.self (marks b (Some d.at) (pos 0) e) (Err c.in_err-walk_tree.field-0.0) N) c.right.ensures
    c.in_err-walk_tree.ensures.marks))))

pub walk_defs-loop-def-preserved : goal.walk_defs-loop-def-preserved
walk_defs-loop-def-preserved g t c =
    let b = scoped_binding c.args.scoped.now in
    let d = c.in-Some.def.now in
    let N = c.walk_tree.new.reader in (
      tt,
      tt,
      (λ r u k. c.loop-def.invariant.2 r u
          (subst (λ m. g.R.Reader.reads c.loop-def.reader m r u) (sym (marks-def b d c.next.new.self c.loop-def.def-iterator c.in-Some.ensures.steps))
          (g.met.R.Reader.goes.more c.loop-def.reader c.read.new.self u (own_marks d.at d.name d.kind)
          (both (marks b (Some d.at) (pos 0) (right_of d.kind)) (marks_in_defs b c.next.new.self)) r
          (subst (λ m. g.R.Reader.reads c.loop-def.reader m (Ok tt) c.read.new.self) c.own_mark.ensures c.in_ok-read.ensures)
          (g.met.R.Reader.goes.more c.read.new.self N u (marks b (Some d.at) (pos 0) (right_of d.kind)) (marks_in_defs b c.next.new.self) r
          (subst (λ e. g.R.Reader.reads c.read.new.self (marks b (Some d.at) (pos 0) e) (Ok tt) N) c.right.ensures c.in_ok-walk_tree.ensures.marks) k)))),
      omega (arith, rest-places d c.next.new.self c.loop-def.def-iterator c.in-Some.ensures.steps, c.loop-def.invariant.3),
      search rules,
      search rules,
    )

pub walk_parts-walk_tree-requires : goal.walk_parts-walk_tree-requires
walk_parts-walk_tree-requires g t c κs within =
    let step = ap nodes_in c.in-Some.ensures.steps in
    let all = c.loop-part.invariant.6 in (
      omega (arith, step, all, c.decreases),
      (
        within.0,
        (
          within.1,
          fits-here _ c.in-Some.part.now c.next.new.self
              (subst (λ es. Fits (to_z w64 c.loop-part.delay-bits) (length (places_in es))) c.in-Some.ensures.steps c.loop-part.invariant.3),
        ),
      ),
    )

pub walk_parts-returns-in_err-walk_tree-clause-marks : goal.walk_parts-returns-in_err-walk_tree-clause-marks
walk_parts-returns-in_err-walk_tree-clause-marks g t c =
    let b = scoped_binding c.args.scoped.now in
    let later = to_z w64 (of_z w64 c.args.later) in
    let R = c.from_residual.result in
    let N = c.walk_tree.new.reader in
    subst (λ w. g.R.Reader.reads c.args.reader.now (marks_in b c.args.from w c.args.later c.args.parts) R N) (to_z-of_z w64 c.args.first c.ranges.first)
    (subst (λ w. g.R.Reader.reads c.args.reader.now (marks_in b c.args.from (to_z w64 (of_z w64 c.args.first)) w c.args.parts) R N)
    (to_z-of_z w64 c.args.later c.ranges.later)
    (c.loop-part.invariant.2 R N
    (subst (λ es. g.R.Reader.reads c.loop-part.reader (marks_in b c.args.from (to_z w64 c.loop-part.delay-bits) later es) R N) (sym c.in-Some.ensures.steps)
    (g.met.R.Reader.goes.stops c.loop-part.reader N (marks b c.args.from (to_z w64 c.loop-part.delay-bits) c.in-Some.part.now)
    (marks_in b c.args.from later later c.next.new.self) _ R c.from_residual.ensures.0
    c.in_err-walk_tree.ensures.marks))))

pub walk_parts-loop-part-preserved : goal.walk_parts-loop-part-preserved
walk_parts-loop-part-preserved g t c =
    let b = scoped_binding c.args.scoped.now in
    let later = to_z w64 (of_z w64 c.args.later) in
    let step = ap nodes_in c.in-Some.ensures.steps in
    let all = c.loop-part.invariant.6 in
    let fits = fits-after later c.in-Some.part.now c.next.new.self
    (subst (λ es. Fits later (length (places_in es))) c.in-Some.ensures.steps c.loop-part.invariant.4) in (
      tt,
      tt,
      (λ r u k. c.loop-part.invariant.2 r u
          (subst (λ es. g.R.Reader.reads c.loop-part.reader (marks_in b c.args.from (to_z w64 c.loop-part.delay-bits) later es) r u)
          (sym c.in-Some.ensures.steps)
          (g.met.R.Reader.goes.more c.loop-part.reader c.walk_tree.new.reader u (marks b c.args.from (to_z w64 c.loop-part.delay-bits) c.in-Some.part.now)
          (marks_in b c.args.from later later c.next.new.self) r
          c.in_ok-walk_tree.ensures.marks k))),
      fits,
      fits,
      search rules,
      omega (arith, step, all),
    )

pub walk_parts-returns-clause-marks : goal.walk_parts-returns-clause-marks
walk_parts-returns-clause-marks g t c =
    let b = scoped_binding c.args.scoped.now in
    let later = to_z w64 (of_z w64 c.args.later) in
    let N = c.loop-part.reader in
    subst (λ w. g.R.Reader.reads c.args.reader.now (marks_in b c.args.from w c.args.later c.args.parts) (Ok tt) N) (to_z-of_z w64 c.args.first c.ranges.first)
    (subst (λ w. g.R.Reader.reads c.args.reader.now (marks_in b c.args.from (to_z w64 (of_z w64 c.args.first)) w c.args.parts) (Ok tt) N)
    (to_z-of_z w64 c.args.later c.ranges.later)
    (c.loop-part.invariant.2 (Ok tt) N
    (subst (λ es. g.R.Reader.reads N (marks_in b c.args.from (to_z w64 c.loop-part.delay-bits) later es) (Ok tt) N) (sym c.in-None.ensures.steps.0)
    (g.met.R.Reader.goes.none N))))

pub walk_tree-returns-in_err-read-in-Form-clause-marks : goal.walk_tree-returns-in_err-read-in-Form-clause-marks
walk_tree-returns-in_err-read-in-Form-clause-marks g t c =
    let b = scoped_binding c.args.scoped.now in
    let h = head_of c.in-Form.head in
    let R = c.from_residual.result in
    let N = c.read-in-Form.new.self in
    subst (λ e. g.R.Reader.reads c.args.reader.now (marks b c.args.from c.args.delay e) R N) c.in-Form.ensures.tree
    (g.met.R.Reader.goes.stops c.args.reader.now N (marked (Part c.in-Form.at (is_judged h)))
    (marks_in b c.args.from (first_delay h c.args.delay) (later_delay h c.args.delay) c.in-Form.parts) _ R c.from_residual.ensures.0
    (subst (λ j. g.R.Reader.reads c.args.reader.now (marked (Part c.in-Form.at j)) (Err c.in_err-read-in-Form.field-0.0) N) c.is_judged-judged.ensures
    c.in_err-read-in-Form.ensures))

pub walk_tree-walk_parts-requires : goal.walk_tree-walk_parts-requires
walk_tree-walk_parts-requires g t c κs within =
    let h = head_of c.in-Form.head in
    let n = length (places_in c.in-Form.parts) in
    let same = to_z-of_z w64 c.args.delay c.ranges.delay in
    let first : SFits w64 c.delays-first.result.0 = search rules in
    let later : SFits w64 c.delays-first.result.1 = search rules in
    let fits = subst (λ e. Fits c.args.delay (length (places e))) (sym c.in-Form.ensures.tree) c.requires in (
      omega (arith, ap nodes c.in-Form.ensures.tree, c.decreases),
      (
        within.0,
        (
          within.1,
          (
            subst (λ w. Fits w n) (sym (to_z-of_z w64 c.delays-first.result.0 first ∙ c.delays-first.ensures.first ∙ ap (first_delay h) same))
                (fits-first h c.args.delay n fits),
            subst (λ w. Fits w n) (sym (to_z-of_z w64 c.delays-first.result.1 later ∙ c.delays-first.ensures.later ∙ ap (later_delay h) same))
                (fits-later h c.args.delay n fits),
          ),
        ),
      ),
    )

pub walk_tree-returns-in_err-read-in-Call-clause-marks : goal.walk_tree-returns-in_err-read-in-Call-clause-marks
walk_tree-returns-in_err-read-in-Call-clause-marks g t c =
    let b = scoped_binding c.args.scoped.now in
    let R = c.from_residual-in_err-read-in-Call.result in
    let N = c.read-in-Call.new.self in
    subst (λ e. g.R.Reader.reads c.args.reader.now (marks b c.args.from c.args.delay e) R N) c.in-Call.ensures.tree
    (g.met.R.Reader.goes.stops c.args.reader.now N (marked (Part c.in-Call.at false)) (marks_in b c.args.from c.args.delay c.args.delay c.in-Call.args.now) _ R
    c.from_residual-in_err-read-in-Call.ensures.0
    c.in_err-read-in-Call.ensures)

pub walk_tree-returns-in_err-walk_tree-in-Scope-clause-marks : goal.walk_tree-returns-in_err-walk_tree-in-Scope-clause-marks
walk_tree-returns-in_err-walk_tree-in-Scope-clause-marks g t c =
    let b = scoped_binding c.args.scoped.now in
    let R = c.from_residual-in_err-walk_tree-in-Scope.result in
    let N = c.walk_tree.new.reader in
    subst (λ e. g.R.Reader.reads c.args.reader.now (marks b c.args.from c.args.delay e) R N) c.in-Scope.ensures.tree
    (g.met.R.Reader.goes.stops c.args.reader.now N (marks b c.args.from c.args.delay c.in-Scope.subject.now) (marks_in_defs b c.in-Scope.defs.now) _ R
    c.from_residual-in_err-walk_tree-in-Scope.ensures.0
    (subst (λ w. g.R.Reader.reads c.args.reader.now (marks b c.args.from w c.in-Scope.subject.now) (Err c.in_err-walk_tree-in-Scope.field-0.0) N)
    (to_z-of_z w64 c.args.delay c.ranges.delay) c.in_err-walk_tree-in-Scope.ensures.marks))

pub walk_tree-returns-in_ok-read-in-Form-clause-marks : goal.walk_tree-returns-in_ok-read-in-Form-clause-marks
walk_tree-returns-in_ok-read-in-Form-clause-marks g t c =
    let b = scoped_binding c.args.scoped.now in
    let h = head_of c.in-Form.head in
    let R = c.walk_parts.result in
    let M = c.read-in-Form.new.self in
    let N = c.walk_parts.new.reader in
    let same = to_z-of_z w64 c.args.delay c.ranges.delay in
    let first : SFits w64 c.delays-first.result.0 = search rules in
    let later : SFits w64 c.delays-first.result.1 = search rules in
    subst (λ e. g.R.Reader.reads c.args.reader.now (marks b c.args.from c.args.delay e) R N) c.in-Form.ensures.tree
    (g.met.R.Reader.goes.more c.args.reader.now M N (marked (Part c.in-Form.at (is_judged h)))
    (marks_in b c.args.from (first_delay h c.args.delay) (later_delay h c.args.delay) c.in-Form.parts) R
    (subst (λ j. g.R.Reader.reads c.args.reader.now (marked (Part c.in-Form.at j)) (Ok tt) M) c.is_judged-judged.ensures c.in_ok-read-in-Form.ensures)
    (subst (λ w. g.R.Reader.reads M (marks_in b c.args.from w (later_delay h c.args.delay) c.in-Form.parts) R N)
    (to_z-of_z w64 c.delays-first.result.0 first ∙ c.delays-first.ensures.first ∙ ap (first_delay h) same)
    (subst (λ w. g.R.Reader.reads M (marks_in b c.args.from (to_z w64 (of_z w64 c.delays-first.result.0)) w c.in-Form.parts) R N)
    (to_z-of_z w64 c.delays-first.result.1 later ∙ c.delays-first.ensures.later ∙ ap (later_delay h) same)
    c.walk_parts.ensures.marks)))

pub walk_tree-returns-in_ok-read-in-Call-clause-marks : goal.walk_tree-returns-in_ok-read-in-Call-clause-marks
walk_tree-returns-in_ok-read-in-Call-clause-marks g t c =
    let b = scoped_binding c.args.scoped.now in
    let R = c.walk_parts-in-Call.result in
    let M = c.read-in-Call.new.self in
    let N = c.walk_parts-in-Call.new.reader in
    subst (λ e. g.R.Reader.reads c.args.reader.now (marks b c.args.from c.args.delay e) R N) c.in-Call.ensures.tree
    (g.met.R.Reader.goes.more c.args.reader.now M N (marked (Part c.in-Call.at false)) (marks_in b c.args.from c.args.delay c.args.delay c.in-Call.args.now) R
    c.in_ok-read-in-Call.ensures
    (subst (λ es. g.R.Reader.reads M (marks_in b c.args.from c.args.delay c.args.delay es) R N) c.parts.ensures
    (subst (λ w. g.R.Reader.reads M (marks_in b c.args.from w w c.parts.result) R N) (to_z-of_z w64 c.args.delay c.ranges.delay)
    c.walk_parts-in-Call.ensures.marks)))

pub walk_tree-returns-in_ok-walk_tree-in-Scope-clause-marks : goal.walk_tree-returns-in_ok-walk_tree-in-Scope-clause-marks
walk_tree-returns-in_ok-walk_tree-in-Scope-clause-marks g t c =
    let b = scoped_binding c.args.scoped.now in
    let R = c.walk_defs.result in
    let M = c.walk_tree.new.reader in
    let N = c.walk_defs.new.reader in
    subst (λ e. g.R.Reader.reads c.args.reader.now (marks b c.args.from c.args.delay e) R N) c.in-Scope.ensures.tree
    (g.met.R.Reader.goes.more c.args.reader.now M N (marks b c.args.from c.args.delay c.in-Scope.subject.now) (marks_in_defs b c.in-Scope.defs.now) R
    (subst (λ w. g.R.Reader.reads c.args.reader.now (marks b c.args.from w c.in-Scope.subject.now) (Ok tt) M) (to_z-of_z w64 c.args.delay c.ranges.delay)
    c.in_ok-walk_tree-in-Scope.ensures.marks)
    (subst (λ ds. g.R.Reader.reads M (marks_in_defs b ds) R N) c.definitions.ensures c.walk_defs.ensures.marks))
