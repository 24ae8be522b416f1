use Rattle.lucid_top.proofs.Common.{map, ◌∙◌, arith, Failed}
use Rattle.lucid_top.proofs.Counting.{none_at_ok}
use Rattle.lucid_top.proofs.Reaching.{keeps_on, kept_on, fresh_after, fresh_more, range_more, named_at, given_before, refused_before}
use Rattle.lucid_top.proofs.NamesAsked.{all_asked, all_reached, one_asked, asked_more, asked_next}
use Rattle.lucid_top.proofs.places.reach_files.Goals as goal

pub returns-in_err-place-clause-asks : goal.returns-in_err-place-clause-asks
returns-in_err-place-clause-asks g c =
    asked_next (map (λ file. file.now) c.args.files.now) c.loop-file.file-index _ (g.P.Places.world c.args.places.now) (g.P.Places.world c.loop-file.places)
    (g.P.Places.world c.reach.new.self) (named_at c.args.files.now c.loop-file.file-index _ c.loop-file-test.true) c.loop-file.invariant.asked
    c.reach.ensures.others

pub returns-in_err-push-clause-asks : goal.returns-in_err-push-clause-asks
returns-in_err-push-clause-asks g c =
    asked_next (map (λ file. file.now) c.args.files.now) c.loop-file.file-index _ (g.P.Places.world c.args.places.now) (g.P.Places.world c.loop-file.places)
    (g.P.Places.world c.reach.new.self) (named_at c.args.files.now c.loop-file.file-index _ c.loop-file-test.true) c.loop-file.invariant.asked
    c.reach.ensures.others

pub returns-clause-asked : goal.returns-clause-asked
returns-clause-asked g c =
    all_reached c.args.files.now c.loop-file.file-index (g.P.Places.world c.args.places.now) (g.P.Places.world c.loop-file.places) c.loop-file-test.false
    c.loop-file.invariant.asked

pub returns-clause-asks : goal.returns-clause-asks
returns-clause-asks g c =
    all_asked (map (λ file. file.now) c.args.files.now) (g.P.Places.world c.args.places.now) (g.P.Places.world c.loop-file.places)
    (all_reached c.args.files.now c.loop-file.file-index (g.P.Places.world c.args.places.now) (g.P.Places.world c.loop-file.places) c.loop-file-test.false
    c.loop-file.invariant.asked)

pub returns-in_err-place-clause-fresh : goal.returns-in_err-place-clause-fresh
returns-in_err-place-clause-fresh g c =
    fresh_after (map (λ file. file.now) c.args.files.now) (g.P.Places.world c.args.places.now) (g.P.Places.world c.loop-file.places)
    (g.P.Places.world c.reach.new.self)
    c.loop-file.invariant.fresh c.reach.ensures.others
    (refused_before c.reach.result c.map_err.result c.in_err-place.field-0.0 _ _ c.map_err.ensures.cases c.in_err-place.was c.reach.ensures.refused)

pub returns-in_err-push-clause-fresh : goal.returns-in_err-push-clause-fresh
returns-in_err-push-clause-fresh g c =
    let given = given_before c.reach.result c.map_err.result c.in_ok-place.place _ c.map_err.ensures.cases c.in_ok-place.was in
    let number = rw given at c.reach.ensures.number in
    let added = rw given at c.reach.ensures.added in
    let fresh = rw given at c.reach.ensures.fresh in
    fresh_more (map (λ file. file.now) c.args.files.now) (g.P.Places.world c.args.places.now) (g.P.Places.world c.loop-file.places)
    (g.P.Places.world c.reach.new.self)
    c.loop-file.file-index _ c.loop-file.invariant.reached (named_at c.args.files.now c.loop-file.file-index _ c.loop-file-test.true)
    c.loop-file.invariant.fresh
    c.loop-file.invariant.keeps c.reach.ensures.others added c.in_ok-place.place number fresh

pub returns-in_err-place-clause-others : goal.returns-in_err-place-clause-others
returns-in_err-place-clause-others g c =
    kept_on (g.P.Places.world c.args.places.now) (g.P.Places.world c.loop-file.places) (g.P.Places.world c.reach.new.self) c.loop-file.invariant.others
    (omega (arith, c.loop-file.invariant.reached)) c.reach.ensures.others

pub returns-in_err-push-clause-others : goal.returns-in_err-push-clause-others
returns-in_err-push-clause-others g c =
    kept_on (g.P.Places.world c.args.places.now) (g.P.Places.world c.loop-file.places) (g.P.Places.world c.reach.new.self) c.loop-file.invariant.others
    (omega (arith, c.loop-file.invariant.reached)) c.reach.ensures.others

pub returns-in_err-place-clause-late : goal.returns-in_err-place-clause-late
returns-in_err-place-clause-late g c good = c.reach.ensures.counts_late.1 (c.loop-file.invariant.no_read_failed ∙ good) ∙ c.loop-file.invariant.late good

pub returns-in_err-push-clause-late : goal.returns-in_err-push-clause-late
returns-in_err-push-clause-late g c good = c.reach.ensures.counts_late.1 (c.loop-file.invariant.no_read_failed ∙ good) ∙ c.loop-file.invariant.late good

pub loop-file-preserved : goal.loop-file-preserved
loop-file-preserved g c =
    let given = given_before c.reach.result c.map_err.result c.in_ok-place.place _ c.map_err.ensures.cases c.in_ok-place.was in
    let number = rw given at c.reach.ensures.number in
    let added = rw given at c.reach.ensures.added in
    let fresh = rw given at c.reach.ensures.fresh in
    let counted = rw given at c.reach.ensures.counts_no_fault in
    let asks = rw given at c.reach.ensures.others in
    record {
      numbers = range_more (g.P.Places.world c.args.places.now).reached c.loop-file.file-index c.in_ok-place.place c.loop-file.numbers.items
          c.push.new.self.items
          c.loop-file.invariant.numbers (omega (arith, number, c.loop-file.invariant.reached)) c.in_ok-push.ensures.items;
      reached = omega (arith, added, c.loop-file.invariant.reached);
      asked = asked_more (map (λ file. file.now) c.args.files.now) c.loop-file.file-index _ (g.P.Places.world c.args.places.now)
          (g.P.Places.world c.loop-file.places) (g.P.Places.world c.reach.new.self)
          (named_at c.args.files.now c.loop-file.file-index _ c.loop-file-test.true) c.loop-file.invariant.asked
          (one_asked _ c.in_ok-place.place (g.P.Places.world c.loop-file.places) (g.P.Places.world c.reach.new.self) asks);
      fresh = fresh_more (map (λ file. file.now) c.args.files.now) (g.P.Places.world c.args.places.now) (g.P.Places.world c.loop-file.places)
          (g.P.Places.world c.reach.new.self)
          c.loop-file.file-index _ c.loop-file.invariant.reached (named_at c.args.files.now c.loop-file.file-index _ c.loop-file-test.true)
          c.loop-file.invariant.fresh
          c.loop-file.invariant.keeps c.reach.ensures.others added c.in_ok-place.place number fresh;
      others = kept_on (g.P.Places.world c.args.places.now) (g.P.Places.world c.loop-file.places) (g.P.Places.world c.reach.new.self)
          c.loop-file.invariant.others
          (omega (arith, c.loop-file.invariant.reached)) c.reach.ensures.others;
      no_read_failed = none_at_ok c.in_ok-place.place Failed (g.P.Places.world c.loop-file.places).faults (g.P.Places.world c.reach.new.self).faults counted
          ∙ c.loop-file.invariant.no_read_failed;
      late = λ good. c.reach.ensures.counts_late.1 (c.loop-file.invariant.no_read_failed ∙ good) ∙ c.loop-file.invariant.late good;
      keeps = keeps_on (g.P.Places.world c.args.places.now) (g.P.Places.world c.loop-file.places) (g.P.Places.world c.reach.new.self)
          c.loop-file.invariant.keeps c.reach.ensures.others;
    }
