use Rattle.lucid_top.proofs.Common.{[], ◌∷◌, ◌∙◌, err_from_is_err_and, Failed}
use Rattle.lucid_top.proofs.Reaching.{read_all, read_within, read_kept}
use Rattle.lucid_top.proofs.Counting.{none_at_ok, handed_on, counts_then}
use Rattle.clap.proofs.BuiltLemmas.{on_ok_always}
use Rattle.lucid_top.proofs.NamesAsked.{asked_one, one_asked, asked_still}
use Rattle.lucid_top.proofs.places.read_file.Goals as goal

pub returns-in_err-place-clause-asks : goal.returns-in_err-place-clause-asks
returns-in_err-place-clause-asks g c = asked_one c.args.name.now (g.P.Places.world c.args.places.now) (g.P.Places.world c.reach.new.self) c.reach.ensures.others

pub returns-clause-asks : goal.returns-clause-asks
returns-clause-asks g c =
    asked_still (c.args.name.now ∷ []) (g.P.Places.world c.args.places.now) (g.P.Places.world c.reach.new.self) (g.P.Places.world c.read_at_most.new.places)
    (asked_one c.args.name.now (g.P.Places.world c.args.places.now) (g.P.Places.world c.reach.new.self) c.reach.ensures.others)
    c.read_at_most.ensures.others.asked

pub returns-clause-asked : goal.returns-clause-asked
returns-clause-asked g c =
    on_ok_always c.read_at_most.result (c.read_at_most.ensures.others.asked
    ∙ one_asked c.args.name.now c.in_ok-place.place (g.P.Places.world c.args.places.now) (g.P.Places.world c.reach.new.self) c.in_ok-place.ensures.others)

pub returns-clause-bytes : goal.returns-clause-bytes
returns-clause-bytes g c = read_all c.read_at_most.result (λ bytes. bytes.items) c.args.most _ _ c.in_ok-place.ensures.fresh.contents
    c.read_at_most.ensures.bytes

pub returns-clause-within : goal.returns-clause-within
returns-clause-within g c some =
    read_within c.args.most c.in_ok-place.place (g.P.Places.world c.args.places.now).reached _ (g.P.Places.world c.reach.new.self)
    (g.P.Places.world c.read_at_most.new.places) c.in_ok-place.ensures.number c.in_ok-place.ensures.fresh.contents c.read_at_most.ensures.in_order

pub returns-in_err-place-clause-counts_no_fault : goal.returns-in_err-place-clause-counts_no_fault
returns-in_err-place-clause-counts_no_fault g c =
    let p = err_from_is_err_and c.from_residual.result c.from_residual.ensures.1 in
    rw (p.1) (handed_on c.in_err-place.field-0.0 p.0 Failed (g.P.Places.world c.args.places.now).faults (g.P.Places.world c.reach.new.self).faults p.2
    c.in_err-place.ensures.counts_no_fault)

pub returns-clause-counts_no_fault : goal.returns-clause-counts_no_fault
returns-clause-counts_no_fault g c =
    counts_then (g.P.Places.world c.args.places.now).faults (g.P.Places.world c.reach.new.self).faults (g.P.Places.world c.read_at_most.new.places).faults
    (none_at_ok c.in_ok-place.place Failed (g.P.Places.world c.args.places.now).faults (g.P.Places.world c.reach.new.self).faults
    c.in_ok-place.ensures.counts_no_fault) c.read_at_most.ensures.counts_no_fault

pub returns-in_err-place-clause-late : goal.returns-in_err-place-clause-late
returns-in_err-place-clause-late g c good = c.reach.ensures.counts_late.1 good

pub returns-clause-late : goal.returns-clause-late
returns-clause-late g c good =
    c.read_at_most.ensures.late (none_at_ok c.in_ok-place.place Failed (g.P.Places.world c.args.places.now).faults (g.P.Places.world c.reach.new.self).faults
    c.in_ok-place.ensures.counts_no_fault ∙ good) ∙ c.reach.ensures.counts_late.1 good

pub returns-clause-others : goal.returns-clause-others
returns-clause-others g c =
    read_kept (g.P.Places.world c.args.places.now) (g.P.Places.world c.reach.new.self) (g.P.Places.world c.read_at_most.new.places) c.in_ok-place.place
    c.in_ok-place.ensures.number
    c.reach.ensures.others c.read_at_most.ensures.others
