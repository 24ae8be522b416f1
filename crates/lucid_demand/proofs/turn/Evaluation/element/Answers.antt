use Rattle.lucid_demand.proofs.Common.{ap, refl, plain, fault_of, NoMemory, Evaluating}
use Rattle.lucid_demand.proofs.TakenParts.{err_is}
use Rattle.lucid_demand.proofs.ElementRead.{may_be_read, element_read_in, read_value, no_copy, refused_by}
use Rattle.lucid_demand.proofs.turn.Evaluation.element.Goals as goal

pub element-requires-clause-reached : goal.element-requires-clause-reached
element-requires-clause-reached g c =
    (may_be_read c.self.inside.inputs c.args.self.now.engine.streams c.args.stream (g.P.Places.world c.args.places.now)
    (ap (λ (e : Evaluating). e.engine.streams) c.self.view_is) c.requires.stream
    c.requires.askable).0

pub element-requires-clause-fits : goal.element-requires-clause-fits
element-requires-clause-fits g c =
    (may_be_read c.self.inside.inputs c.args.self.now.engine.streams c.args.stream (g.P.Places.world c.args.places.now)
    (ap (λ (e : Evaluating). e.engine.streams) c.self.view_is) c.requires.stream
    c.requires.askable).1

pub returns-in_err-element-clause-reads : goal.returns-in_err-element-clause-reads
returns-in_err-element-clause-reads g c =
    element_read_in c.args.self.now _ c.self.inside.inputs c.element.follows.lender-at-none c.args.stream c.args.time (g.P.Places.world c.args.places.now)
    (g.P.Places.world c.element.new.places)
    c.element.result c.self.view_is refl refl c.requires.stream c.element.follows.holds-at-none c.element.ensures.too_large c.element.ensures.failed
    c.element.ensures.counts_no_fault _
    (refused_by c.in_err-element.field-0.0 c.in_err-element.was (err_is c.from_residual.result (fault_of c.in_err-element.field-0.0) c.from_residual.ensures.1))

pub returns-in_err-copy-clause-reads : goal.returns-in_err-copy-clause-reads
returns-in_err-copy-clause-reads g c =
    element_read_in c.args.self.now _ c.self.inside.inputs c.element.follows.lender-at-none c.args.stream c.args.time (g.P.Places.world c.args.places.now)
    (g.P.Places.world c.element.new.places)
    c.element.result c.self.view_is refl refl c.requires.stream c.element.follows.holds-at-none c.element.ensures.too_large c.element.ensures.failed
    c.element.ensures.counts_no_fault _
    (no_copy c.in_ok-element.field-0 c.in_ok-element.was (err_is c.from_residual-in_err-copy.result NoMemory c.from_residual-in_err-copy.ensures.1))

pub returns-clause-reads : goal.returns-clause-reads
returns-clause-reads g c =
    element_read_in c.args.self.now _ c.self.inside.inputs c.element.follows.lender-at-none c.args.stream c.args.time (g.P.Places.world c.args.places.now)
    (g.P.Places.world c.element.new.places)
    c.element.result c.self.view_is refl refl c.requires.stream c.element.follows.holds-at-none c.element.ensures.too_large c.element.ensures.failed
    c.element.ensures.counts_no_fault _
    (read_value c.in_ok-element.field-0 c.in_ok-copy.field-0 c.in_ok-element.was refl (ap plain c.in_ok-copy.ensures))
