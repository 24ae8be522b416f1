use Rattle.lucid_cert.proofs.Common.{List, ℕ, Ok, sym, subst, arith, ◌∙◌, plain, Value, GivesBy, judgments_of, table_in, ReadsElement}
use Rattle.lucid_cert.proofs.Forming.{input_given}
use Rattle.lucid_cert.proofs.Reading.{not_read_for, read_for}
use Rattle.lucid_cert.proofs.Starting.{for_refused, memory_alone}
use Rattle.lucid_cert.proofs.maker.Maker.read.Goals as goal

pub element-requires-clause-stream : goal.element-requires-clause-stream
element-requires-clause-stream g c = omega (arith, c.requires.stream, c.requires.streams)

pub returns-clause-follow : goal.returns-clause-follow
returns-clause-follow g c b may follow =
    let T = table_in c.args.self.now in
    let js = judgments_of c.args.self.now in
    c.in_ok-make.ensures.follow b (subst (λ (us : List ℕ). GivesBy T b c.args.self.now.tags js c.args.spot.at c.args.spot.space us (plain c.in_ok-value.value))
    (sym c.new.ensures.items)
    (input_given T c.args.self.now.tags js c.args.spot.at c.args.spot.space c.args.stream c.requires.row c.requires.meaning c.table.ensures.inputs_differ
    c.requires.stream c.element.new.inputs
    (c.in_ok-value.ensures.reads.reads.count ∙ c.requires.streams) (plain c.in_ok-value.value) c.in_ok-value.ensures.element b may)) follow

pub returns-clause-reads : goal.returns-clause-reads
returns-clause-reads g c =
    read_for c.args.inputs.now c.element.new.inputs c.args.stream c.args.spot.at.time (g.P.Places.world c.args.places.now) (g.P.Places.world c.element.new.places)
    c.in_ok-value.value c.in_ok-value.ensures.reads
    (Ok c.in_ok-make.field-0) tt

pub returns-in_err-value-clause-reads : goal.returns-in_err-value-clause-reads
returns-in_err-value-clause-reads g c =
    for_refused (ReadsElement (Unit {0}) c.args.inputs.now c.element.new.inputs c.args.stream c.args.spot.at.time (g.P.Places.world c.args.places.now)
    (g.P.Places.world c.element.new.places)) c.from_residual.result
    c.in_err-value.field-0.0 c.from_residual.ensures.1
    (not_read_for c.args.inputs.now c.element.new.inputs c.args.stream c.args.spot.at.time (g.P.Places.world c.args.places.now)
    (g.P.Places.world c.element.new.places) c.in_err-value.field-0.0
    (subst (ReadsElement Value c.args.inputs.now c.element.new.inputs c.args.stream c.args.spot.at.time (g.P.Places.world c.args.places.now)
    (g.P.Places.world c.element.new.places)) c.in_err-value.was c.element.ensures.reads))

pub returns-in_err-make-clause-reads : goal.returns-in_err-make-clause-reads
returns-in_err-make-clause-reads g c =
    read_for c.args.inputs.now c.element.new.inputs c.args.stream c.args.spot.at.time (g.P.Places.world c.args.places.now) (g.P.Places.world c.element.new.places)
    c.in_ok-value.value c.in_ok-value.ensures.reads
    c.from_residual-in_err-make.result (memory_alone c.from_residual-in_err-make.result c.from_residual-in_err-make.ensures.1)
