use Rattle.lucid_cert.proofs.Common.{sym, ◌∙◌, subst, table_of, Table, NoMemory, Made, AsDemanded, IsRoot, table_in, ReadsFor, ReadsNext, StaysWanted}
use Rattle.lucid_cert.proofs.Walking.{begin_refused, its_follow, its_table, refused_with, root_made, streams_there, walk_begins, walk_breaks, walk_ends, walk_on, walk_refused}
use Rattle.lucid_cert.proofs.WalkingWanted.{wanted_begins, wanted_breaks, wanted_ends, wanted_not_begun, wanted_on, wanted_refused}
use Rattle.lucid_cert.proofs.walk.certify.Goals as goal

pub walk-init : goal.walk-init
walk-init g c = (
  walk_begins (table_of c.args.program.now) c.args.inputs.now (g.P.Places.world c.args.places.now) c.root-root.result c.new-maker.result c.start.new.self
      c.start.new.inputs (g.P.Places.world c.start.new.places) c.args.limit
      c.in_ok-start.field-0 c.places_differ.ensures c.new-maker.ensures.table c.new-maker.ensures.judgments c.new-maker.ensures.waiting c.requires.askable
      c.in_ok-start.ensures.goes c.in_ok-start.ensures.follow
      c.in_ok-start.ensures.reads,
  wanted_begins (table_of c.args.program.now) c.table.ensures.in_range c.args.inputs.now (g.P.Places.world c.args.places.now) c.args.limit c.args.time
      c.places_differ.ensures c.requires.streams c.requires.askable
      c.new-maker.result c.root-root.result c.new-maker.ensures.table c.new-maker.ensures.waiting c.root-root.ensures.root c.root-root.ensures.time
      c.root-root.ensures.empty c.start.new.self c.start.new.inputs
      (g.P.Places.world c.start.new.places) c.in_ok-start.field-0 c.in_ok-start.ensures.wanted c.in_ok-start.ensures.reads,
)

pub step-requires-clause-sound : goal.step-requires-clause-sound
step-requires-clause-sound g c = c.in-Some.ensures.leaves.sound

pub step-requires-clause-waiting : goal.step-requires-clause-waiting
step-requires-clause-waiting g c = c.in-Some.ensures.it

pub step-requires-clause-streams : goal.step-requires-clause-streams
step-requires-clause-streams g c =
    streams_there (table_of c.args.program.now) c.args.inputs.now (g.P.Places.world c.args.places.now) c.root-root.result c.walk.maker c.walk.inputs
    (g.P.Places.world c.walk.places) c.walk.invariant.0 c.places_differ.ensures
    c.innermost.new.self c.in-Some.ensures.leaves c.requires.streams

pub step-requires-clause-askable : goal.step-requires-clause-askable
step-requires-clause-askable g c = c.walk.invariant.0.read.askable

pub walk-preserved : goal.walk-preserved
walk-preserved g c = (
  walk_on (table_of c.args.program.now) c.args.inputs.now (g.P.Places.world c.args.places.now) c.root-root.result c.walk.maker c.walk.inputs
      (g.P.Places.world c.walk.places) c.walk.invariant.0 c.places_differ.ensures
      c.innermost.new.self c.in-Some.ensures.leaves c.in-Some.making c.in-Some.ensures.waiting c.step.new.inputs (g.P.Places.world c.step.new.places)
      c.step.new.self c.in_ok-step.field-0 c.in_ok-step.ensures.goes
      c.in_ok-step.ensures.follow c.in_ok-step.ensures.reads,
  wanted_on (table_of c.args.program.now) c.table.ensures.in_range c.args.inputs.now (g.P.Places.world c.args.places.now) c.args.limit c.args.time
      c.places_differ.ensures c.requires.streams c.root-root.result c.walk.maker
      c.walk.inputs (g.P.Places.world c.walk.places) c.walk.invariant.0 c.walk.invariant.1 c.innermost.new.self c.in-Some.ensures.leaves c.in-Some.making
      c.in-Some.ensures.waiting c.in-Some.ensures.it
      (its_follow (table_of c.args.program.now) c.args.inputs.now (g.P.Places.world c.args.places.now) c.root-root.result c.walk.maker c.walk.inputs
      (g.P.Places.world c.walk.places) c.walk.invariant.0
      c.places_differ.ensures c.innermost.new.self c.in-Some.ensures.leaves)
      c.step.new.inputs (g.P.Places.world c.step.new.places) c.step.new.self c.in_ok-step.ensures.wanted c.in_ok-step.ensures.reads,
)

pub returns-clause-made : goal.returns-clause-made
returns-clause-made g c =
    walk_breaks (table_of c.args.program.now) c.args.inputs.now (g.P.Places.world c.args.places.now) c.root-root.result c.walk.maker c.walk.inputs
    (g.P.Places.world c.walk.places) c.args.time c.walk.invariant.0

pub returns-clause-demanded : goal.returns-clause-demanded
returns-clause-demanded g c =
    wanted_breaks (table_of c.args.program.now) c.table.ensures.in_range c.args.inputs.now (g.P.Places.world c.args.places.now) c.args.limit c.args.time
    c.places_differ.ensures c.requires.streams c.root-root.result
    c.walk.maker c.walk.inputs (g.P.Places.world c.walk.places) c.walk.invariant.0 c.walk.invariant.1

-- It is refused to begin,
pub returns-in_err-start-clause-made : goal.returns-in_err-start-clause-made
returns-in_err-start-clause-made g c =
    refused_with c.from_residual.result c.in_err-start.field-0.0 c.from_residual.ensures.1
    (Made (table_of c.args.program.now) c.args.inputs.now c.start.new.inputs (g.P.Places.world c.args.places.now) (g.P.Places.world c.start.new.places)
    c.args.time)
    (begin_refused (table_of c.args.program.now) c.args.inputs.now (g.P.Places.world c.args.places.now) c.root-root.result c.new-maker.result c.start.new.inputs
    (g.P.Places.world c.start.new.places) c.args.limit
    c.args.time c.in_err-start.field-0.0 c.places_differ.ensures c.new-maker.ensures.table c.requires.askable
    (subst (ReadsFor (table_in c.new-maker.result) c.root-root.result c.args.limit c.args.inputs.now c.start.new.inputs (g.P.Places.world c.args.places.now)
    (g.P.Places.world c.start.new.places)) c.in_err-start.was
    c.start.ensures.reads))

pub returns-in_err-start-clause-demanded : goal.returns-in_err-start-clause-demanded
returns-in_err-start-clause-demanded g c =
    refused_with c.from_residual.result c.in_err-start.field-0.0 c.from_residual.ensures.1
    (AsDemanded (table_of c.args.program.now) c.args.inputs.now c.start.new.inputs (g.P.Places.world c.start.new.places) c.args.time c.args.limit)
    (wanted_not_begun (table_of c.args.program.now) c.table.ensures.in_range c.args.inputs.now (g.P.Places.world c.args.places.now) c.args.limit c.args.time
    c.places_differ.ensures c.requires.streams c.requires.askable
    c.new-maker.result c.root-root.result c.new-maker.ensures.table c.new-maker.ensures.waiting c.root-root.ensures.root c.root-root.ensures.time
    c.root-root.ensures.empty c.start.new.self c.start.new.inputs
    (g.P.Places.world c.start.new.places) c.in_err-start.field-0.0
    (λ b x range own all. subst (StaysWanted b x c.new-maker.result c.start.new.self) c.in_err-start.was (c.start.ensures.wanted b x range own all))
    (subst (ReadsFor (table_in c.new-maker.result) c.root-root.result c.args.limit c.args.inputs.now c.start.new.inputs (g.P.Places.world c.args.places.now)
    (g.P.Places.world c.start.new.places)) c.in_err-start.was
    c.start.ensures.reads))

-- or to go on;
pub returns-in_err-step-clause-made : goal.returns-in_err-step-clause-made
returns-in_err-step-clause-made g c =
    refused_with c.from_residual-in_err-step.result c.in_err-step.field-0.0 c.from_residual-in_err-step.ensures.1
    (Made (table_of c.args.program.now) c.args.inputs.now c.step.new.inputs (g.P.Places.world c.args.places.now) (g.P.Places.world c.step.new.places)
    c.args.time)
    (walk_refused (table_of c.args.program.now) c.args.inputs.now (g.P.Places.world c.args.places.now) c.root-root.result c.walk.maker c.walk.inputs
    (g.P.Places.world c.walk.places) c.walk.invariant.0
    c.places_differ.ensures c.innermost.new.self c.in-Some.ensures.leaves c.in-Some.making c.in-Some.ensures.waiting c.step.new.inputs
    (g.P.Places.world c.step.new.places) c.args.time c.in_err-step.field-0.0
    (subst (ReadsNext (table_in c.innermost.new.self) c.in-Some.making c.walk.inputs c.step.new.inputs (g.P.Places.world c.walk.places)
    (g.P.Places.world c.step.new.places)) c.in_err-step.was c.step.ensures.reads))

pub returns-in_err-step-clause-demanded : goal.returns-in_err-step-clause-demanded
returns-in_err-step-clause-demanded g c =
    refused_with c.from_residual-in_err-step.result c.in_err-step.field-0.0 c.from_residual-in_err-step.ensures.1
    (AsDemanded (table_of c.args.program.now) c.args.inputs.now c.step.new.inputs (g.P.Places.world c.step.new.places) c.args.time c.args.limit)
    (wanted_refused (table_of c.args.program.now) c.table.ensures.in_range c.args.inputs.now (g.P.Places.world c.args.places.now) c.args.limit c.args.time
    c.places_differ.ensures c.requires.streams c.root-root.result
    c.walk.maker c.walk.inputs (g.P.Places.world c.walk.places) c.walk.invariant.0 c.walk.invariant.1 c.innermost.new.self c.in-Some.ensures.leaves
    c.in-Some.making c.in-Some.ensures.waiting c.in-Some.ensures.it
    (its_follow (table_of c.args.program.now) c.args.inputs.now (g.P.Places.world c.args.places.now) c.root-root.result c.walk.maker c.walk.inputs
    (g.P.Places.world c.walk.places) c.walk.invariant.0
    c.places_differ.ensures c.innermost.new.self c.in-Some.ensures.leaves)
    c.step.new.inputs (g.P.Places.world c.step.new.places) c.step.new.self c.in_err-step.field-0.0
    (λ b x range follow may all. subst (StaysWanted b x c.innermost.new.self c.step.new.self) c.in_err-step.was
    (c.step.ensures.wanted b x range follow may all))
    (subst (ReadsNext (table_in c.innermost.new.self) c.in-Some.making c.walk.inputs c.step.new.inputs (g.P.Places.world c.walk.places)
    (g.P.Places.world c.step.new.places)) c.in_err-step.was c.step.ensures.reads))

-- or the root is made, and the certificate ends with it.
pub finish-requires-clause-sound : goal.finish-requires-clause-sound
finish-requires-clause-sound g c = c.innermost.ensures.leaves.sound

pub finish-requires-clause-root : goal.finish-requires-clause-root
finish-requires-clause-root g c =
    subst (λ (T : Table). IsRoot T c.root-root.result)
    (c.new-maker.ensures.table ∙ sym (its_table (table_of c.args.program.now) c.args.inputs.now (g.P.Places.world c.args.places.now) c.root-root.result
    c.walk.maker c.walk.inputs (g.P.Places.world c.walk.places)
    c.walk.invariant.0 c.places_differ.ensures c.innermost.new.self c.innermost.ensures.leaves))
    c.root-root.ensures.root

pub finish-requires-clause-made : goal.finish-requires-clause-made
finish-requires-clause-made g c =
    root_made (table_of c.args.program.now) c.args.inputs.now (g.P.Places.world c.args.places.now) c.root-root.result c.walk.maker c.walk.inputs
    (g.P.Places.world c.walk.places) c.walk.invariant.0
    c.places_differ.ensures c.innermost.new.self c.innermost.ensures.leaves c.in_default.ensures.none

pub returns-in_default-clause-made : goal.returns-in_default-clause-made
returns-in_default-clause-made g c =
    walk_ends (table_of c.args.program.now) c.args.inputs.now (g.P.Places.world c.args.places.now) c.root-root.result c.walk.maker c.walk.inputs
    (g.P.Places.world c.walk.places) c.walk.invariant.0
    c.places_differ.ensures c.innermost.new.self c.innermost.ensures.leaves c.args.time c.in_ok-finish.field-0 c.root-root.ensures.time c.in_ok-finish.ensures

pub returns-in_default-clause-demanded : goal.returns-in_default-clause-demanded
returns-in_default-clause-demanded g c =
    wanted_ends (table_of c.args.program.now) c.table.ensures.in_range c.args.inputs.now (g.P.Places.world c.args.places.now) c.args.limit c.args.time
    c.places_differ.ensures c.requires.streams c.root-root.result
    c.walk.maker c.walk.inputs (g.P.Places.world c.walk.places) c.walk.invariant.0 c.walk.invariant.1 c.in_ok-finish.field-0

pub returns-in_err-finish-clause-made : goal.returns-in_err-finish-clause-made
returns-in_err-finish-clause-made g c =
    refused_with c.from_residual-in_err-finish.result NoMemory c.from_residual-in_err-finish.ensures.1
    (Made (table_of c.args.program.now) c.args.inputs.now c.walk.inputs (g.P.Places.world c.args.places.now) (g.P.Places.world c.walk.places) c.args.time)
    (walk_breaks (table_of c.args.program.now) c.args.inputs.now (g.P.Places.world c.args.places.now) c.root-root.result c.walk.maker c.walk.inputs
    (g.P.Places.world c.walk.places) c.args.time c.walk.invariant.0)

pub returns-in_err-finish-clause-demanded : goal.returns-in_err-finish-clause-demanded
returns-in_err-finish-clause-demanded g c =
    refused_with c.from_residual-in_err-finish.result NoMemory c.from_residual-in_err-finish.ensures.1
    (AsDemanded (table_of c.args.program.now) c.args.inputs.now c.walk.inputs (g.P.Places.world c.walk.places) c.args.time c.args.limit)
    (wanted_breaks (table_of c.args.program.now) c.table.ensures.in_range c.args.inputs.now (g.P.Places.world c.args.places.now) c.args.limit c.args.time
    c.places_differ.ensures c.requires.streams c.root-root.result
    c.walk.maker c.walk.inputs (g.P.Places.world c.walk.places) c.walk.invariant.0 c.walk.invariant.1)
