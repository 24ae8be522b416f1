use Rattle.lucid_cert.proofs.CheckCommon.{ap, ◌∙◌, arith, length, refl, Ok, table_of, plain_judgment, Checked, ◌-◌, length-map}
use Rattle.lucid_cert.proofs.CheckGoing.{begins, goes_on, stops, refused_with, is_refused, is_right, is_not_the_root}
use Rattle.lucid_cert.proofs.check.check_why.Goals as goal

pub loop-number-init : goal.loop-number-init
loop-number-init g c =
    begins (table_of c.args.program.now) c.args.why.now c.args.inputs.now (g.P.Places.world c.args.places.now) _ c.items.result.now
    (record { contexts = c.in_ok-contexts.ensures.there; once = c.in_ok-contexts.ensures.once; names = c.table.ensures.inputs_differ }) refl
    c.items-judgments.ensures c.in_ok-contexts.ensures.contexts c.items.ensures
    c.requires.askable

pub returns-in_err-follows : goal.returns-in_err-follows
returns-in_err-follows g c =
    refused_with c.from_residual-in_err-follows.result c.in_err-follows.field-0.0 c.from_residual-in_err-follows.ensures.1
    (Checked (table_of c.args.program.now) c.args.why.now c.args.inputs.now c.follows.new.inputs (g.P.Places.world c.args.places.now)
    (g.P.Places.world c.follows.new.places))
    (is_refused (table_of c.args.program.now) c.args.why.now c.args.inputs.now (g.P.Places.world c.args.places.now) c.loop-number.number c.loop-number.check
    c.loop-number.inputs (g.P.Places.world c.loop-number.places) c.loop-number.invariant c.places_differ.ensures c.follows.new.self c.follows.new.inputs
    (g.P.Places.world c.follows.new.places) c.follows.ensures.sound c.follows.ensures.same c.follows.result c.follows.ensures.follows c.follows.ensures.reads
    (omega (arith, c.loop-number-test.true, ap length c.items-judgments.ensures, length-map c.items-judgments.result.now plain_judgment))
    c.in_err-follows.field-0.0 c.in_err-follows.was)

pub returns-then-not-branch : goal.returns-then-not-branch
returns-then-not-branch g c =
    stops (table_of c.args.program.now) c.args.why.now c.args.inputs.now (g.P.Places.world c.args.places.now) c.loop-number.number c.loop-number.check
    c.loop-number.inputs (g.P.Places.world c.loop-number.places) c.loop-number.invariant c.places_differ.ensures c.follows.new.self c.follows.new.inputs
    (g.P.Places.world c.follows.new.places) c.follows.ensures.sound c.follows.ensures.same c.follows.result c.follows.ensures.follows c.follows.ensures.reads
    (omega (arith, c.loop-number-test.true, ap length c.items-judgments.ensures, length-map c.items-judgments.result.now plain_judgment))
    (c.in_ok-follows.was ∙ ap Ok c.if-not-branch.true)

pub loop-number-preserved : goal.loop-number-preserved
loop-number-preserved g c =
    goes_on (table_of c.args.program.now) c.args.why.now c.args.inputs.now (g.P.Places.world c.args.places.now) c.loop-number.number c.loop-number.check
    c.loop-number.inputs (g.P.Places.world c.loop-number.places) c.loop-number.invariant c.places_differ.ensures c.follows.new.self c.follows.new.inputs
    (g.P.Places.world c.follows.new.places) c.follows.ensures.sound c.follows.ensures.same c.follows.result c.follows.ensures.follows c.follows.ensures.reads
    (c.in_ok-follows.was ∙ ap Ok c.if-not-branch.false)

pub returns-then-is_of_root : goal.returns-then-is_of_root
returns-then-is_of_root g c =
    is_right (table_of c.args.program.now) c.args.why.now c.args.inputs.now (g.P.Places.world c.args.places.now) c.loop-number.number
    (length c.items-judgments.result.now - 1) c.loop-number.check c.loop-number.inputs (g.P.Places.world c.loop-number.places) c.loop-number.invariant
    (omega (
      arith,
      c.loop-number-test.false,
      c.loop-number.auto.number-end,
      ap length c.items-judgments.ensures,
      length-map c.items-judgments.result.now
          plain_judgment,
    ))
    (omega (arith, c.requires.some, ap length c.items-judgments.ensures, length-map c.items-judgments.result.now plain_judgment)) c.is_of_root.result
    c.is_of_root.ensures c.if-is_of_root.true

pub returns : goal.returns
returns g c =
    is_not_the_root (table_of c.args.program.now) c.args.why.now c.args.inputs.now (g.P.Places.world c.args.places.now) c.loop-number.number
    (length c.items-judgments.result.now - 1) c.loop-number.check c.loop-number.inputs (g.P.Places.world c.loop-number.places) c.loop-number.invariant
    (omega (
      arith,
      c.loop-number-test.false,
      c.loop-number.auto.number-end,
      ap length c.items-judgments.ensures,
      length-map c.items-judgments.result.now
          plain_judgment,
    ))
    (omega (arith, c.requires.some, ap length c.items-judgments.ensures, length-map c.items-judgments.result.now plain_judgment)) c.is_of_root.result
    c.is_of_root.ensures c.if-is_of_root.false
