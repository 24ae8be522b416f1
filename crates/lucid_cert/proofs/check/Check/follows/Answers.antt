use Rattle.lucid_cert.proofs.CheckCommon.{get_or, Ok}
use Rattle.lucid_cert.proofs.Following.{no_uses, some_uses, is_form, passes, form_no_input, passes_no_input, no_memory_alone, no_answer, same_check, by_form, by_passing, reads_nothing, by_used_input, used_reads_nothing, by_input, reads_its_input}
use Rattle.lucid_cert.proofs.check.Check.follows.Goals as goal

-- An input, with uses and without.
pub returns-then-not-is_empty-clause-follows : goal.returns-then-not-is_empty-clause-follows
returns-then-not-is_empty-clause-follows g c b m =
    by_used_input c.args.self.now c.args.number c.index-self-number.result c.requires.number c.in-Some.node c.in-Some.context c.in-Some.ensures
    c.in-Input.stream c.in-Input.is
    (some_uses c.items.result.now (get_or c.args.self.now.judgments.now c.args.number c.index-self-number.result).uses c.items.ensures
    c.if-not-is_empty.ensures) b

pub returns-then-not-is_empty-clause-reads : goal.returns-then-not-is_empty-clause-reads
returns-then-not-is_empty-clause-reads g c =
    used_reads_nothing c.args.self.now c.args.number c.index-self-number.result c.requires.number c.in-Some.node c.in-Some.context c.in-Some.ensures
    c.in-Input.stream c.in-Input.is
    (some_uses c.items.result.now (get_or c.args.self.now.judgments.now c.args.number c.index-self-number.result).uses c.items.ensures
    c.if-not-is_empty.ensures) c.args.inputs.now (g.P.Places.world c.args.places.now)

pub returns-else-not-is_empty-clause-follows : goal.returns-else-not-is_empty-clause-follows
returns-else-not-is_empty-clause-follows g c =
    by_input c.args.self.now c.args.number c.index-self-number.result c.requires.number c.in-Some.node c.in-Some.context c.in-Some.ensures c.in-Input.stream
    c.in-Input.is
    (no_uses c.items.result.now (get_or c.args.self.now.judgments.now c.args.number c.index-self-number.result).uses c.items.ensures c.if-not-is_empty.ensures)
    c.requires.sound.names c.args.inputs.now c.is_element.new.inputs c.requires.streams (g.P.Places.world c.args.places.now)
    (g.P.Places.world c.is_element.new.places)
    c.is_element.result c.is_element.ensures.reads c.is_element.ensures.same

pub returns-else-not-is_empty-clause-reads : goal.returns-else-not-is_empty-clause-reads
returns-else-not-is_empty-clause-reads g c =
    reads_its_input c.args.self.now c.args.number c.index-self-number.result c.requires.number c.in-Some.node c.in-Some.context c.in-Some.ensures
    c.in-Input.stream c.in-Input.is
    (no_uses c.items.result.now (get_or c.args.self.now.judgments.now c.args.number c.index-self-number.result).uses c.items.ensures c.if-not-is_empty.ensures)
    c.args.inputs.now c.is_element.new.inputs (g.P.Places.world c.args.places.now) (g.P.Places.world c.is_element.new.places) c.is_element.result
    c.is_element.ensures.reads

-- What passes on.
pub returns-in_ok-passes_on-in-Freeze-clause-follows : goal.returns-in_ok-passes_on-in-Freeze-clause-follows
returns-in_ok-passes_on-in-Freeze-clause-follows g c b m =
    by_passing c.args.self.now c.args.number c.index-self-number.result c.requires.number c.in-Some.node c.in-Some.context c.in-Some.ensures
    (passes c.in-Some.node c.in-Freeze.is) b c.in_ok-passes_on-in-Freeze.field-0
    (c.in_ok-passes_on-in-Freeze.ensures.follows b)

pub returns-in_ok-passes_on-in-Freeze-clause-reads : goal.returns-in_ok-passes_on-in-Freeze-clause-reads
returns-in_ok-passes_on-in-Freeze-clause-reads g c =
    reads_nothing c.args.self.now c.args.number c.index-self-number.result c.requires.number c.in-Some.node c.in-Some.context c.in-Some.ensures
    (passes_no_input c.in-Some.node (passes c.in-Some.node c.in-Freeze.is)) c.args.inputs.now
    (g.P.Places.world c.args.places.now) (Ok c.in_ok-passes_on-in-Freeze.field-0) tt

pub returns-in_err-passes_on-in-Freeze-clause-reads : goal.returns-in_err-passes_on-in-Freeze-clause-reads
returns-in_err-passes_on-in-Freeze-clause-reads g c =
    reads_nothing c.args.self.now c.args.number c.index-self-number.result c.requires.number c.in-Some.node c.in-Some.context c.in-Some.ensures
    (passes_no_input c.in-Some.node (passes c.in-Some.node c.in-Freeze.is)) c.args.inputs.now
    (g.P.Places.world c.args.places.now) c.from_residual.result (no_memory_alone c.from_residual.result c.from_residual.ensures.1)

-- A form.
pub returns-in_ok-is_fed-in_default-node : goal.returns-in_ok-is_fed-in_default-node
returns-in_ok-is_fed-in_default-node g c =
    let form = is_form c.in-Some.node c.in_default-node.not-Input c.in_default-node.not-Freeze c.in_default-node.not-Refer c.in_default-node.not-Call in
    record {
      sound = c.requires.sound;
      same = same_check c.args.self.now;
      follows = λ b m. by_form c.args.self.now c.args.number c.index-self-number.result c.requires.number c.in-Some.node c.in-Some.context c.in-Some.ensures
          form b c.in_ok-is_fed-in_default-node.field-0 c.in_ok-is_fed-in_default-node.ensures;
      reads = reads_nothing c.args.self.now c.args.number c.index-self-number.result c.requires.number c.in-Some.node c.in-Some.context c.in-Some.ensures
          (form_no_input c.in-Some.node form) c.args.inputs.now
          (g.P.Places.world c.args.places.now) (Ok c.in_ok-is_fed-in_default-node.field-0) tt;
    }

pub returns-in_err-is_fed-in_default-node : goal.returns-in_err-is_fed-in_default-node
returns-in_err-is_fed-in_default-node g c =
    let form = is_form c.in-Some.node c.in_default-node.not-Input c.in_default-node.not-Freeze c.in_default-node.not-Refer c.in_default-node.not-Call in
    let r = c.from_residual-in_err-is_fed-in_default-node.result in
    record {
      sound = c.requires.sound;
      same = same_check c.args.self.now;
      follows = no_answer r _ c.from_residual-in_err-is_fed-in_default-node.ensures.1;
      reads = reads_nothing c.args.self.now c.args.number c.index-self-number.result c.requires.number c.in-Some.node c.in-Some.context c.in-Some.ensures
          (form_no_input c.in-Some.node form) c.args.inputs.now
          (g.P.Places.world c.args.places.now) r (no_memory_alone r c.from_residual-in_err-is_fed-in_default-node.ensures.1);
    }
