use Rattle.lucid_cert.proofs.Common.{List, ℕ, Some, refl, sym, ap, ◌∙◌, subst, arith, node_by, Node, PassesOn, IsForming, judgments_of, table_in, element_read, nothing_read, references_of, task_at}
use Rattle.std.proofs.lemmas.Result.{on_ok_weaker}
use Rattle.lucid_equations.specs.Ranges.{NodeNames, sizes}
use Rattle.lucid_cert.proofs.Following.{is_form}
use Rattle.lucid_cert.proofs.Forming.{forming_begins}
use Rattle.lucid_cert.proofs.LookingOn.{has_begun}
use Rattle.lucid_cert.proofs.StayingWanted.{input_refused, stays_refused}
use Rattle.lucid_cert.proofs.maker.Maker.start.Goals as goal

-- An input:
pub read-requires-clause-row : goal.read-requires-clause-row
read-requires-clause-row g c = c.node-node.ensures.row ∙ ap Some c.in-Input-2.is

pub read-requires-clause-meaning : goal.read-requires-clause-meaning
read-requires-clause-meaning g c = c.node-node.ensures.meaning ∙ ap (node_by (table_in c.args.self.now)) c.in-Input-2.is

pub read-requires-clause-stream : goal.read-requires-clause-stream
read-requires-clause-stream g c = subst (λ (n : Node). NodeNames (sizes (table_in c.args.self.now)) n) c.in-Input-2.is c.node-node.ensures.in_range.1

pub returns-in-Input-clause-reads : goal.returns-in-Input-clause-reads
returns-in-Input-clause-reads g c = nothing_read refl refl tt

pub returns-in-Input-2-clause-reads : goal.returns-in-Input-2-clause-reads
returns-in-Input-2-clause-reads g c = element_read c.in-Input-2.stream (c.node-node.ensures.row ∙ ap Some c.in-Input-2.is) (omega arith) c.read.ensures.reads

-- what passes on:
pub wait_on-requires-clause-passes : goal.wait_on-requires-clause-passes
wait_on-requires-clause-passes g c = subst PassesOn (sym c.in-Freeze.is) tt

pub wait_on-requires-clause-references : goal.wait_on-requires-clause-references
wait_on-requires-clause-references g c = sym (ap references_of c.in-Freeze.is)

pub returns-in-Freeze-clause-reads : goal.returns-in-Freeze-clause-reads
returns-in-Freeze-clause-reads g c = nothing_read refl refl c.wait_on.ensures.own

pub returns-in-Refer-clause-reads : goal.returns-in-Refer-clause-reads
returns-in-Refer-clause-reads g c = nothing_read refl refl c.wait_on-in-Refer.ensures.own

-- or a form.
pub begin-rest-requires-clause-form : goal.begin-rest-requires-clause-form
begin-rest-requires-clause-form g c = is_form c.node-node.result c.in_default.not-Input c.in_default.not-Freeze c.in_default.not-Refer c.in_default.not-Call

pub go_on-requires-clause-forming : goal.go_on-requires-clause-forming
go_on-requires-clause-forming g c =
    subst (λ (us : List ℕ). IsForming (table_in c.args.self.now) c.args.self.now.tags (judgments_of c.args.self.now) c.args.spot.at c.args.spot.space us
    c.begin-rest.result) (sym c.new.ensures.items)
    (forming_begins (table_in c.args.self.now) c.args.self.now.tags (judgments_of c.args.self.now) c.args.spot.at c.args.spot.space c.node-node.result
    c.node-node.ensures.row c.node-node.ensures.meaning c.begin-rest.result
    (is_form c.node-node.result c.in_default.not-Input c.in_default.not-Freeze c.in_default.not-Refer c.in_default.not-Call) c.begin-rest.ensures.plan
    c.begin-rest.ensures.stands
    (c.begin-rest.ensures.inside c.requires.may.space_in_range))

pub returns-clause-reads : goal.returns-clause-reads
returns-clause-reads g c = nothing_read refl refl c.go_on.ensures.own

-- What waits stays wanted.
pub returns-in-Input-clause-wanted : goal.returns-in-Input-clause-wanted
returns-in-Input-clause-wanted g c b root range own all =
    input_refused b root c.args.self.now c.args.self.now range c.args.spot.at c.args.spot.space c.args.limit _ (c.node-node.ensures.row ∙ ap Some c.in-Input.is)
    (omega arith) own

pub returns-in-Input-2-clause-wanted : goal.returns-in-Input-2-clause-wanted
returns-in-Input-2-clause-wanted g c b root range own all =
    stays_refused b root c.args.self.now c.read.new.self c.read.result (on_ok_weaker c.read.result (λ h. h b root all) c.read.ensures.wanted)
    c.read.ensures.reads.deep

pub returns-in-Freeze-clause-wanted : goal.returns-in-Freeze-clause-wanted
returns-in-Freeze-clause-wanted g c b root range own all = c.wait_on.ensures.wanted b root range own all

pub returns-in-Refer-clause-wanted : goal.returns-in-Refer-clause-wanted
returns-in-Refer-clause-wanted g c b root range own all = c.wait_on-in-Refer.ensures.wanted b root range own all

pub returns-clause-wanted : goal.returns-clause-wanted
returns-clause-wanted g c b root range own all =
    c.go_on.ensures.wanted b root range own
    (has_begun (table_in c.args.self.now) range b (task_at c.args.self.now.tags c.args.spot.at c.args.spot.space c.args.limit) c.node-node.result c.begin-rest.result
    c.node-node.ensures.row
    (is_form c.node-node.result c.in_default.not-Input c.in_default.not-Freeze c.in_default.not-Refer c.in_default.not-Call) c.begin-rest.ensures.plan
    c.begin-rest.ensures.stands) all
