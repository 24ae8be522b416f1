use Rattle.lucid_cert.proofs.Common.{sym, ◌∙◌, length, subst, refl, List, ℕ, ◌<◌, judgments_of, table_in}
use Rattle.lucid_cert.proofs.Stepping.{its_passing, its_references, look_may, look_wanted, on_wanted, part_below, part_found}
use Rattle.lucid_cert.proofs.maker.Maker.wanted.Goals as goal

-- a part's number is below their count: of the slice, that is of the node's parts
pub bounds-as_slice-look : goal.bounds-as_slice-look
bounds-as_slice-look c =
    subst (λ (ps : List ℕ). c.in-Look.look.part < length ps) (sym (c.as_slice.ensures ∙ c.parts-parts.ensures))
    (part_below (table_in c.args.self.now) c.args.self.now.tags (judgments_of c.args.self.now) c.args.making.now c.requires c.in-Look.look c.in-Look.is
    c.node.result c.node.ensures.row)

pub returns-in-Position-clause-wants : goal.returns-in-Position-clause-wants
returns-in-Position-clause-wants c =
    on_wanted (table_in c.args.self.now) c.args.self.now.tags (judgments_of c.args.self.now) c.args.making.now c.requires c.in-Position.at
    c.in-Position.references c.in-Position.is

pub returns-in-Position-clause-may : goal.returns-in-Position-clause-may
returns-in-Position-clause-may c =
    (its_passing (table_in c.args.self.now) c.args.self.now.tags (judgments_of c.args.self.now) c.args.making.now c.requires c.in-Position.at
    c.in-Position.references c.in-Position.is).may

pub returns-in-Position-clause-references : goal.returns-in-Position-clause-references
returns-in-Position-clause-references c =
    its_references (table_in c.args.self.now) c.args.self.now.tags (judgments_of c.args.self.now) c.args.making.now c.requires c.in-Position.at
    c.in-Position.references c.in-Position.is

pub returns-in-Look-clause-wants : goal.returns-in-Look-clause-wants
returns-in-Look-clause-wants c =
    look_wanted (table_in c.args.self.now) c.args.self.now.tags (judgments_of c.args.self.now) c.args.making.now c.requires c.in-Look.look c.in-Look.is
    c.node.result c.node.ensures.row _
    (part_found (table_in c.args.self.now) c.args.self.now.tags (judgments_of c.args.self.now) c.args.making.now c.requires c.in-Look.look c.in-Look.is
    c.node.result c.node.ensures.row c.as_slice.result.now
    (c.as_slice.ensures ∙ c.parts-parts.ensures)) refl refl

pub returns-in-Look-clause-may : goal.returns-in-Look-clause-may
returns-in-Look-clause-may c =
    look_may (table_in c.args.self.now) c.args.self.now.tags (judgments_of c.args.self.now) c.args.making.now c.requires c.in-Look.look c.in-Look.is
    c.node.result c.node.ensures.row _ c.node.ensures.in_range.0
    (part_found (table_in c.args.self.now) c.args.self.now.tags (judgments_of c.args.self.now) c.args.making.now c.requires c.in-Look.look c.in-Look.is
    c.node.result c.node.ensures.row c.as_slice.result.now
    (c.as_slice.ensures ∙ c.parts-parts.ensures)) refl refl
