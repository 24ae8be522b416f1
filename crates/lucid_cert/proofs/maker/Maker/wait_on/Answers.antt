use Rattle.lucid_cert.proofs.Common.{[], refl, sym, ap, ◌∙◌, arith, judgments_of, table_in, going}
use Rattle.lucid_cert.proofs.Forming.{may_still, passing_begins}
use Rattle.lucid_cert.proofs.Going.{follow_known, goes_later, grows_known, sound_known}
use Rattle.lucid_cert.proofs.Starting.{each_below, own_memory}
use Rattle.lucid_cert.proofs.StayingWanted.{nowhere_refused, on_stays}
use Rattle.lucid_cert.proofs.maker.Maker.wait_on.Goals as goal

pub wait-requires-clause-sound : goal.wait-requires-clause-sound
wait-requires-clause-sound c =
    sound_known (table_in c.args.self.now) c.args.self.now.tags c.onward.new.tags c.onward.ensures.keeps c.args.self.now.keys.keys
    (judgments_of c.args.self.now) c.args.self.now.waiting.items c.requires.sound
    (c.onward.ensures.once c.requires.sound.once) (c.in_ok-at.ensures.times c.requires.sound.times c.requires.may.within.time)
    (c.in_ok-at.ensures.places c.requires.sound.places)

pub wait-requires-clause-waiting : goal.wait-requires-clause-waiting
wait-requires-clause-waiting c = record {
  may = may_still (table_in c.args.self.now) c.args.self.now.tags c.onward.new.tags c.onward.ensures.keeps (judgments_of c.args.self.now) [] c.args.making.at
      c.args.making.space c.requires.may;
  waits = (
    passing_begins (table_in c.args.self.now) c.args.self.now.tags c.onward.new.tags c.onward.ensures.keeps c.args.making.at c.args.making.space c.args.node
        c.requires.row c.requires.meaning c.requires.passes
        c.requires.may c.in_ok-at.at c.in-Some.at c.in-Some.is c.in_ok-at.ensures.at c.in_ok-at.ensures.there
        (c.in_ok-at.ensures.within c.requires.sound.times c.requires.may.within.time
        (each_below c.args.making.at.node _ _ (omega (arith, c.requires.may.within.node)) c.requires.in_range.0)) c.args.making.uses.items
        c.requires.no_uses,
    omega arith,
  );
}

pub returns-clause-goes : goal.returns-clause-goes
returns-clause-goes c =
    goes_later c.args.self.now (record c.args.self.now { tags = c.onward.new.tags }) _ c.args.making.at c.args.making.space
    (grows_known (record c.args.self.now { tags = c.onward.new.tags }) (table_in c.args.self.now) c.args.self.now.tags (judgments_of c.args.self.now) refl
    c.onward.ensures.keeps refl) refl c.in_ok-wait.ensures.goes

pub returns-clause-follow : goal.returns-clause-follow
returns-clause-follow c b follow =
    c.in_ok-wait.ensures.follow b (follow_known (table_in c.args.self.now) c.args.self.now.tags c.onward.new.tags c.onward.ensures.keeps
    c.args.self.now.keys.keys (judgments_of c.args.self.now)
    c.args.self.now.waiting.items c.requires.sound b follow)

pub returns-in_err-at-clause-own : goal.returns-in_err-at-clause-own
returns-in_err-at-clause-own c = own_memory c.from_residual.result c.from_residual.ensures.1

pub returns-in_err-wait-clause-own : goal.returns-in_err-wait-clause-own
returns-in_err-wait-clause-own c = own_memory c.from_residual-in_err-wait.result c.from_residual-in_err-wait.ensures.1

pub returns-in_default-clause-wanted : goal.returns-in_default-clause-wanted
returns-in_default-clause-wanted c b root range own all =
    nowhere_refused b root c.args.self.now (record c.args.self.now { tags = c.onward.new.tags }) (record c.args.self.now { tags = c.onward.new.tags })
    c.requires.sound range c.in_ok-at.ensures.keeps refl refl c.args.making
    c.requires.may c.args.node c.requires.row c.requires.passes own (ap (going c.onward.new.tags) (sym c.in_default.is) ∙ c.in_ok-at.ensures.at)

pub returns-clause-wanted : goal.returns-clause-wanted
returns-clause-wanted c b root range own all =
    on_stays b root c.args.self.now (record c.args.self.now { tags = c.onward.new.tags }) c.wait.new.self c.requires.sound range c.in_ok-at.ensures.keeps refl
    refl c.args.making c.requires.may c.args.node c.requires.row
    c.requires.passes own c.in-Some.at c.args.references (ap (going c.onward.new.tags) (sym c.in-Some.is) ∙ c.in_ok-at.ensures.at) c.requires.references
    c.if-references-making.false (c.in_ok-wait.ensures.wanted b root) all
