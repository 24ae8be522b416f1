use Rattle.lucid_cert.proofs.Common.{List, ◌-◌, refl, sym, ap, ◌∙◌, subst, length, Context, Table, MayBe, MayJudge, judgments_of, table_in, ReadsFor, nothing_read}
use Rattle.std.proofs.lemmas.Result.{on_ok_weaker}
use Rattle.lucid_cert.proofs.Going.{goes_behind}
use Rattle.lucid_cert.proofs.Starting.{own_memory}
use Rattle.lucid_cert.proofs.Stepping.{judgment_wanted}
use Rattle.lucid_cert.proofs.StayingWanted.{next_stays}
use Rattle.lucid_cert.proofs.maker.Maker.step.Goals as goal

pub number_of-requires-clause-keys : goal.number_of-requires-clause-keys
number_of-requires-clause-keys g c = c.requires.sound.keys_of

pub number_of-requires-clause-space : goal.number_of-requires-clause-space
number_of-requires-clause-space g c = c.wanted-space.ensures.may.space_in_range

pub start-requires-clause-sound : goal.start-requires-clause-sound
start-requires-clause-sound g c = c.in_ok-wait.ensures.goes.sound

pub start-requires-clause-may : goal.start-requires-clause-may
start-requires-clause-may g c =
    subst (λ (known : List Context). MayJudge (table_in c.wait.new.self) known c.wanted-space.result.0 c.wanted-space.result.1) (sym c.wait.ensures.known)
    (subst (λ (T : Table). MayJudge T c.args.self.now.tags c.wanted-space.result.0 c.wanted-space.result.1) (sym c.wait.ensures.table)
    c.wanted-space.ensures.may)

pub start-requires-clause-streams : goal.start-requires-clause-streams
start-requires-clause-streams g c = c.requires.streams ∙ ap (λ (T : Table). length T.inputs) (sym c.wait.ensures.table)

pub uses-requires-clause-it : goal.uses-requires-clause-it
uses-requires-clause-it g c =
    judgment_wanted (table_in c.args.self.now) (judgments_of c.args.self.now) c.args.making c.wanted-space.result.0 c.wanted-space.result.1
    c.wanted-space.result.2 c.in-Some.number c.wanted-space.ensures.wants c.in-Some.ensures.there

-- What it wants begins, behind it.
pub returns-in_default-clause-goes : goal.returns-in_default-clause-goes
returns-in_default-clause-goes g c =
    on_ok_weaker c.start.result
    (goes_behind c.args.self.now c.wait.new.self c.start.new.self c.wanted-space.result.0 c.wanted-space.result.1 c.args.making c.in_ok-wait.ensures.goes.grows
    c.in_ok-wait.ensures.waiting) c.start.ensures.goes

pub returns-in_default-clause-follow : goal.returns-in_default-clause-follow
returns-in_default-clause-follow g c =
    on_ok_weaker c.start.result (λ h b may follow.
    h b (subst (λ (T : Table). MayBe T c.start.new.inputs b) (sym c.wait.ensures.table) may) (c.in_ok-wait.ensures.follow b follow)) c.start.ensures.follow

pub returns-in_default-clause-reads : goal.returns-in_default-clause-reads
returns-in_default-clause-reads g c = record {
  at = c.wanted-space.result.0;
  space = c.wanted-space.result.1;
  references = c.wanted-space.result.2;
  wants = c.wanted-space.ensures.wants;
  reads = subst (λ (T : Table). ReadsFor T c.wanted-space.result.0 (c.args.making.limit - c.wanted-space.result.2) c.args.inputs.now c.start.new.inputs
      (g.P.Places.world c.args.places.now) (g.P.Places.world c.start.new.places) c.start.result) c.wait.ensures.table
      c.start.ensures.reads;
}

pub returns-in_err-wait-clause-reads : goal.returns-in_err-wait-clause-reads
returns-in_err-wait-clause-reads g c = record {
  at = c.wanted-space.result.0;
  space = c.wanted-space.result.1;
  references = c.wanted-space.result.2;
  wants = c.wanted-space.ensures.wants;
  reads = nothing_read refl refl (own_memory c.from_residual.result c.from_residual.ensures.1);
}

-- Or it is used.
pub returns-clause-reads : goal.returns-clause-reads
returns-clause-reads g c = record {
  at = c.wanted-space.result.0;
  space = c.wanted-space.result.1;
  references = c.wanted-space.result.2;
  wants = c.wanted-space.ensures.wants;
  reads = nothing_read refl refl c.uses.ensures.own;
}

pub returns-clause-follow : goal.returns-clause-follow
returns-clause-follow g c = on_ok_weaker c.uses.result (λ h b may follow. h b follow) c.uses.ensures.follow

-- What waits stays wanted.
pub returns-in_default-clause-wanted : goal.returns-in_default-clause-wanted
returns-in_default-clause-wanted g c b root range follow may all =
    next_stays b root c.args.self.now c.wait.new.self c.start.new.self range c.in_ok-wait.ensures.goes.grows c.args.making c.wanted-space.result.0
    c.wanted-space.result.1 c.wanted-space.result.2 c.wanted-space.ensures.may.context.known_tag
    c.requires.waiting c.wanted-space.ensures.wants c.start.result (c.in_ok-wait.ensures.wanted b root) (c.start.ensures.wanted b root) may all

pub returns-clause-wanted : goal.returns-clause-wanted
returns-clause-wanted g c b root range follow may all = c.uses.ensures.wanted b root range follow may all
