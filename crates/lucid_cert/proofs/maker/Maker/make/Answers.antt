use Rattle.lucid_cert.proofs.Common.{List, ℕ, refl, sym, ap, ◌∙◌, map, length, subst, arith, ◌<◌, AllByRecursion, map-append, length-map, plain, PlainJudgment, plain_judgment, GivesBy, judgments_of, table_in, Maker}
use Rattle.lucid_tags.proofs.ListLemmas.{inserted-absent, inserted-present, none_passes}
use Rattle.lucid_cert_rules.proofs.SameCells.{was_there}
use Rattle.lucid_cert.proofs.Going.{follow_more, goes_made, goes_made_before}
use Rattle.lucid_cert.proofs.Starting.{by_parts, placed}
use Rattle.lucid_cert.proofs.maker.Maker.make.Goals as goal

pub returns-then-not-added-clause-goes : goal.returns-then-not-added-clause-goes
returns-then-not-added-clause-goes c =
    let absent = sym c.if-not-added.true ∙ c.in_ok-added.ensures.added in
    goes_made_before c.args.self.now (record c.args.self.now { keys = c.insert.new.self }) refl refl
    (c.in_ok-added.ensures.keys ∙ inserted-present _ _ _ absent) refl c.args.at c.args.space c.key_of.result
    (by_parts c.key_of.result c.args.at c.args.space c.key_of.ensures.node c.key_of.ensures.context c.key_of.ensures.time c.key_of.ensures.space) refl
    c.requires.sound (was_there _ absent)

pub returns-clause-goes : goal.returns-clause-goes
returns-clause-goes c =
    let absent = sym c.if-not-added.false ∙ c.in_ok-added.ensures.added in
    let new : Maker = record c.args.self.now { keys = c.insert.new.self; judgments = c.push.new.self } in
    let j : PlainJudgment = record {
      node = c.args.at.node;
      context = c.number.result;
      time = c.args.at.time;
      space = c.args.space;
      uses = c.from_vec.result;
      value = plain c.args.value;
    } in
    goes_made c.args.self.now new c.args.at c.args.space j c.key_of.result refl refl (c.in_ok-added.ensures.keys ∙ inserted-absent _ _ _ absent)
    (ap (map plain_judgment) c.in_ok-push.ensures.items ∙ map-append plain_judgment c.args.self.now.judgments.items _) refl c.requires.sound c.requires.may
    (placed j c.args.at c.args.space refl c.number.ensures refl refl)
    (by_parts c.key_of.result c.args.at c.args.space c.key_of.ensures.node c.key_of.ensures.context c.key_of.ensures.time c.key_of.ensures.space)
    (none_passes _ absent)
    (omega (arith, length-map c.args.self.now.judgments.items plain_judgment)) (omega (arith, ap length c.from_vec.ensures))
    (subst (λ (us : List ℕ). AllByRecursion (λ u. u < length (judgments_of c.args.self.now)) us) (sym c.from_vec.ensures) c.requires.earlier)

pub returns-clause-follow : goal.returns-clause-follow
returns-clause-follow c b gives follow =
    let new : Maker = record c.args.self.now { keys = c.insert.new.self; judgments = c.push.new.self } in
    let j : PlainJudgment = record {
      node = c.args.at.node;
      context = c.number.result;
      time = c.args.at.time;
      space = c.args.space;
      uses = c.from_vec.result;
      value = plain c.args.value;
    } in
    follow_more c.args.self.now new c.args.at c.args.space j refl refl
    (ap (map plain_judgment) c.in_ok-push.ensures.items ∙ map-append plain_judgment c.args.self.now.judgments.items _) c.requires.may
    (placed j c.args.at c.args.space refl c.number.ensures refl refl) b
    (subst (λ (us : List ℕ). GivesBy (table_in c.args.self.now) b c.args.self.now.tags (judgments_of c.args.self.now) c.args.at c.args.space us
    (plain c.args.value)) (sym c.from_vec.ensures) gives) follow
