use Rattle.lucid_demand.proofs.Common.{inr, refl, ◌∙◌}
use Rattle.lucid_demand.proofs.ToldTasks.{key_looks, named_still, found_still, no_value}
use Rattle.lucid_demand.proofs.turn.Evaluation.look.Goals as goal

pub returns-in_err-value : goal.returns-in_err-value
returns-in_err-value g c = record {
  looks = key_looks c.args.self.now c.args.self.now c.copy_held.new.self refl c.args.task c.in-Some.aim c.in-Some.ensures c.copy_held.ensures.touched c.copy_held.ensures.only;
  seen = no_value c.from_residual-in_err-value.result _ _ c.from_residual-in_err-value.ensures.1;
}

pub returns-in-Some-2 : goal.returns-in-Some-2
returns-in-Some-2 g c = record {
  looks = key_looks c.args.self.now c.args.self.now c.copy_held.new.self refl c.args.task c.in-Some.aim c.in-Some.ensures c.copy_held.ensures.touched c.copy_held.ensures.only;
  seen = inr (
    c.in-Some.aim,
    named_still c.args.self.now c.args.self.now c.copy_held.new.self refl c.args.task c.in-Some.aim c.in-Some.ensures c.copy_held.ensures.touched c.copy_held.ensures.only,
    found_still c.args.self.now c.args.self.now c.copy_held.new.self refl c.args.task c.in-Some.aim c.in-Some.ensures c.copy_held.ensures.touched c.copy_held.ensures.only
        c.in_ok-value.field-0 c.in_ok-value.ensures.value ∙ c.in-Some-2.is,
  );
}

pub returns-in-None : goal.returns-in-None
returns-in-None g c = record {
  looks = key_looks c.args.self.now c.args.self.now c.copy_held.new.self refl c.args.task c.in-Some.aim c.in-Some.ensures c.copy_held.ensures.touched c.copy_held.ensures.only;
  seen = (
    named_still c.args.self.now c.args.self.now c.copy_held.new.self refl c.args.task c.in-Some.aim c.in-Some.ensures c.copy_held.ensures.touched c.copy_held.ensures.only,
    found_still c.args.self.now c.args.self.now c.copy_held.new.self refl c.args.task c.in-Some.aim c.in-Some.ensures c.copy_held.ensures.touched c.copy_held.ensures.only
        c.in_ok-value.field-0 c.in_ok-value.ensures.value ∙ c.in-None.is,
  );
}
