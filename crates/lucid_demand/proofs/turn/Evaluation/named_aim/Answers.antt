use Rattle.lucid_demand.proofs.NamedBodies.{named_found}
use Rattle.lucid_demand.proofs.turn.Evaluation.named_aim.Goals as goal

pub returns-in-Refer : goal.returns-in-Refer
returns-in-Refer g c =
    named_found _ c.args.self.now c.self.view_is c.args.task c.in-Refer.name c.in-Refer.level c.name_aim.result c.in-Refer.ensures.meaning
    c.name_aim.ensures.aim c.name_aim.ensures.there
