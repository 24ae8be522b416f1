use Rattle.lucid_demand_steps.proofs.DecidingCommon.{List, ℕ, refl, sym, ap, ◌∙◌, get_or, plain_task}
use Rattle.std.proofs.Common.{◌≡◌}
use Rattle.lucid_equations.specs.Programs.{table_of}
use Rattle.lucid_demand_steps.specs.Taken.{parts_at}
use Rattle.lucid_demand_steps.proofs.FormNodes.{parts_are}
use Rattle.lucid_demand_steps.proofs.decision.Ready.ask.Goals as goal

pub returns : goal.returns
returns c =
    let own : c.as_slice.result.now ≡ parts_at (table_of c.args.program.now) c.args.self.task.node =
    c.as_slice.ensures ∙ c.parts-parts.ensures
    ∙ sym (parts_are (table_of c.args.program.now) c.args.self.task.node c.node.result c.node.ensures.row) in
    record {
      asked = c.at_point.result;
      is = refl;
      moved = λ known.
          c.at_point.ensures.task known
          ∙ ap (λ (is : List ℕ). record (plain_task known c.args.self.task) { node = get_or is c.args.at.part 0; time = c.args.at.time; space = c.args.at.space }) own;
      known_tag = c.at_point.ensures.known;
    }
