use Rattle.lucid_demand_steps.proofs.DecidingCommon.{sym, ap, ◌∙◌, same_Some}
use Rattle.std.proofs.Common.{◌≡◌, option_map}
use Rattle.lucid_tags.specs.Known.{space_of}
use Rattle.lucid_demand_steps.proofs.decision.Ready.place.Goals as goal

pub returns-clause-row : goal.returns-clause-row
returns-clause-row c = λ known its there same.
    let here : its.cursor ≡ c.cursor-cursor.result =
    same_Some its.cursor c.cursor-cursor.result (ap (option_map (λ z. z.cursor)) (sym there) ∙ c.cursor-cursor.ensures) in
    λ i. record {
      time = (sym same i).time;
      space = (c.space.ensures.space ∙ ap (λ x. space_of x.tag) (sym same)) i;
      limit = (c.from.ensures ∙ ap (λ x. x.depth) (sym same)) i;
      reached = (sym here i).time;
      count = (sym here i).count;
    }
