use Rattle.lucid_demand.proofs.LookingOn.{noted_on}
use Rattle.lucid_demand.proofs.turn.Evaluation.look_on.Goals as goal

pub returns : goal.returns
returns g c = λ i act.
    let on = c.move_cursor.ensures.steps i act in
    noted_on i c.args.self.now c.move_cursor.new.self c.note_on_the_way.new.self c.args.slot on.0 on.1 (c.note_on_the_way.ensures.owns i on.0)
    c.note_on_the_way.ensures.only c.note_on_the_way.ensures.rows
