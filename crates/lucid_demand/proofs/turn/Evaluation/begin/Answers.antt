use Rattle.lucid_demand.proofs.Common.{[], sym, ◌∙◌, subst, Evaluating, gave, IsTurned}
use Rattle.std.proofs.Common.{◌≡◌}
use Rattle.lucid_demand.proofs.Starting.{root_begins, root_can_be_asked}
use Rattle.lucid_demand.proofs.turn.Evaluation.begin.Goals as goal

pub ask-requires-clause-can : goal.ask-requires-clause-can
ask-requires-clause-can g c =
    root_can_be_asked _ c.drop_values.new.self c.self.view_is c.root.result c.root-2.result c.at_space.result c.args.time c.args.limit c.root.ensures.below
    c.root-2.ensures.known c.at_space.ensures.context

pub returns : goal.returns
returns g c = λ w sound ask.
    root_begins c.args.self.now _ (subst (λ (e : Evaluating). IsTurned c.args.self.now.engine e.engine) (sym c.self.view_is) c.drop_values.ensures.turned)
    (subst (λ (e : Evaluating). e.rows ≡ []) (sym c.self.view_is) (c.drop_values.ensures.rows ∙ c.requires.idle))
    c.root.result c.root-2.result c.at_space.result c.args.time c.args.space c.args.limit c.root.ensures.value c.root-2.ensures.known c.root-2.ensures.context
    c.at_space.ensures.context c.at_space.ensures.space
    w sound ask c.drop_values.new.self (sym c.self.view_is) c.ask.new.self (gave c.ask.result c.ask.new.answer)
    (c.ask.ensures.asks (record { demand = _; world = w }))
