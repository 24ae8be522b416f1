use Rattle.lucid_store.proofs.Common.{ap, ◌∙◌, option_map, Value, Key, option_copied}
use Rattle.lucid_store.proofs.Besides.{value_in-beside}
use Rattle.lucid_store.proofs.datons.Datons.value.Goals as goal

pub returns-in_err-value : goal.returns-in_err-value
returns-in_err-value c = rw (← c.self.view_is, value_in-beside c.self.inside.values.entries c.self.inside.ages c.args.index)
    (ap option_copied c.from_residual.ensures ∙ ap (option_map (λ (e : Key × Value). e.1)) c.in_err-value.ensures.entry)

pub returns : goal.returns
returns c = rw (← c.self.view_is, value_in-beside c.self.inside.values.entries c.self.inside.ages c.args.index)
    (ap (option_map (λ (e : Key × Value). e.1)) c.in_ok-value.ensures.entry)
