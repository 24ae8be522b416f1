use Rattle.std.proofs.Common.{ℕ, take, ap, ◌∙◌}
use Rattle.std.proofs.lemmas.List.{take_min}
use Rattle.lucid_explain_source.proofs.definitions.front_of.Goals as goal

pub returns : goal.returns
returns c = ap (λ (n : ℕ). take n c.args.name.now) c.min.ensures ∙ take_min 160 c.args.name.now
