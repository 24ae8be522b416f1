use Rattle.std.proofs.Common.{ℕ, take, ap, ◌∙◌}
use Rattle.std.proofs.lemmas.List.{take_min}
use Rattle.lucid_explain_source.proofs.definitions.first_of.Goals as goal

pub returns : goal.returns
returns c = ap (λ (n : ℕ). take n c.args.names.now) c.min.ensures ∙ take_min 20 c.args.names.now
