use Rattle.lucid_inputs.proofs.Common.{refl, sym, subst, ◌∙◌, AllPairs}
use Rattle.std.specs.Prelude.{◌≢◌}
use Rattle.lucid_inputs.proofs.InputsLemmas.{all_fresh_within, fresh_places}
use Rattle.lucid_inputs.proofs.on_demand.Inputs.make.Goals as goal

pub invariant_of-result : goal.invariant_of-result
invariant_of-result c = record {
  ends = refl;
  apart = subst (AllPairs (λ a b. a ≢ b)) (sym (fresh_places _ _ c.in_ok-make_streams.ensures ∙ c.deref.ensures.value)) c.requires;
  within = all_fresh_within _ _ c.args.most c.in_ok-make_streams.ensures;
}
