use Rattle.lucid_fixed_point.proofs.Chains.{points-within}
use Rattle.lucid_fixed_point.proofs.Monotone.{denotation-grows}
use Rattle.lucid_fixed_point.proofs.laws.denotations_grow.Goals as goal

pub returns : goal.returns
returns g c = λ e.
    let q = g.M.OrderedMeanings.lower in
    let r = g.M.OrderedMeanings.upper in
    denotation-grows e q r (points-within q r g.M.OrderedMeanings.within g.M.OrderedMeanings.monotone)
