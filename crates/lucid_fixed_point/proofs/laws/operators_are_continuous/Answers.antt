use Rattle.lucid_fixed_point.proofs.Common.{union_of}
use Rattle.lucid_fixed_point.proofs.Monotone.{operator-grows}
use Rattle.lucid_fixed_point.proofs.Continuous.{operator-continuous}
use Rattle.lucid_fixed_point.proofs.laws.operators_are_continuous.Goals as goal

pub returns : goal.returns
returns g c = λ f t s v.
    let a = g.C.Chain.links in (
      operator-continuous f a (union_of a) g.C.Chain.rising (λ i t s v d. d) t s v,
      (λ d. operator-grows f (a d.0) (union_of a) (λ i t s v k. (d.0, k)) t s v d.1),
    )
