use Rattle.lucid_fixed_point.proofs.Common.{union_of}
use Rattle.lucid_fixed_point.proofs.Solved.{meanings-are-continuous}
use Rattle.lucid_fixed_point.proofs.laws.functions_are_continuous.Goals as goal

pub returns : goal.returns
returns g c = λ b env n t s v.
    let a = g.C.Chain.links in
    let h = meanings-are-continuous b env in (
      h.continuous n a (union_of a) g.C.Chain.rising (λ i t s v d. d) t s v,
      (λ d. h.monotone n (a d.0) (union_of a) (λ i t s v k. (d.0, k)) t s v d.1),
    )
