use Rattle.lucid_fixed_point.proofs.Common.{suc, union, IsChainOfMeanings}
use Rattle.lucid_fixed_point.proofs.Chains.{union-near, link-within, points-within}
use Rattle.lucid_fixed_point.proofs.Monotone.{denotation-grows}
use Rattle.lucid_fixed_point.proofs.Continuous.{denotation-near}
use Rattle.lucid_fixed_point.proofs.laws.denotations_are_continuous.Goals as goal

pub returns : goal.returns
returns g c = λ e t s v.
    let q = g.C.ChainOfMeanings.links in
    let each = g.C.ChainOfMeanings.continuous in
    let up : IsChainOfMeanings q = λ k. points-within (q k) (q (suc k)) (g.C.ChainOfMeanings.rising k) (each (suc k)).monotone in
    (denotation-near e q (union q) up (union-near q up each) t s v, (λ d. denotation-grows e (q d.0) (union q) (link-within q up each d.0) t s v d.1))
