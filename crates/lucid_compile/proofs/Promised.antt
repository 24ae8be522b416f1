-- A table that has what each part of the tree needs keeps the tree.
use Rattle.lucid_compile.proofs.Common.{ap, PlainTree, Equations, Numbers, Source, context_for, Compiles, KeepsTree}
use Rattle.lucid_compile.proofs.Same.{eqval-same, visits-same}
use Rattle.lucid_compile.proofs.Evaluated.{environment-one}
use Rattle.lucid_compile.proofs.Numbers.{consults-are, as_many, no_more, no_more_contexts}
use Rattle.lucid_compile.proofs.Held.{held-same}

pub compiled-keeps : (nu : Numbers) (so : Source) (p : Equations) (e : PlainTree) → Compiles nu so p e → KeepsTree p e
compiled-keeps nu so p e c = record {
  numbers = nu;
  values = λ b m t s. eqval-same nu so p e c b m t s;
  consults = λ b m d t s. consults-are nu so p e c b m d t s;
  matches = λ b m d t s. visits-same nu so p e c b m d t s;
  one_for_one = λ x y f g h i q. ((λ r. ap (context_for nu) r), environment-one nu so p e c x y f g h i q);
  as_many = λ b m d points n. (as_many nu so p e c b m d points n, no_more nu so p e c b m d points n);
  no_more = λ b m d points n k. no_more_contexts nu so p e c b m d points n k;
  held = λ b m points held kept h k n t s. held-same nu so p e c b m points held kept h k n t s;
}
