use Rattle.lucid_flat.proofs.Common.{arith}
use Rattle.lucid_flat.proofs.NumberLemmas.{all_32}
use Rattle.lucid_flat.proofs.put.put_numbers.Goals as goal

pub returns-clause-fit : goal.returns-clause-fit
returns-clause-fit c = all_32 _ (λ i l. omega (arith, c.type_inv.numbers i))
