-- A well-made tree has one list of inputs, also where only some list is known to be.
use Rattle.lucid_top.proofs.Common.{∥∥₁_elim, OneListOfInputs, ℕ_set}
use mathlib.Core.List.{is_set}
use Rattle.lucid_scope.proofs.OneList.{one_list}

pub one_list_of_inputs : OneListOfInputs
one_list_of_inputs e a b w x y =
    ∥∥₁_elim x (is_set (is_set ℕ_set) a b) (λ p. ∥∥₁_elim y (is_set (is_set ℕ_set) a b) (λ q. one_list e a b w p q))
