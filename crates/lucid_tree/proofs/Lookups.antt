-- A definition of another name is passed by.
use Rattle.lucid_tree.proofs.Common.{◌≡◌, ℕ, List, refl, PlainDefs, definition, same_name, Plain, Function, Current}
use Rattle.std.proofs.Common.{false}
use Rattle.lucid_tree.specs.DefsView.{def_of}
use Rattle.lucid_tree.specs.declared.tree.DefKind.{DefKind}

pub definition_passed : (n : List ℕ) (at : ℕ) (x : List ℕ) (k : DefKind) (ds : PlainDefs) → same_name n x ≡ false
    → definition n (def_of at x k ds) ≡ definition n ds
definition_passed n at x (Plain e) ds h = rw h refl
definition_passed n at x (Function ps ats e) ds h = rw h refl
definition_passed n at x (Current e) ds h = rw h refl
