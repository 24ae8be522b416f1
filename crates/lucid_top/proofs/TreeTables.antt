-- The table that was compiled of a tree is the tree's.
use Rattle.lucid_top.proofs.Common.{◌≡◌, ℕ, List, subst, sym, ap, PlainTree, Table, equations_of, IsSound, KeepsTree}
use Rattle.lucid_equations.specs.Rows.{node_at}
use Rattle.lucid_compile.specs.Settled.{table_of as tree_table}
use Rattle.lucid_compile.specs.Meant.{NodesMeanTheirPieces}
use Rattle.lucid_top.specs.Tables.{HasSoundTable}

module _ (p : PlainTree) (inputs : List (List ℕ)) (t : Table) (is : t ≡ tree_table p inputs) where
  pub has_table : IsSound t → KeepsTree (equations_of t) p → NodesMeanTheirPieces p (equations_of t) (node_at t) → HasSoundTable p inputs
  has_table sound keeps means = record {
    sound = subst (λ (u : Table). IsSound u) is sound;
    keeps = subst (λ (u : Table). KeepsTree (equations_of u) p) is keeps;
    means = subst (λ (u : Table). NodesMeanTheirPieces p (equations_of u) (node_at u)) is means;
  }

  pub names_are : t.inputs ≡ inputs
  names_are = ap (λ (u : Table). u.inputs) is

  pub keeps_it : HasSoundTable p inputs → KeepsTree (equations_of t) p
  keeps_it h = subst (λ (u : Table). KeepsTree (equations_of u) p) (sym is) h.keeps
