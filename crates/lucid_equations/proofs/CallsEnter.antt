-- A call enters the context of its daton.
use Rattle.lucid_equations.proofs.Common.{◌++◌, inl, refl, sym, subst, filter_map, In, nothing_held, deeper, context_of, node_walk}
use Rattle.lucid_tree.specs.Levels.{entered_of}
use Rattle.lucid_equations.specs.Laws.{CallsEnterTheirContexts}

pub calls-enter : CallsEnterTheirContexts
calls-enter p b m d n at l c t s k x u h =
    subst (λ a. In k.context (filter_map entered_of (context_of a ++ deeper (node_walk p (nothing_held b)) m d a s))) (sym h) (inl refl)
