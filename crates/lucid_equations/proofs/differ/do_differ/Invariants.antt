use Rattle.lucid_equations.proofs.Common.{ℕ, List, take, Bor, Decides, contains, In, AllDiffer}
use Rattle.lucid_equations.proofs.Names.{names_cmp}
use Rattle.lucid_equations.proofs.differ.do_differ.Given as goal

-- the earlier names are those before this one, and they differ
abbrev pub invariant-loop-name : goal.invariant-loop-name
invariant-loop-name l = ((key : Bor (List ℕ)) → Decides (contains names_cmp l.earlier key) (In key.now (take l.name-index l.names)))
    × AllDiffer (take l.name-index l.names)
