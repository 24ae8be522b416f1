-- What a node names besides its parts.
use Rattle.std.specs.Prelude.{ℕ, ◌<◌}
use Rattle.lucid_equations.specs.declared.rows.Node.{Node}
use Rattle.lucid_equations.specs.declared.rows.Node.TheVariants.{Const, Input, Refer, Call}

-- a node's constant is there
abbrev pub IsKnown : ℕ → Node → Type 0
IsKnown n (Const k) = k < n
IsKnown n _ = Unit {0}

-- a node that names nothing besides its parts and a constant
abbrev pub NamesNothing : Node → Type 0
NamesNothing (Input k) = ⊥
NamesNothing (Refer n l) = ⊥
NamesNothing (Call n q l) = ⊥
NamesNothing _ = Unit {0}
