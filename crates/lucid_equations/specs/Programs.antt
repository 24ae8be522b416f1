-- What callers see of a program.
use Rattle.std.specs.Prelude.{ℕ, length, slice_get}
use Rattle.lucid_equations.specs.Nodes.{Equations}
use Rattle.lucid_equations.specs.declared.table.Table.{Table}
use Rattle.lucid_equations.specs.declared.program.Program.{Program}
use Rattle.lucid_equations.specs.Rows.{actuals_of, equations_of}

-- the table
abbrev pub table_of : Program → Table
table_of p = p.table

-- its equations
abbrev pub program_equations : Program → Equations
program_equations p = equations_of (table_of p)

-- the number of actuals of a call place
abbrev pub count_of_actuals : Program → (place : ℕ) → ℕ
count_of_actuals p q = length (actuals_of (slice_get (table_of p).places q))
