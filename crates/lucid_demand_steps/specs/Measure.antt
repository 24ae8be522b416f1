-- A number that falls at each turn, whatever is dropped and whatever is picked.
use Rattle.std.specs.Prelude.{ℕ, zero, suc, ◌+◌, ◌-◌, ◌*◌, Option, Some, None, sum_by}
use Rattle.lucid_equations.specs.declared.table.Table.{Table}
use Rattle.lucid_demand_steps.specs.Tasks.{PartState, idle, asked, got, PlainRow, PlainRows}
use Rattle.lucid_demand_steps.specs.Parts.{rank}

-- more than a task of a rank below r can still cost, where the demand's limit is this
unfoldable pub cost_below : (limit rank : ℕ) → ℕ
cost_below limit zero = 1
cost_below limit (suc r) = 2 + 3 * cost_below limit r + limit * (3 * cost_below limit r + 1)

abbrev pub idle_one : PartState → ℕ
idle_one idle = 1
idle_one (asked slot) = 0
idle_one (got v) = 0

-- What a row can still cost, without the parts that it waits for. A new row has all parts idle, and costs less than the idle part for which it
-- is asked.
abbrev pub weight : Table → (limit : ℕ) → PlainRow → ℕ
weight T limit r =
    let part = cost_below limit (rank T r.task) in
    1 + sum_by idle_one r.parts * part + (r.task.limit - r.cursor.time) * (3 * part + 1)

abbrev pub weight_at : Table → (limit : ℕ) → Option PlainRow → ℕ
weight_at T limit None = 0
weight_at T limit (Some r) = weight T limit r

-- What the rows in the slots below a number can still cost.
abbrev pub total : Table → (limit : ℕ) → PlainRows → (slots : ℕ) → ℕ
total T limit rows zero = 0
total T limit rows (suc q) = total T limit rows q + weight_at T limit (rows q)
