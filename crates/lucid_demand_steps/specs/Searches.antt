-- What a search wants, and what is noted of it.
use Rattle.std.specs.Prelude.{ℕ, Option, Some, None}
use Rattle.lucid_tasks.specs.declared.Cursor.{Cursor}
use Rattle.lucid_equations.specs.declared.rows.Node.{Node}
use Rattle.lucid_equations.specs.declared.rows.Node.TheVariants.{Whenever, Asa, Upon}
use Rattle.lucid_demand_steps.specs.declared.searches.Search.{Search}
use Rattle.lucid_demand_steps.specs.declared.searches.Search.TheVariants.{Find, Count}

-- The search of a form for a time, if the form searches: `whenever` passes as many true values as the time says, `asa` none, and `upon`
-- counts those below the time.
abbrev pub search_for : Node → (time : ℕ) → Option Search
search_for (Whenever left right) t = Some (Find t)
search_for (Asa left right) t = Some (Find 0)
search_for (Upon left right) t = Some (Count t)
search_for _ t = None

-- the pair of a key and a number that is noted where a search stands at a cursor
abbrev pub noted_of : Search → Cursor → ℕ × ℕ
noted_of (Find wanted) c = (c.count, c.time)
noted_of (Count time) c = (c.time, c.count)

-- the greatest key at which a search may begin
abbrev pub greatest_key : Search → ℕ
greatest_key (Find wanted) = wanted
greatest_key (Count time) = time
