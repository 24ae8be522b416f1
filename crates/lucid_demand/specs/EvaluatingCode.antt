-- An evaluation is stored as its engine's view with its rows.
use Rattle.std.specs.Prelude.{List, Option, refl}
use Rattle.std.specs.Coded.{Coded, code_by, coded×}
use Rattle.lucid_tasks.specs.Rows.{TaskRow}
use Rattle.lucid_tasks.specs.RowsCode.{rows_code}
use Rattle.lucid_demand_steps.specs.Engine.{EngineView}
use Rattle.lucid_demand_steps.specs.EngineCode.{engine_code}
use Rattle.lucid_demand.specs.Evaluating.{Evaluating}

abbrev pub evaluating_code : Coded Evaluating
evaluating_code = code_by (EngineView × List (Option TaskRow)) (coded× engine_code rows_code) (λ e. (e.engine, e.rows)) (λ p. record { engine = p.0; rows = p.1 }) (λ _. refl)
