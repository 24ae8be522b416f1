-- The code of rows in their slots.
use Rattle.std.specs.Prelude.{◌≡◌, ◌⊎◌, ℕ, List, Option, Some, None, refl}
use mathlib.Core.Logic.{inl, inr}
use Rattle.std.specs.Coded.{Coded, code_by, coded_ℕ, coded×, coded⊎, coded_list, coded_option}
use Rattle.lucid_value.specs.declared.Value.{Value}
use Rattle.lucid_value.specs.contracts.Value as value
use Rattle.lucid_tasks.specs.declared.Task.{Task}
use Rattle.lucid_tasks.specs.declared.Cursor.{Cursor}
use Rattle.lucid_tasks.specs.declared.Part.{Part}
use Rattle.lucid_tags.specs.declared.Key.{Key}
use Rattle.lucid_tasks.specs.contracts.Task as task
use Rattle.lucid_tasks.specs.contracts.Cursor as cursor
use Rattle.lucid_tasks.specs.contracts.Part as part
use Rattle.lucid_tags.specs.contracts.Key as key
use Rattle.lucid_tasks.specs.Rows.{PartState, Idle, Asked, Got, TaskRow}

-- a part as what it is asked or what it has, if either
abbrev part_code : PartState → Option (ℕ ⊎ Value)
part_code Idle = None
part_code (Asked slot) = Some (inl slot)
part_code (Got v) = Some (inr v)

abbrev part_back : Option (ℕ ⊎ Value) → PartState
part_back None = Idle
part_back (Some (inl slot)) = Asked slot
part_back (Some (inr v)) = Got v

pub part_there : (s : PartState) → part_back (part_code s) ≡ s
part_there Idle = refl
part_there (Asked slot) = refl
part_there (Got v) = refl

abbrev pub coded_part : Coded PartState
coded_part = code_by (Option (ℕ ⊎ Value)) (coded_option (coded⊎ coded_ℕ value.the_row.coded)) part_code part_back part_there

-- a row as the tuple of its fields
abbrev pub coded_row : Coded TaskRow
coded_row = code_by (Task × (Option Part × (Cursor × (Option Key × List PartState))))
    (coded× task.the_row.coded (coded× (coded_option part.the_row.coded) (coded× cursor.the_row.coded (coded× (coded_option key.the_row.coded) (coded_list coded_part)))))
    (λ r. (r.task, (r.parent, (r.cursor, (r.key, r.parts)))))
    (λ p. record { task = p.0; parent = p.1.0; cursor = p.1.1.0; key = p.1.1.1.0; parts = p.1.1.1.1 })
    (λ _. refl)

abbrev pub rows_code : Coded (List (Option TaskRow))
rows_code = coded_list (coded_option coded_row)

abbrev pub pool_code : Coded (List (ℕ × Value) × ℕ)
pool_code = coded× (coded_list (coded× coded_ℕ value.the_row.coded)) coded_ℕ
