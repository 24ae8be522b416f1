-- Where what is asked for stands in a grid: in the panel of a context, in a line of that, and at a time.
use Rattle.std.specs.Prelude.{ℕ, zero, suc, ◌-◌, ◌+◌, ◌==◌, List, Option, Some, None, slice_get, if◌then◌else◌}
use Rattle.std.specs.Option.{option_map}
use Rattle.lucid_equations.specs.Rows.{row_at, name_at}
use Rattle.lucid_equations.specs.declared.rows.Node.{Node}
use Rattle.lucid_equations.specs.declared.rows.Node.TheVariants.{Input, Refer, Call}
use Rattle.lucid_equations.specs.declared.rows.Entry.{Entry}
use Rattle.lucid_equations.specs.declared.rows.Entry.TheVariants.{Current}
use Rattle.lucid_cert_rules.specs.Certificates.{PlainJudgment}
use Rattle.lucid_cert_rules.specs.declared.rows.ContextRow.{ContextRow}
use Rattle.lucid_cert_rules.specs.declared.rows.ContextRow.TheVariants as context
use Rattle.lucid_show_drawing.specs.declared.spot.Spot.{Spot}
use Rattle.lucid_show_drawing.specs.declared.spot.Row.TheVariants as line
use Rattle.lucid_show_outline.specs.Views.{View, used}

-- the number of the context that a row adds a frame to, and of the context without the innermost frame; the empty one stays
unfoldable pub base_of : Option ContextRow → ℕ
base_of (Some (context.Call base place caller)) = base
base_of (Some (context.Frozen base time)) = base
base_of None = 0

unfoldable pub base_at : List ContextRow → (number : ℕ) → ℕ
base_at cs n = if n == 0 then 0 else base_of (slice_get cs (n - 1))

-- How many frames a context has, so many at most: no more than its number tells.
abbrev pub frames : (most : ℕ) → List ContextRow → (number : ℕ) → ℕ
frames zero cs n = 0
frames (suc k) cs n = if n == 0 then 0 else frames k cs (base_at cs n) + 1

-- a context without so many of the innermost frames
abbrev pub without : (count : ℕ) → List ContextRow → (number : ℕ) → ℕ
without zero cs n = n
without (suc k) cs n = without k cs (base_at cs n)

-- the context of the outermost frames, so many
unfoldable pub outer : List ContextRow → (level number : ℕ) → ℕ
outer cs l n = without (frames n cs n - l) cs n

-- a current name has one value for all times: 0 stands for them
unfoldable pub time_of : Option Entry → (time : ℕ) → ℕ
time_of (Some (Current body)) t = 0
time_of _ t = t

-- the context that a call enters: that of the judgment with which it goes on
unfoldable pub context_of : Option PlainJudgment → ℕ
context_of (Some j) = j.context
context_of None = 0

-- a test that asks for nothing stands in the panel of its own context, in a line of its node
abbrev pub test_spot : PlainJudgment → Spot
test_spot j = record { context = j.context; row = line.Test j.node j.space; time = j.time }

-- An input stands in the panel of the program, a name in that of the context that it belongs to, a call in that of the context that it enters.
unfoldable pub spot_by : View → PlainJudgment → Node → Spot
spot_by v j (Input k) = record { context = 0; row = line.Input k; time = j.time }
spot_by v j (Refer n l) = record { context = outer v.contexts l j.context; row = line.Name n j.space; time = time_of (name_at v.table n) j.time }
spot_by v j (Call n p l) = record { context = context_of (used v j.uses 0); row = line.Name n j.space; time = j.time }
spot_by v j _ = test_spot j

unfoldable pub spot_of : View → PlainJudgment → Option Node → Spot
spot_of v j (Some n) = spot_by v j n
spot_of v j None = test_spot j

unfoldable pub spot_for : View → PlainJudgment → Spot
spot_for v j = spot_of v j (row_at v.table j.node)

-- where the value stands for which the judgment of a number asks, or the test that it is
unfoldable pub spot_at : View → (number : ℕ) → Option Spot
spot_at v i = option_map (spot_for v) (slice_get v.judgments i)
