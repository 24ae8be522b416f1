-- Which of the judgments that a judgment uses are tests of its search.
use Rattle.std.specs.Prelude.{ℕ, ◌-◌, List, [], length, Option, Some, None}
use Rattle.lucid_equations.specs.Rows.{row_at}
use Rattle.lucid_equations.specs.declared.rows.Node.{Node}
use Rattle.lucid_cert_rules.specs.Certificates.{PlainJudgment}
use Rattle.lucid_show_outline.specs.declared.does.Does.{Does}
use Rattle.lucid_show_outline.specs.declared.does.Does.TheVariants.{Searches}
use Rattle.lucid_show_outline.specs.Equations.{does, is_found, tests_of}
use Rattle.lucid_show_outline.specs.Views.{View, used}

-- all but the last, where that is found; none of what is no search
unfoldable pub tests_by : View → PlainJudgment → Does → List ℕ
tests_by v j (Searches p) = tests_of (is_found p (used v j.uses (length j.uses - 1))) j.uses
tests_by v j _ = []

unfoldable pub tests_for : View → PlainJudgment → Option Node → List ℕ
tests_for v j (Some n) = tests_by v j (does n)
tests_for v j None = []

-- The tests of the search of a judgment, by their numbers.
abbrev pub tests : View → PlainJudgment → List ℕ
tests v j = tests_for v j (row_at v.table j.node)
