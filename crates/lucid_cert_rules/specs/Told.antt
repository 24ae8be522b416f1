-- What a value tells of a look: the step of the form that looked, where no search goes on, and the plan of the step.
use Rattle.std.specs.Prelude.{ℕ}
use Rattle.lucid_tree.specs.declared.form.Form.{Form}
use Rattle.lucid_tree.specs.Rows.{Plan}
use Rattle.lucid_equations.specs.declared.answer.Answer.{Answer}
use Rattle.lucid_equations.specs.declared.step.Place.{Place}
use Rattle.lucid_equations.specs.Steps.{step_after, step_plan}
use Rattle.lucid_cert_rules.specs.declared.rest.Look.{Look}

-- where a form stands that looked so, at its own time and with so many true values before
abbrev pub looked_from : Look → (time count : ℕ) → Place
looked_from l t n = record { time = t; space = l.space; limit = t; reached = l.time; count = n }

-- the same for an approximation
abbrev pub at_limit : (limit : ℕ) → Place → Place
at_limit m p = record p { limit = m }

-- the plan of a form's step by what a value tells
abbrev pub told_plan : Form → Place → Answer → Plan
told_plan f p a = step_plan f p (step_after f p a)

-- where a form stands at a point before it has looked
abbrev pub at_point : (time space : ℕ) → Place
at_point t s = record { time = t; space = s; limit = t; reached = t; count = 0 }
