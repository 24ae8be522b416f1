-- Judgments as plain data. That a value is told with the values that it comes of, so that a small checker follows it step by step, is the
-- old way of a certificate; rows, contexts by number and the order of uses are this language's own.
use Rattle.std.specs.Prelude.{ℕ, List, refl}
use Rattle.std.specs.Coded.{Coded, code_by, coded×, coded_ℕ, coded_list}
use Rattle.lucid_value.specs.Plain.{PlainValue}
use Rattle.lucid_value.specs.View.{plain}
use Rattle.lucid_value.specs.Codes.{coded_value}
use Rattle.lucid_cert_rules.specs.declared.rows.JudgmentRow.{JudgmentRow}

-- A judgment: in a context, by its number, a node has a value at a time and a space, because of the judgments that it uses, by theirs.
pub record PlainJudgment : Type 0 where
  pub node : ℕ
  pub context : ℕ
  pub time : ℕ
  pub space : ℕ
  pub uses : List ℕ
  pub value : PlainValue

abbrev pub plain_judgment : JudgmentRow → PlainJudgment
plain_judgment r = record { node = r.node; context = r.context; time = r.time; space = r.space; uses = r.uses; value = plain r.value }

-- how the logic stores a judgment: as its fields
abbrev pub Fields : Type 0
Fields = ℕ × (ℕ × (ℕ × (ℕ × (List ℕ × PlainValue))))

abbrev pub fields : PlainJudgment → Fields
fields j = (j.node, (j.context, (j.time, (j.space, (j.uses, j.value)))))

abbrev pub from_fields : Fields → PlainJudgment
from_fields f = record { node = f.0; context = f.1.0; time = f.1.1.0; space = f.1.1.1.0; uses = f.1.1.1.1.0; value = f.1.1.1.1.1 }

abbrev pub coded_judgment : Coded PlainJudgment
coded_judgment =
    code_by Fields (coded× coded_ℕ (coded× coded_ℕ (coded× coded_ℕ (coded× coded_ℕ (coded× (coded_list coded_ℕ) coded_value))))) fields from_fields (λ j. refl)
