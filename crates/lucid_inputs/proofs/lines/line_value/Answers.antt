use Rattle.lucid_inputs.proofs.Common.{arith}
use Rattle.lucid_value.specs.Lines.{line_value, line_unread, line_long}
use Rattle.lucid_inputs.proofs.TakeLemmas.{line_value_is}
use Rattle.lucid_inputs.proofs.lines.line_value.Goals as goal

pub returns-then-line-gt-LONGEST_LINE : goal.returns-then-line-gt-LONGEST_LINE
returns-then-line-gt-LONGEST_LINE c = line_value_is c.one_element.ensures _ _ c.requires (line_long (omega arith))

pub returns-in-Ok : goal.returns-in-Ok
returns-in-Ok c = line_value_is c.one_element.ensures _ _ c.requires (line_value (omega arith) c.in-Ok.ensures.read)

pub returns-in-Err-NotValue : goal.returns-in-Err-NotValue
returns-in-Err-NotValue c = line_value_is c.one_element.ensures _ _ c.requires (line_unread (omega arith) (c.read_value.ensures.refused (cc)))
