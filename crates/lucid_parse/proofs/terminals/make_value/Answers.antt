-- The bytes read as a value, and as no other.
use Rattle.lucid_parse.proofs.Common.{ap, Err}
use Rattle.lucid_parse.proofs.Texts.{never_none, reading_of}
use Rattle.lucid_parse.proofs.terminals.make_value.Goals as goal

pub unreachable-requires : goal.unreachable-requires
unreachable-requires c = never_none c.args.bytes.now c.requires (c.in-Err-NotValue.ensures.refused (ap Err c.in-Err-NotValue.field-0-is))

pub returns-in-Ok-clause-value : goal.returns-in-Ok-clause-value
returns-in-Ok-clause-value c = reading_of c.args.bytes.now _ c.one_line_reading.ensures c.in-Ok.ensures.read
