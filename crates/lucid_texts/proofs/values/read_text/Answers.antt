use Rattle.lucid_texts.proofs.Common.{◌≡◌, Err, ap, ◌∙◌, arith, bytes_eq-Decides}
use Rattle.lucid_value.specs.View.{plain}
use Rattle.lucid_texts.proofs.ValueLemmas.{no_text, same_text}
use Rattle.lucid_texts.proofs.values.read_text.Goals as goal

pub returns-in-Err-NotValue : goal.returns-in-Err-NotValue
returns-in-Err-NotValue c = no_text c.text_is_read.ensures _ (c.read_value.ensures.refused (c.in-Err-NotValue.is ∙ ap Err c.in-Err-NotValue.field-0-is))

pub returns-else-eq : goal.returns-else-eq
returns-else-eq c = λ v h e.
    let k = same_text c.text_is_read.ensures c.one_line_reading.ensures _ (plain c.in-Ok.value) v c.in-Ok.ensures.read h e in
    let t : c.as_slice.result.now ≡ c.args.bytes.now = grind (arith, k) in
    let s = (bytes_eq-Decides c.as_slice.result.now c.args.bytes.now).1 t in
    cc (s, c.if-eq.ensures)
