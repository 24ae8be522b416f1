use Rattle.std.proofs.Common.{rules, tests}
use Rattle.std.proofs.lemmas.Iterator.Search.{any_from_yields_List}
use Rattle.std.proofs.lemmas.Iterator.Splits.{YieldsList-from_slice_split}
use Rattle.lucid_value.specs.Plain.{same_bytes}
use Rattle.lucid_explain_report.specs.Notes.{parts_items}
use Rattle.lucid_explain_report.proofs.notes.has_part.Goals as goal

pub returns : goal.returns
returns c =
    any_from_yields_List (λ part. same_bytes part c.args.word.now) _ _ _ c.any.ensures.ran
    (YieldsList-from_slice_split _ parts_items c.args.list.now c.split.ensures.rest c.split.ensures.done c.split.ensures.closure
    (λ x r q k. search (rules, tests)))
    (λ x b q k. search (rules, tests))
