-- A source that is refused as a text is refused.
use Rattle.std.proofs.Common.{ℕ, List, inl}
use Rattle.lucid_report.specs.Refusals.{IsRefusalOf}
use Rattle.lucid_report.specs.declared.stop.Stop.{Stop}
use Rattle.lucid_report.specs.declared.stop.Stop.TheVariants.{Refused, ReadFault, WriteFault, TooDeep, TooLarge, Wrong, NoMemory}
use Rattle.lucid_top.specs.Judged.{RefusesText}
use Rattle.lucid_show_steps.specs.Names.{RefusesSource}

pub text_refused : (source : List ℕ) (s : Stop) → IsRefusalOf (RefusesText source) s → IsRefusalOf (RefusesSource source) s
text_refused source (Refused why) h = inl h
text_refused source ReadFault h = absurd h
text_refused source WriteFault h = absurd h
text_refused source (TooDeep time lost cleared stats) h = absurd h
text_refused source (TooLarge stream name) h = absurd h
text_refused source (Wrong judgment) h = absurd h
text_refused source NoMemory h = tt
