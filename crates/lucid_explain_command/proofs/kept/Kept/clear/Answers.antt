use Rattle.std.proofs.Common.{List, ℕ, ap, take, drop}
use Rattle.lucid_explain_command.specs.Keeping.{Store}
use Rattle.lucid_explain_command.proofs.kept.Kept.clear.Goals as goal

abbrev emptied : List ℕ → Store
emptied z = record { taken = take 0 z; shown = drop 0 z; used = 0 }

pub returns : goal.returns
returns c = ap emptied c.clear.ensures.items
