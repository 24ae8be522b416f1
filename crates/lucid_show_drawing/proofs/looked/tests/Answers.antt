use Rattle.std.proofs.Common.{eqb}
use Rattle.std.proofs.lemmas.List.Filters.{dedup_is}
use Rattle.lucid_show_outline.specs.Views.{view_of}
use Rattle.lucid_show_drawing.specs.Looked.{all_tests}
use Rattle.lucid_show_drawing.proofs.Grouped.{once_each}
use Rattle.lucid_show_drawing.proofs.looked.tests.Goals as goal

pub returns : goal.returns
returns c =
    once_each (all_tests (view_of c.args.source.now)) c.in_ok-these.these.items c.sort_unstable.new.self.items c.dedup.new.self.items c.in_ok-these.ensures
    c.sort_unstable.ensures.permutation c.sort_unstable.ensures.sorted
    (dedup_is eqb c.sort_unstable.new.self.items c.dedup.new.self.items c.dedup.ensures.filtered)
