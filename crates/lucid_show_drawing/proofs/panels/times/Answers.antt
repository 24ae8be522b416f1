use Rattle.lucid_show_drawing.proofs.Common.{◌≡◌, rules}
use Rattle.std.proofs.Common.{eqb}
use Rattle.std.proofs.lemmas.List.Filters.{dedup_is}
use Rattle.lucid_show_drawing.specs.Panels.{times_of}
use Rattle.lucid_show_drawing.proofs.Grouped.{once_each}
use Rattle.lucid_show_drawing.proofs.panels.times.Goals as goal

pub returns : goal.returns
returns c =
    let all : c.in_ok-times.times.items ≡ times_of c.args.panel.now = search rules in
    once_each (times_of c.args.panel.now) c.in_ok-times.times.items c.sort_unstable.new.self.items c.dedup.new.self.items all c.sort_unstable.ensures.permutation
    c.sort_unstable.ensures.sorted (dedup_is eqb c.sort_unstable.new.self.items c.dedup.new.self.items c.dedup.ensures.filtered)
