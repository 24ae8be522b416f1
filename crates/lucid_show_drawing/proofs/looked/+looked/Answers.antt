use Rattle.lucid_show_drawing.proofs.Common.{◌++◌, List, sym, ap, ◌∙◌, append-nil, arith, ℕ}
use Rattle.std.proofs.lemmas.Grind.{common_steps}
use Rattle.lucid_show_outline.specs.Views.{view_of}
use Rattle.lucid_show_drawing.proofs.Looking.{none_left, some_left}
use Rattle.lucid_show_drawing.proofs.looked.+looked.Goals as goal

pub add_looked-returns-then-levels-eq0 : goal.add_looked-returns-then-levels-eq0
add_looked-returns-then-levels-eq0 t c =
    sym (ap (λ (z : List ℕ). c.args.to.now.items ++ z) (none_left c.args.levels (view_of c.args.source.now) c.args.number c.if-levels-eq0.true)
    ∙ append-nil c.args.to.now.items)

pub add_looked-returns-else-levels-eq0 : goal.add_looked-returns-else-levels-eq0
add_looked-returns-else-levels-eq0 t c = grind (arith, common_steps, some_left)
