use Rattle.lucid_cycles.proofs.Common.{refl, rules, scoped_tree, scoped_binding}
use Rattle.lucid_cycles.proofs.Descended.{is-survey}
use Rattle.lucid_cycles.proofs.names.Survey.of.Goals as goal

pub returns : goal.returns
returns c = is-survey (scoped_tree c.args.scoped.now) (scoped_binding c.args.scoped.now) _ c.walk.new.reader c.walk.result refl (search rules) refl
    c.walk.ensures.marks
