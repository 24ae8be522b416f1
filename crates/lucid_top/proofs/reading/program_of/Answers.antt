use Rattle.lucid_top.proofs.Common.{IfErr-weaker, err_from_is_err_and, plain_source, IsProgramStop, RefusesNames, IsRefusalOf, ◌+◌, most_source_bytes}
use Rattle.lucid_top.proofs.Ending.{all_accepted, names_stop, source_stop}
use Rattle.lucid_top.proofs.Doing.{has_read, has_stopped}
use Rattle.lucid_top.proofs.reading.program_of.Goals as goal

pub returns-in_err-tree-clause-stopped : goal.returns-in_err-tree-clause-stopped
returns-in_err-tree-clause-stopped g c =
    let p = err_from_is_err_and c.from_residual.result c.from_residual.ensures.1 in
    rw (p.1, p.2) (source_stop (plain_source c.args.words.now.source) (g.P.Places.world c.args.places.now) (g.P.Places.world c.tree_of.new.places)
    c.in_err-tree.field-0.0 c.in_err-tree.ensures.stopped)

pub returns-clause-accepted : goal.returns-clause-accepted
returns-clause-accepted g c =
    all_accepted (plain_source c.args.words.now.source) (g.P.Places.world c.args.places.now) c.in_ok-tree.tree c.resolve_names.result c.in_ok-tree.ensures.spelt
    c.in_ok-tree.ensures.well_made c.in_ok-tree.ensures.few_nodes c.resolve_names.ensures.tree c.resolve_names.ensures.no_fault

pub returns-clause-stopped : goal.returns-clause-stopped
returns-clause-stopped g c =
    IfErr-weaker c.resolve_names.result (IsRefusalOf (RefusesNames c.in_ok-tree.tree))
    (IsProgramStop (plain_source c.args.words.now.source) (g.P.Places.world c.args.places.now) (g.P.Places.world c.tree_of.new.places))
    (λ s refused. names_stop (plain_source c.args.words.now.source) (g.P.Places.world c.args.places.now) (g.P.Places.world c.tree_of.new.places)
    c.in_ok-tree.tree s
    c.in_ok-tree.ensures.spelt c.in_ok-tree.ensures.well_made refused)
    c.resolve_names.ensures.refused

pub returns-in_err-tree-clause-reading : goal.returns-in_err-tree-clause-reading
returns-in_err-tree-clause-reading g c =
    let p = err_from_is_err_and c.from_residual.result c.from_residual.ensures.1 in
    rw (p.1, p.2) (has_stopped c.in_err-tree.field-0.0 (most_source_bytes + 1) (plain_source c.args.words.now.source) (g.P.Places.world c.args.places.now)
    (g.P.Places.world c.tree_of.new.places) c.in_err-tree.ensures.reading)

pub returns-clause-reading : goal.returns-clause-reading
returns-clause-reading g c = has_read c.in_ok-tree.tree (most_source_bytes + 1) (plain_source c.args.words.now.source) (g.P.Places.world c.args.places.now)
    (g.P.Places.world c.tree_of.new.places) c.resolve_names.result c.in_ok-tree.ensures.reading
