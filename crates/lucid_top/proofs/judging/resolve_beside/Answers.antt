use Rattle.lucid_top.proofs.Common.{sym, subst, IfErr-weaker, err_from_is_err_and, most_source_bytes, HasNoFault, scoped_inputs, IsRefusalOf, RefusesNames, RefusesBeside}
use Rattle.lucid_top.proofs.Beside.{free_of, all_stand, names_refused, columns_refused, memory_alone}
use Rattle.lucid_top.proofs.judging.resolve_beside.Goals as goal

pub returns-in_err-scoped-clause-refused : goal.returns-in_err-scoped-clause-refused
returns-in_err-scoped-clause-refused c =
    let p = err_from_is_err_and c.from_residual.result c.from_residual.ensures.1 in
    rw (p.1, p.2) (names_refused c.args.tree c.args.columns.now c.in_err-scoped.field-0.0 c.in_err-scoped.ensures.refused)

pub returns-in_err-new-clause-refused : goal.returns-in_err-new-clause-refused
returns-in_err-new-clause-refused c =
    let p = err_from_is_err_and c.from_residual-in_err-new.result c.from_residual-in_err-new.ensures.1 in
    let inputs = free_of c.args.tree c.in_ok-scoped.scoped c.in_ok-scoped.ensures.tree c.in_ok-scoped.ensures.resolved in
    rw (p.1, p.2) (columns_refused c.args.tree c.args.columns.now (scoped_inputs c.in_ok-scoped.scoped) c.in_err-new.field-0.0 c.in_ok-scoped.ensures.no_fault
    inputs c.in_err-new.ensures.refused)

pub returns-clause-beside : goal.returns-clause-beside
returns-clause-beside c =
    all_stand c.args.tree c.args.columns.now c.in_ok-new.new (scoped_inputs c.in_ok-scoped.scoped) c.resolve_names.result c.in_ok-scoped.ensures.no_fault
    (free_of c.args.tree c.in_ok-scoped.scoped c.in_ok-scoped.ensures.tree c.in_ok-scoped.ensures.resolved) c.in_ok-new.ensures.columns
    c.in_ok-new.ensures.beside c.in_ok-new.ensures.well_made
    c.resolve_names.ensures.tree c.resolve_names.ensures.resolved

pub returns-clause-refused : goal.returns-clause-refused
returns-clause-refused c =
    let none : HasNoFault c.in_ok-new.new = subst HasNoFault (sym c.in_ok-new.ensures.beside)
    (c.columns_have_no_fault.ensures c.args.tree most_source_bytes c.args.columns.now c.in_ok-new.ensures.columns c.in_ok-scoped.ensures.no_fault) in
    IfErr-weaker c.resolve_names.result (IsRefusalOf (RefusesNames c.in_ok-new.new)) (IsRefusalOf (RefusesBeside c.args.tree c.args.columns.now))
    (λ s refused. memory_alone c.args.tree c.args.columns.now c.in_ok-new.new s none refused) c.resolve_names.ensures.refused
