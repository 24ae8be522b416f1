use Rattle.lucid_top.proofs.Common.{subst, slice_get_within, IsFirstMissing}
use Rattle.lucid_columns.specs.Columns.{RefusesColumns}
use Rattle.lucid_top.proofs.NoColumn.{missing_stops}
use Rattle.lucid_top.proofs.columns.columns_beside.Goals as goal

-- the number of the first that is none is within the names
pub no_column-requires : goal.no_column-requires
no_column-requires c =
    let first : IsFirstMissing c.args.tree c.args.columns.now c.in-Err-NoColumn.index =
    subst (RefusesColumns c.args.tree c.args.columns.now) c.in-Err-NoColumn.field-0-is c.in-Err-NoColumn.ensures.refused in
    slice_get_within c.args.columns.now c.in-Err-NoColumn.index first.name first.is

pub returns-in-Err-NoColumn-clause-refused : goal.returns-in-Err-NoColumn-clause-refused
returns-in-Err-NoColumn-clause-refused c =
    let first : IsFirstMissing c.args.tree c.args.columns.now c.in-Err-NoColumn.index =
    subst (RefusesColumns c.args.tree c.args.columns.now) c.in-Err-NoColumn.field-0-is c.in-Err-NoColumn.ensures.refused in
    missing_stops c.args.tree c.args.columns.now c.in-Err-NoColumn.index c.no_column.result first c.no_column.ensures
