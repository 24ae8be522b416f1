use Rattle.lucid_columns.proofs.Common.{◌≡◌, sym, ap, subst, ◌∙◌, block, tree_of, IsWellMade, Block, with_columns, err_from_is_err_and}
use Rattle.lucid_columns.specs.Columns.{AreColumns, RefusesColumns}
use Rattle.lucid_columns.proofs.Placed.{beside_well_made}
use Rattle.lucid_columns.proofs.Searching.{first_missing}
use Rattle.lucid_columns.proofs.columns.column_tree.Goals as goal

pub returns-in_default-kind : goal.returns-in_default-kind
returns-in_default-kind c =
    let is : tree_of c.tree.inside.at c.tree.inside.kind ≡ c.args.tree = cc (c.tree.view_is) in
    record {
      made = tt;
      well_made = tt;
      columns = tt;
      refused = first_missing c.args.tree c.tree.inside.at c.tree.inside.kind c.args.columns.now c.in-Some.first.now c.in-Some.others.now is
          c.in_default-kind.not-Scope c.in-Some.ensures.cases.0;
    }

pub returns-in_err-find_columns-clause-refused : goal.returns-in_err-find_columns-clause-refused
returns-in_err-find_columns-clause-refused c =
    let p = err_from_is_err_and c.from_residual.result c.from_residual.ensures.1 in
    let is : tree_of c.tree.inside.at c.tree.inside.kind ≡ c.args.tree = cc (c.tree.view_is) in
    let whole : block c.tree.inside.at c.in-Scope.block.value.subject c.deref.result.now.defs ≡ c.args.tree =
    ap (λ (b : Block). block c.tree.inside.at c.in-Scope.block.value.subject b.defs) c.deref.ensures ∙ sym (ap (tree_of c.tree.inside.at) c.in-Scope.is) ∙ is in
    rw (p.1, p.2) (subst (λ t. RefusesColumns t c.args.columns.now c.in_err-find_columns.field-0.0) whole
    (c.in_err-find_columns.ensures.refused c.tree.inside.at c.in-Scope.block.value.subject))

pub returns-clause-well_made : goal.returns-clause-well_made
returns-clause-well_made c =
    let is : tree_of c.tree.inside.at c.tree.inside.kind ≡ c.args.tree = cc (c.tree.view_is) in
    let whole : c.args.tree ≡ block c.tree.inside.at c.in-Scope.block.value.subject c.in-Scope.block.value.defs = sym is
    ∙ ap (tree_of c.tree.inside.at) c.in-Scope.is in
    let named = c.in-Some.ensures.cases.0 in
    let made : with_columns c.args.tree c.args.base c.args.columns.now ≡ block c.tree.inside.at c.in_ok-block.field-0 c.deref_mut.result.now.defs =
    ap (λ p. with_columns p c.args.base c.args.columns.now) whole
    ∙ ap (with_columns (block c.tree.inside.at c.in-Scope.block.value.subject c.in-Scope.block.value.defs) c.args.base) named
    ∙ ap (λ x. block c.tree.inside.at x c.in-Scope.block.value.defs) (sym c.in_ok-block.ensures)
    ∙ ap (λ (b : Block). block c.tree.inside.at c.in_ok-block.field-0 b.defs) (sym c.deref_mut.ensures.value) in
    subst IsWellMade made (beside_well_made c.args.tree c.args.base c.args.columns.now c.requires.few c.requires.well_made c.requires.placed
    c.requires.few_places)

pub returns-clause-columns : goal.returns-clause-columns
returns-clause-columns c =
    let is : tree_of c.tree.inside.at c.tree.inside.kind ≡ c.args.tree = cc (c.tree.view_is) in
    let whole : block c.tree.inside.at c.in-Scope.block.value.subject c.deref.result.now.defs ≡ c.args.tree =
    ap (λ (b : Block). block c.tree.inside.at c.in-Scope.block.value.subject b.defs) c.deref.ensures ∙ sym (ap (tree_of c.tree.inside.at) c.in-Scope.is) ∙ is in
    subst (λ t. AreColumns t c.args.columns.now) whole (c.in_ok-find_columns.ensures.found c.tree.inside.at c.in-Scope.block.value.subject)
