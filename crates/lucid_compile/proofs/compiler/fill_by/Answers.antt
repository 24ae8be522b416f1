use Rattle.lucid_compile.proofs.Common.{subst, lists, AddsTree, OneScope, link}
use Rattle.lucid_equations.specs.declared.rows.ScopeKind.TheVariants.{Root}
use Rattle.lucid_compile.proofs.Final.{keys-apart}
use Rattle.lucid_compile.proofs.compiler.fill_by.Goals as goal

pub number_all-requires-clause-names : goal.number_all-requires-clause-names
number_all-requires-clause-names c =
    (keys-apart (record { numbering = c.args.numbering.now; scoped = c.args.scoped.now }) (lists c.args.rows.now) (lists c.open.new.self)
    (lists c.add_tree.new.rows) c.tree-tree.result.now c.in_ok-scope.scope c.in_ok-root.root c.tree-tree.ensures.well_made c.tree-tree.ensures.resolved
    c.requires c.in_ok-scope.ensures c.tree-tree.ensures.value c.in_ok-root.ensures.adds).names

pub number_all-requires-clause-places : goal.number_all-requires-clause-places
number_all-requires-clause-places c =
    (keys-apart (record { numbering = c.args.numbering.now; scoped = c.args.scoped.now }) (lists c.args.rows.now) (lists c.open.new.self)
    (lists c.add_tree.new.rows) c.tree-tree.result.now c.in_ok-scope.scope c.in_ok-root.root c.tree-tree.ensures.well_made c.tree-tree.ensures.resolved
    c.requires c.in_ok-scope.ensures c.tree-tree.ensures.value c.in_ok-root.ensures.adds).places

pub number_all-requires-clause-functions : goal.number_all-requires-clause-functions
number_all-requires-clause-functions c =
    (keys-apart (record { numbering = c.args.numbering.now; scoped = c.args.scoped.now }) (lists c.args.rows.now) (lists c.open.new.self)
    (lists c.add_tree.new.rows) c.tree-tree.result.now c.in_ok-scope.scope c.in_ok-root.root c.tree-tree.ensures.well_made c.tree-tree.ensures.resolved
    c.requires c.in_ok-scope.ensures c.tree-tree.ensures.value c.in_ok-root.ensures.adds).functions

pub returns : goal.returns
returns c = record {
  well_made = c.tree-tree.ensures.well_made;
  resolved = c.tree-tree.ensures.resolved;
  scope = c.in_ok-scope.scope;
  opened = lists c.open.new.self;
  opens = subst (λ l. OneScope l (lists c.open.new.self) (record { parent = 0; kind = Root }) c.in_ok-scope.scope) c.requires c.in_ok-scope.ensures;
  walked = lists c.add_tree.new.rows;
  adds = λ w.
      subst (λ t. AddsTree w (link w (lists c.open.new.self)) (link w (lists c.add_tree.new.rows)) (record { scope = c.in_ok-scope.scope; level = 0 }) t c.in_ok-root.root)
      c.tree-tree.ensures.value (c.in_ok-root.ensures.adds w);
  numbering = c.number_all.new.self;
  numbers = c.in_ok-number_all.ensures;
  links = c.in_ok-link_rows.ensures;
}
