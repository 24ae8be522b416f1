-- The tree is the one that the terminals spell.
use Rattle.lucid_parse.proofs.Common.{terminals_of}
use Rattle.lucid_parse.proofs.Parsed.{too_nested, have_tree, spelled_as, shallow_as}
use Rattle.lucid_parse.proofs.parser.parse_terminals.Goals as goal

pub returns-in-Some-clause-refused : goal.returns-in-Some-clause-refused
returns-in-Some-clause-refused c =
    too_nested (terminals_of c.args.terminals.now) c.in_ok-items.items.items c.deref.result.now c.in_ok-items.ensures.ok c.deref.ensures.value
    c.in_ok-at.field-0 c.in_ok-at.ensures c.in-Some.at c.in-Some.is

pub build-requires : goal.build-requires
build-requires c =
    have_tree (terminals_of c.args.terminals.now) c.in_ok-items.items.items c.deref-2.result.now c.in_ok-items.ensures.ok c.deref-2.ensures.value
    c.deref.result.now c.deref.ensures.value c.in_ok-at.field-0 c.in_ok-at.ensures c.in_default.is

pub returns-clause-spelled : goal.returns-clause-spelled
returns-clause-spelled c =
    spelled_as (terminals_of c.args.terminals.now) c.in_ok-items.items.items c.deref-2.result.now c.in_ok-items.ensures.ok c.deref-2.ensures.value _
    c.in_ok-tree.ensures

pub returns-clause-shallow : goal.returns-clause-shallow
returns-clause-shallow c =
    shallow_as (terminals_of c.args.terminals.now) c.in_ok-items.items.items c.deref-2.result.now c.in_ok-items.ensures.ok c.deref-2.ensures.value _
    c.in_ok-tree.ensures
    c.deref.result.now c.deref.ensures.value c.in_ok-at.field-0 c.in_ok-at.ensures c.in_default.is
