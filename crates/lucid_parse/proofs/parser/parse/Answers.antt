-- What is answered for the terminals is answered for the tokens.
use Rattle.lucid_parse.proofs.Common.{◌≤◌, length, refl, arith, places, IsWellMade, SpellsTree, terminals_of, IfOk-weaker}
use Rattle.lucid_parse.proofs.Answered.{spelled, refused}
use Rattle.lucid_parse.proofs.Texts.{terminals_again}
use Rattle.lucid_parse.proofs.parser.parse.Goals as goal

pub returns-clause-spelled : goal.returns-clause-spelled
returns-clause-spelled c =
    let stand = terminals_again c.args.source.now c.args.tokens.now c.in_ok-terminals.terminals.items c.deref.result.now c.in_ok-terminals.ensures.terminals
    c.deref.ensures.value in
    spelled c.args.source.now c.args.tokens.now (terminals_of c.deref.result.now) stand c.parse_terminals.result c.parse_terminals.ensures.spelled

pub returns-clause-well_made : goal.returns-clause-well_made
returns-clause-well_made c =
    let law = c.spelled_trees_are_well_made.ensures.well_made in
    IfOk-weaker c.parse_terminals.result (λ tree. SpellsTree c.args.source.now c.args.tokens.now tree) IsWellMade
    (λ tree spells. law c.args.source.now c.args.tokens.now tree c.requires.short c.requires.tokens spells) (returns-clause-spelled c)

pub returns-clause-few : goal.returns-clause-few
returns-clause-few c =
    let law = c.spelled_trees_are_well_made.ensures.few in
    IfOk-weaker c.parse_terminals.result (λ tree. SpellsTree c.args.source.now c.args.tokens.now tree) (λ tree. length (places tree) ≤ 1048576)
    (λ tree spells. omega (arith, c.requires.short, law c.args.source.now c.args.tokens.now tree c.requires.tokens spells)) (returns-clause-spelled c)

pub returns-clause-refused : goal.returns-clause-refused
returns-clause-refused c =
    let stand = terminals_again c.args.source.now c.args.tokens.now c.in_ok-terminals.terminals.items c.deref.result.now c.in_ok-terminals.ensures.terminals
    c.deref.ensures.value in
    refused c.args.source.now c.args.tokens.now (terminals_of c.deref.result.now) stand c.parse_terminals.result _ refl c.parse_terminals.ensures.refused
