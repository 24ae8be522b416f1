use Rattle.lucid_top.proofs.Common.{subst, err_from_is_err_and, HasTokens}
use Rattle.lucid_parse.specs.Spelled.{SpellsTree, IsSourceRefused}
use Rattle.lucid_top.proofs.Refusing.{scan_refuses, parse_refuses}
use Rattle.lucid_top.proofs.Within.{places_within}
use Rattle.lucid_top.proofs.judging.read_tree.Goals as goal

pub returns-in_err-tokens-clause-refused : goal.returns-in_err-tokens-clause-refused
returns-in_err-tokens-clause-refused c =
    let p = err_from_is_err_and c.from_residual.result c.from_residual.ensures.1 in
    rw (p.1, p.2) (scan_refuses c.args.source.now c.in_err-tokens.field-0.0 c.in_err-tokens.ensures.refused)

pub returns-in_err-tree-clause-refused : goal.returns-in_err-tree-clause-refused
returns-in_err-tree-clause-refused c =
    let p = err_from_is_err_and c.from_residual-in_err-tree.result c.from_residual-in_err-tree.ensures.1 in
    let scanned : HasTokens c.args.source.now c.in_ok-tokens.tokens.items =
    record { short = c.in_ok-tokens.ensures.short; listed = c.in_ok-tokens.ensures.tokens } in
    rw (p.1, p.2) (
    parse_refuses c.args.source.now c.in_ok-tokens.tokens.items c.in_err-tree.field-0.0 scanned
    (subst (λ ts. IsSourceRefused c.args.source.now ts c.in_err-tree.field-0.0) c.deref.ensures.value c.in_err-tree.ensures.refused)
    )

pub returns-clause-placed : goal.returns-clause-placed
returns-clause-placed c =
    places_within c.args.source.now c.in_ok-tree.tree (record {
      tokens = c.in_ok-tokens.tokens.items;
      scanned = record { short = c.in_ok-tokens.ensures.short; listed = c.in_ok-tokens.ensures.tokens };
      spelt = subst (λ ts. SpellsTree c.args.source.now ts c.in_ok-tree.tree) c.deref.ensures.value c.in_ok-tree.ensures.spelled;
      shallow = c.in_ok-tree.ensures.shallow;
    })
