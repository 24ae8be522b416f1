use Rattle.std.proofs.Common.{refl}
use Rattle.lucid_explain_places.proofs.Begun.{fault_within}
use Rattle.lucid_explain_source.specs.Sources.{by_syntax}
use Rattle.lucid_explain_source.proofs.sources.said_of_syntax.Goals as goal

pub explain_syntax-requires-clause-within : goal.explain_syntax-requires-clause-within
explain_syntax-requires-clause-within c = fault_within c.args.source.now c.args.tokens.now c.args.at c.tokens_are_in_order.ensures c.requires.scanned
    c.requires.refused

pub returns : goal.returns
returns c =
    let said = c.in_ok-text.ensures in
    by_syntax c.args.tokens.now c.args.at said.0 (record { short = c.requires.short; listed = c.requires.scanned }) c.requires.refused said.1 refl said.2
