use Rattle.lucid_explain_source.specs.Accepted.{by_parser}
use Rattle.lucid_explain_source.proofs.accepted.parser_turns_down.Goals as goal

pub returns : goal.returns
returns c =
    by_parser c.args.tokens.now c.args.refusal.now c.requires.known (record { short = c.requires.short; listed = c.requires.scanned }) c.requires.refused
