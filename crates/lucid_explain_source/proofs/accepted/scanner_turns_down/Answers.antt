use Rattle.lucid_explain_source.specs.Accepted.{by_scanner}
use Rattle.lucid_explain_source.proofs.accepted.scanner_turns_down.Goals as goal

pub returns : goal.returns
returns c = by_scanner c.args.refusal c.requires.known c.requires.refused
