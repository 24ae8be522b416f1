use Rattle.lucid_explain_places.proofs.Begun.{answered}
use Rattle.lucid_explain_places.proofs.candidates.refusal_of.Goals as goal

pub returns : goal.returns
returns c = answered c.args.bytes.now c.args.tokens.now c.parse.result c.err.result c.requires.scanned c.parse.ensures.spelled c.parse.ensures.refused
    c.err.ensures.value
