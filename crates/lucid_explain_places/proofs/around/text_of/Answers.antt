use Rattle.lucid_explain_places.proofs.Begun.{token_within}
use Rattle.lucid_explain_places.proofs.around.text_of.Goals as goal

pub token_text-requires : goal.token_text-requires
token_text-requires c = record {
  order = (token_within c.args.source.now c.args.tokens.now c.args.number _ c.tokens_are_in_order.ensures c.requires c.if-number-tokens.true).0;
  within = (token_within c.args.source.now c.args.tokens.now c.args.number _ c.tokens_are_in_order.ensures c.requires c.if-number-tokens.true).1;
}
