use Rattle.lucid_cert_rules.proofs.FollowingCommon.{sym, ◌∙◌}
use Rattle.lucid_cert_rules.proofs.ContextTags.{is_of_context}
use Rattle.lucid_cert_rules.proofs.contexts.enter.Goals as goal

pub enter_call-requires-clause-base : goal.enter_call-requires-clause-base
enter_call-requires-clause-base c =
    (is_of_context c.args.tags.now c.args.contexts.now c.in-Call.base c.in-Some-Some.base c.requires (sym c.in-Some-Some.is-0 ∙ c.context_at.ensures)).known_tag

pub enter_call-requires-clause-caller : goal.enter_call-requires-clause-caller
enter_call-requires-clause-caller c =
    (is_of_context c.args.tags.now c.args.contexts.now c.in-Call.caller c.in-Some-Some.caller c.requires
    (sym c.in-Some-Some.is-1 ∙ c.context_at-in-Call.ensures)).known_tag

pub enter_frozen-requires : goal.enter_frozen-requires
enter_frozen-requires c =
    (is_of_context c.args.tags.now c.args.contexts.now c.in-Frozen.base c.in-Some.base c.requires (sym c.in-Some.is ∙ c.context_at-in-Frozen.ensures)).known_tag

pub returns-in_ok-enter_call-in-Some-Some-clause-there : goal.returns-in_ok-enter_call-in-Some-Some-clause-there
returns-in_ok-enter_call-in-Some-Some-clause-there c = record {
  known_tag = c.in_ok-enter_call-in-Some-Some.ensures.known;
  space = c.in_ok-enter_call-in-Some-Some.ensures.space
      ∙ (is_of_context c.args.tags.now c.args.contexts.now c.in-Call.base c.in-Some-Some.base c.requires
      (sym c.in-Some-Some.is-0 ∙ c.context_at.ensures)).space;
}

pub returns-in_ok-enter_frozen-in-Some-clause-there : goal.returns-in_ok-enter_frozen-in-Some-clause-there
returns-in_ok-enter_frozen-in-Some-clause-there c = record {
  known_tag = c.in_ok-enter_frozen-in-Some.ensures.known;
  space = c.in_ok-enter_frozen-in-Some.ensures.space
      ∙ (is_of_context c.args.tags.now c.args.contexts.now c.in-Frozen.base c.in-Some.base c.requires
      (sym c.in-Some.is ∙ c.context_at-in-Frozen.ensures)).space;
}
