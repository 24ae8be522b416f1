use Rattle.lucid_cert.proofs.CheckCommon.{None, Some, get_or, sym, ap, ◌∙◌, arith, option_map, Bor, PlainValue, plain, Value, context_of, same_tag_is_equality, plain_judgment, is_of_context, judgments_of, contexts_in}
use Rattle.lucid_cert.proofs.Using.{item_at, by_slice, used_late, used_without, used_here, used_elsewhere}
use Rattle.lucid_cert.proofs.check.Check.used.Goals as goal
use Rattle.lucid_cert.proofs.check.Check.used.Goals.{else-judgment-at-via-then-judgment-at+then-eq+then-judgment-at-2+else-judgment-space, else-judgment-at-via-then-judgment-at+then-eq+else-judgment-at-2, else-judgment-at-via-then-judgment-at+else-eq, else-judgment-at-via-else-judgment-at}

pub returns-then-number-before : goal.returns-then-number-before
returns-then-number-before c =
    used_late (contexts_in c.args.self.now) (judgments_of c.args.self.now) c.args.before c.args.at.node (context_of c.args.self.now.tags c.args.at.context)
    c.args.at.time c.args.space c.args.number c.if-number-before.true

pub returns-in_err-context : goal.returns-in_err-context
returns-in_err-context c =
    let j = get_or c.args.self.now.judgments.now c.args.number c.index-self-number.result in
    ap (option_map {T = Bor Value} {U = PlainValue} (λ v. plain v.now)) c.from_residual.ensures
    ∙ used_without c.args.self.now.tags c.args.self.now.contexts.items (judgments_of c.args.self.now) c.args.before c.args.at.node
    (context_of c.args.self.now.tags c.args.at.context) c.args.at.time c.args.space c.args.number
    (plain_judgment j) (omega arith) (item_at c.args.self.now.judgments.now c.args.number c.index-self-number.result (omega arith))
    (by_slice c.as_slice.result.now c.args.self.now.contexts.items j.context c.context_at.result None c.as_slice.ensures.value c.context_at.ensures
    c.in_err-context.was)

pub returns-then-judgment-space : goal.returns-then-judgment-space
returns-then-judgment-space c =
    let j = get_or c.args.self.now.judgments.now c.args.number c.index-self-number.result in
    let is = by_slice c.as_slice.result.now c.args.self.now.contexts.items j.context c.context_at.result (Some c.in_ok-context.context) c.as_slice.ensures.value
    c.context_at.ensures c.in_ok-context.was in
    used_here c.args.self.now.tags c.args.self.now.contexts.items (judgments_of c.args.self.now) c.args.before c.args.at.node c.args.at.context c.args.at.time
    c.args.space c.args.number (plain_judgment j) c.in_ok-context.context
    c.requires.sound.once c.requires.there (is_of_context c.args.self.now.tags c.args.self.now.contexts.items j.context c.in_ok-context.context
    c.requires.sound.contexts is) (omega arith)
    (item_at c.args.self.now.judgments.now c.args.number c.index-self-number.result (omega arith)) is (
      c.if-judgment-at.true,
      (
        (same_tag_is_equality c.in_ok-context.context c.args.at.context).0 (sym c.if-eq.ensures),
        (c.if-judgment-at-2.true, c.if-judgment-space.true),
      ),
    )

pub returns-else-judgment-at : goal.returns-else-judgment-at
returns-else-judgment-at c =
    let j = get_or c.args.self.now.judgments.now c.args.number c.index-self-number.result in
    let is = by_slice c.as_slice.result.now c.args.self.now.contexts.items j.context c.context_at.result (Some c.in_ok-context.context) c.as_slice.ensures.value
    c.context_at.ensures c.in_ok-context.was in
    used_elsewhere c.args.self.now.tags c.args.self.now.contexts.items (judgments_of c.args.self.now) c.args.before c.args.at.node c.args.at.context
    c.args.at.time c.args.space c.args.number (plain_judgment j) c.in_ok-context.context
    c.requires.sound.once c.requires.there (is_of_context c.args.self.now.tags c.args.self.now.contexts.items j.context c.in_ok-context.context
    c.requires.sound.contexts is) (omega arith)
    (item_at c.args.self.now.judgments.now c.args.number c.index-self-number.result (omega arith)) is
    (λ h. elim c.else-judgment-at.branch [
      | else-judgment-at-via-then-judgment-at+then-eq+then-judgment-at-2+else-judgment-space w ↦ w.if-judgment-space.false h.1.1.1
      | else-judgment-at-via-then-judgment-at+then-eq+else-judgment-at-2 w ↦ w.if-judgment-at-2.false h.1.1.0
      | else-judgment-at-via-then-judgment-at+else-eq w ↦ let e = w.if-eq.false in
          let t = (same_tag_is_equality c.in_ok-context.context c.args.at.context).1 h.1.0 in absurd (cc)
      | else-judgment-at-via-else-judgment-at w ↦ w.if-judgment-at.false h.0
    ])
