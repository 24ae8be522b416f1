use Rattle.lucid_cert.proofs.CheckCommon.{None, Some, get_or, ◌∙◌, table_of, plain_judgment, is_of_context, judgments_of}
use Rattle.lucid_cert.proofs.Using.{item_at, by_slice, root_there, root_nowhere}
use Rattle.lucid_cert.proofs.check.Check.is_of_root.Goals as goal

pub returns-in-Some : goal.returns-in-Some
returns-in-Some c =
    let j = get_or c.args.self.now.judgments.now c.args.number c.index-self-number.result in
    let is = by_slice c.as_slice.result.now c.args.self.now.contexts.items j.context c.context_at.result (Some c.in-Some.context) c.as_slice.ensures.value
    c.context_at.ensures c.in-Some.is in
    root_there (table_of c.args.self.now.program.now) c.args.self.now.tags c.args.self.now.contexts.items (judgments_of c.args.self.now) c.args.number
    (plain_judgment j)
    (item_at c.args.self.now.judgments.now c.args.number c.index-self-number.result c.requires.number) c.in-Some.context c.root-in-Some.result c.eq.result
    c.requires.sound.once
    (is_of_context c.args.self.now.tags c.args.self.now.contexts.items j.context c.in-Some.context c.requires.sound.contexts is) is c.root-in-Some.ensures.known
    c.root-in-Some.ensures.tag c.root-in-Some.ensures.context
    (c.if-row-root.false ∙ c.root.ensures.value) c.if-row-ne0.false c.eq.ensures

pub returns-in-None : goal.returns-in-None
returns-in-None c =
    let j = get_or c.args.self.now.judgments.now c.args.number c.index-self-number.result in
    root_nowhere (table_of c.args.self.now.program.now) c.args.self.now.tags c.args.self.now.contexts.items (judgments_of c.args.self.now) c.args.number
    (plain_judgment j)
    (item_at c.args.self.now.judgments.now c.args.number c.index-self-number.result c.requires.number)
    (by_slice c.as_slice.result.now c.args.self.now.contexts.items j.context c.context_at.result None c.as_slice.ensures.value c.context_at.ensures
    c.in-None.is)
