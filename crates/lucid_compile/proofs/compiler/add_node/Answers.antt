use Rattle.lucid_compile.proofs.Common.{drop, sym, ◌∙◌, subst, Refer, lists, linked, AddsTrees, AddsNode}
use Rattle.lucid_compile.proofs.Adding.{if_ok, name-added}
use Rattle.lucid_compile.proofs.LinkedRows.{node-linked}
use Rattle.lucid_compile.proofs.compiler.add_node.Goals as goal

pub returns-in-Form-clause-adds : goal.returns-in-Form-clause-adds
returns-in-Form-clause-adds c =
    if_ok c.add_form.result _ _ c.add_form.ensures (λ id s w.
    subst (λ e. AddsNode w (linked w c.args.rows.now) (linked w c.add_form.new.rows) c.args.here e (drop c.args.before c.args.ids.now.items) id)
    c.in-Form.ensures.tree
    (λ o a. s w o c.in-Form.at c.in-Form.parts c.in-Form.ensures.fits
    (subst (AddsTrees w o (linked w c.args.rows.now) c.args.here c.in-Form.parts) (sym (c.deref.ensures.value ∙ c.in_ok-ids.ensures.tail)) a)))

pub returns-in-Name-clause-adds : goal.returns-in-Name-clause-adds
returns-in-Name-clause-adds c =
    if_ok c.push.result _ _ c.push.ensures (λ id s w.
    subst (λ e. AddsNode w (linked w c.args.rows.now) (linked w c.push.new.self) c.args.here e (drop c.args.before c.args.ids.now.items) id)
    c.in-Name.ensures.tree
    (name-added w (linked w c.args.rows.now) (linked w c.push.new.self) c.args.here c.in-Name.at id
    (node-linked w (lists c.args.rows.now) (lists c.push.new.self) (record { scope = c.args.here.scope; node = Refer c.in-Name.at 0 }) id s)
    c.in-Name.name.now (drop c.args.before c.args.ids.now.items)))

pub returns-in-Call-clause-adds : goal.returns-in-Call-clause-adds
returns-in-Call-clause-adds c =
    if_ok c.add_call.result _ _ c.add_call.ensures (λ id s w.
    subst (λ e. AddsNode w (linked w c.args.rows.now) (linked w c.add_call.new.rows) c.args.here e (drop c.args.before c.args.ids.now.items) id)
    c.in-Call.ensures.tree
    (λ o a. s w o c.in-Call.name.now c.in-Call.args.now c.first_place.ensures
    (subst (AddsTrees w o (linked w c.args.rows.now) c.args.here c.in-Call.args.now) (sym c.in_ok-ids.ensures.tail) a)))
