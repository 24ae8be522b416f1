use Rattle.lucid_compile.proofs.Common.{◌≡◌, get_or, ap, ◌∙◌, subst, Head, lists, OneNode, linked, linked_node, node_of, head_of}
use Rattle.lucid_compile.proofs.Adding.{if_ok, form-added}
use Rattle.lucid_compile.proofs.LinkedRows.{form-linked, first-linked, node-linked}
use Rattle.lucid_compile.proofs.compiler.add_form.Goals as goal

pub returns : goal.returns
returns c =
    let f : Head = head_of c.args.head in
    let node : c.form_node.result ≡ node_of f c.in_ok-first.first (get_or c.args.ids.now 1 0) (get_or c.args.ids.now 2 0) = c.form_node.ensures
    ∙ (λ j. node_of f c.in_ok-first.first (c.number_at-second.ensures j) (c.number_at-third.ensures j)) in
    if_ok c.push.result _ _ c.push.ensures (λ id s w o at es fits a.
    form-added w o (linked w c.args.rows.now) (linked w c.first_number.new.rows) (linked w c.push.new.self) c.args.here at f es c.args.ids.now
    c.in_ok-first.first id fits a (first-linked w (lists c.args.rows.now) (lists c.first_number.new.rows) f c.args.ids.now c.in_ok-first.first
    c.in_ok-first.ensures)
    (subst (λ x. OneNode (linked w c.first_number.new.rows) (linked w c.push.new.self) (record { scope = c.args.here.scope; node = x }) id)
    (ap (linked_node w) node ∙ form-linked w f c.in_ok-first.first (get_or c.args.ids.now 1 0) (get_or c.args.ids.now 2 0))
    (node-linked w (lists c.first_number.new.rows) (lists c.push.new.self) (record { scope = c.args.here.scope; node = c.form_node.result }) id s)))
