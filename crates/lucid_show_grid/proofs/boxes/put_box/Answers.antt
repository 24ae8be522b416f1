use Rattle.std.proofs.Common.{List, ℕ, ◌++◌, ap, ◌∙◌}
use Rattle.std.specs.Prelude.{codes}
use Rattle.lucid_show_grid.specs.Escapes.{escaped}
use Rattle.lucid_show_grid.specs.Places.{plain_placed}
use Rattle.lucid_show_grid.specs.Boxes.{box_text, class_text, edges_text, output_text, value_text}
use Rattle.std.proofs.lemmas.Result.{on_ok_weaker}
use Rattle.lucid_show_grid.proofs.Chains.{front6, written5}
use Rattle.lucid_show_grid.proofs.boxes.put_box.Goals as goal

pub returns : goal.returns
unfolding box_text
returns c =
    let p = plain_placed c.args.placed.now in
    let told : List ℕ = escaped p.mark.told in
    let class : List ℕ = class_text p.mark.kind in
    let output : List ℕ = output_text p.mark.is_output in
    let rest : List ℕ = edges_text p.place p.mark.kind ++ (codes "/>" ++ (value_text p.place p.mark.value ++ codes "</g>\n")) in
    on_ok_weaker c.put_text-2.result
    (λ e. written5 c.args.to.now.items
    (codes "<g><title>" ++ (told ++ (codes "</title><rect class=\"" ++ (class ++ (output ++ codes "\"")))))
    (edges_text p.place p.mark.kind)
    (codes "/>")
    (value_text p.place p.mark.value)
    (codes "</g>\n")
    (rw (c.deref.ensures.value, c.class_of.ensures, c.output_class.ensures) at c.in_ok-put_parts.ensures)
    c.in_ok-put_edges.ensures
    c.in_ok-put_text.ensures
    (rw c.deref-2.ensures.value at c.in_ok-put_value.ensures) e
    ∙ ap (λ (text : List ℕ). c.args.to.now.items ++ text)
    (front6 (codes "<g><title>") told (codes "</title><rect class=\"") class output (codes "\"") rest))
    c.put_text-2.ensures
