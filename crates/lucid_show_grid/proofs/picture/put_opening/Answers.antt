use Rattle.std.proofs.Common.{◌+◌, ◌++◌}
use Rattle.std.specs.Prelude.{codes}
use Rattle.lucid_show_grid.specs.Grids.{plain_grid}
use Rattle.lucid_show_grid.specs.Escapes.{escaped}
use Rattle.lucid_show_grid.specs.Picture.{about, foot_of, opening_text, size_text, style, width_of}
use Rattle.std.proofs.lemmas.Result.{on_ok_weaker}
use Rattle.lucid_show_grid.proofs.Chains.{written3}
use Rattle.lucid_show_grid.proofs.picture.put_opening.Goals as goal

pub returns : goal.returns
unfolding opening_text about style
returns c =
    on_ok_weaker c.put_parts.result
    (λ e. written3 c.args.to.now.items
    (codes "<svg xmlns=\"http://www.w3.org/2000/svg\" version=\"1.1\" xml:space=\"preserve\"")
    (size_text (width_of (plain_grid c.args.grid.now)) (foot_of (plain_grid c.args.grid.now) + 40))
    (codes " font-family=\"DejaVu Sans, Verdana, sans-serif\" font-size=\"13\">\n<title>" ++ (escaped (plain_grid c.args.grid.now).heading ++ (about ++ style)))
    c.in_ok-put_text.ensures
    (rw (c.in_ok-width.ensures, c.in_ok-height.ensures, c.in_ok-foot_of.ensures) at c.in_ok-put_size.ensures)
    (rw c.deref.ensures.value at e))
    c.put_parts.ensures
