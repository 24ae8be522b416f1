use Rattle.std.proofs.Common.{◌≡◌, ℕ, ◌-◌, ◌++◌, length, ap, ◌∙◌, arith}
use Rattle.std.specs.Prelude.{codes}
use Rattle.lucid_show_grid.specs.Grids.{plain_panel}
use Rattle.lucid_show_grid.specs.Text.{heads_text, laid_text, left_out_line, lines_text, shown}
use Rattle.std.proofs.lemmas.Result.{on_ok_weaker}
use Rattle.lucid_show_grid.proofs.Chains.{written3}
use Rattle.lucid_show_grid.proofs.text.put_laid.Goals as goal

pub returns : goal.returns
unfolding laid_text
returns c =
    let kept : length c.shown-times.result.now ≡ length (shown c.args.columns (plain_panel c.args.panel.now).times) =
    ap length (rw c.deref.ensures.value at c.shown-times.ensures) in
    let earlier : c.saturating_sub-earlier.result ≡ length (plain_panel c.args.panel.now).times - length (shown c.args.columns (plain_panel c.args.panel.now).times) =
    omega (arith, c.len.ensures) in
    on_ok_weaker c.put_left_out_line.result
    (λ e. written3 c.args.to.now.items
    (heads_text c.args.columns (shown c.args.columns (plain_panel c.args.panel.now).times))
    (lines_text c.args.columns (shown c.args.columns (plain_panel c.args.panel.now).times) (plain_panel c.args.panel.now).lines)
    (left_out_line (codes "earlier times") (length (plain_panel c.args.panel.now).times - length (shown c.args.columns (plain_panel c.args.panel.now).times)))
    (rw (c.shown-times.ensures, c.deref.ensures.value) at c.in_ok-put_heads.ensures)
    (rw (c.shown-times.ensures, c.deref.ensures.value, c.deref-2.ensures.value) at c.in_ok-put_lines.ensures)
    (e ∙ ap (λ (n : ℕ). c.put_lines.new.to.items ++ left_out_line (codes "earlier times") n) earlier))
    c.put_left_out_line.ensures
