use Rattle.lucid_compile.proofs.Common.{get_or, refl, ◌∙◌, ap, subst, take_all, link, linked, AddsParameters}
use Rattle.lucid_compile.proofs.Adding.{no_parameters-added, parameters-more}
use Rattle.lucid_compile.proofs.compiler.add_parameters.Goals as goal

pub loop-i-init : goal.loop-i-init
loop-i-init c = λ w. no_parameters-added w (linked w c.args.rows.now) c.args.here

pub loop-i-preserved : goal.loop-i-preserved
loop-i-preserved c = λ w.
    parameters-more w (linked w c.args.rows.now) (linked w c.loop-i.rows) (linked w c.define.new.self) c.args.here c.items-places.result.now c.loop-i.i
    c.in_ok-index.index (get_or c.items-places.result.now c.loop-i.i 0) c.loop-i-test.true c.in_ok-index.ensures refl (c.loop-i.invariant w)
    (ap (link w) c.in_ok-define.ensures)

pub returns : goal.returns
returns c = λ w.
    subst (AddsParameters w (linked w c.args.rows.now) (linked w c.loop-i.rows) c.args.here)
    (take_all c.loop-i.i c.items-places.result.now c.loop-i-test.false ∙ c.items-places.ensures) (c.loop-i.invariant w)
