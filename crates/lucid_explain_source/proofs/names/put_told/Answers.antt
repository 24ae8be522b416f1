use Rattle.lucid_explain_source.proofs.Common.{ℕ, ◌+◌, List, ◌∷◌, ◌++◌, drop, ap, sym, ◌∙◌, Bor, Def, fits, told_text, lent}
use Rattle.lucid_explain_source.proofs.Lent.{told_more}
use Rattle.lucid_explain_source.proofs.names.put_told.Goals as goal

pub loop-def-preserved : goal.loop-def-preserved
loop-def-preserved c =
    c.in_ok-room.ensures (fits c.args.advice.now.wanted c.name_at-name.result.now) (lent (drop (c.loop-def.def-index + 1) c.args.defs.now)) (sym c.fits.ensures)
    ∙ ap (λ (z : List ℕ). c.loop-def.text.items ++ z)
    (ap (λ (d : Bor Def). told_text c.args.source.now (fits c.args.advice.now.wanted c.name_at-name.result.now) c.loop-def.room
    (d.now ∷ lent (drop (c.loop-def.def-index + 1) c.args.defs.now))) c.def-item.is
    ∙ sym (told_more c.args.source.now (fits c.args.advice.now.wanted c.name_at-name.result.now) c.loop-def.room c.args.defs.now c.loop-def.def-index c.def-item.result
    c.loop-def-test.true))
    ∙ c.loop-def.invariant
