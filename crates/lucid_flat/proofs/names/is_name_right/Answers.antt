use Rattle.lucid_flat.proofs.SoundCommon.{List, length, sym, ap, subst, arith, false≢true, NodeRow, EntryFits}
use Rattle.lucid_flat.proofs.NamesRight.{got, fits-right, right-fits}
use Rattle.lucid_flat.proofs.names.is_name_right.Goals as goal

pub returns-in-Some : goal.returns-in-Some
returns-in-Some c =
    let t = c.args.table.now in
    let r = c.args.row.now in
    let x = c.in-Some.scope.now in
    let look = c.in-Some.ensures.lookup in
    let at = got c.items.result.now t.scopes r.scope x c.items.ensures.value look.3.0 look.1 in
    let nodes = c.items-in-Some.ensures.value in
    let Fits : List NodeRow → Type 0 = λ ns. EntryFits ns r.scope x r.kind in (
      λ e. fits-right t r x at (subst Fits nodes (c.is_entry_right.ensures.0 e)),
      λ h. c.is_entry_right.ensures.1 (subst Fits (sym nodes) (right-fits t r x at h)),
    )

pub returns-in-None : goal.returns-in-None
returns-in-None c =
    let all = ap length c.items.ensures.value in
    (λ e. absurd (false≢true e), λ h. absurd (omega (arith, h.here, all, c.in-None.ensures.lookup.3)))
