use Rattle.lucid_flat.proofs.SoundCommon.{List, length, sym, ap, subst, arith, false≢true, EachStandsIn, NodeRow, leb-true}
use Rattle.lucid_flat.proofs.NamesRight.{got, passes-right, right-few, right-called}
use Rattle.lucid_flat.proofs.places.is_place_right.Goals as goal

pub returns-then-wants-name : goal.returns-then-wants-name
returns-then-wants-name c =
    let t = c.args.table.now in
    let r = c.args.row.now in
    let x = c.in-Some.name.now in
    let look = c.in-Some.ensures.lookup in
    let at = got c.items-2.result.now t.names r.name x c.items-2.ensures.value look.3.0 look.1 in
    let wants = c.requires.wants.each x.scope (c.requires.names r.name x at).here in
    let scopes = ap length c.items.ensures.value in
    let actuals = c.items-actuals.ensures.value in
    let many = ap length actuals in
    let nodes = c.items-then-wants-name.ensures.value in
    let Stand : List NodeRow → Type 0 = λ ns. EachStandsIn ns r.scope r.actuals in (
      λ e.
          let stand = c.are_actuals_right.ensures.0 e in
          passes-right t r x c.in-Called.body (omega (arith, scopes, c.if-row-items.false)) at c.in-Called.is (omega (arith, wants, many, c.if-wants-name.true))
          (subst Stand nodes (subst (EachStandsIn c.items-then-wants-name.result.now r.scope) actuals stand)),
      λ h. c.are_actuals_right.ensures.1 (subst (EachStandsIn c.items-then-wants-name.result.now r.scope) (sym actuals)
          (subst Stand (sym nodes) h.passes.stand)),
    )

pub returns-else-wants-name : goal.returns-else-wants-name
returns-else-wants-name c =
    let t = c.args.table.now in
    let r = c.args.row.now in
    let x = c.in-Some.name.now in
    let look = c.in-Some.ensures.lookup in
    let at = got c.items-2.result.now t.names r.name x c.items-2.ensures.value look.3.0 look.1 in
    let wants = c.requires.wants.each x.scope (c.requires.names r.name x at).here in
    let many = ap length c.items-actuals.ensures.value in (
      λ e. let few = leb-true _ _ e in absurd (omega (arith, few, c.if-wants-name.false)),
      λ h. let few = right-few t r x at h in absurd (omega (arith, few, wants, many, c.if-wants-name.false)),
    )

pub returns-in_default-kind : goal.returns-in_default-kind
returns-in_default-kind c =
    let t = c.args.table.now in
    let look = c.in-Some.ensures.lookup in
    let at = got c.items-2.result.now t.names c.args.row.now.name c.in-Some.name.now c.items-2.ensures.value look.3.0 look.1 in
    (λ e. absurd (false≢true e), λ h. absurd (right-called t c.args.row.now c.in-Some.name.now at c.in_default-kind.not-Called h))
