use Rattle.lucid_flat.proofs.SoundCommon.{List, sym, subst, IsRound, HasDepth, ScopeRow}
use Rattle.lucid_flat.proofs.NamesRight.{got, leads-by, by-leads}
use Rattle.lucid_flat.proofs.nodes.is_reference_right.Goals as goal

pub returns-in_default-kind : goal.returns-in_default-kind
returns-in_default-kind c =
    let t = c.args.table.now in
    let x = c.in-Some.row.now in
    let look = c.in-Some.ensures.lookup in
    let at = got c.items.result.now t.names c.args.name x c.items.ensures.value look.3.0 look.1 in
    let scopes = c.items-in_default-kind.ensures.value in
    let Found : List ScopeRow → Type 0 = λ xs. IsRound xs x.scope c.args.scope × HasDepth xs x.scope c.args.level in (
      λ e. leads-by t c.args.scope c.args.name c.args.level x at c.in_default-kind.not-Called (subst Found scopes (c.is_round_at.ensures.0 e)),
      λ h. c.is_round_at.ensures.1 (subst Found (sym scopes) (by-leads t c.args.scope c.args.name c.args.level x at h)),
    )
