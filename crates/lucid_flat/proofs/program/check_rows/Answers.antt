use Rattle.lucid_flat.proofs.SoundCommon.{◌≡◌, ◌≢◌, ℕ, List, [], length, ap, sym, ◌∙◌, subst, eqb-true, ScopeRow, ScopeIsRight, PlaceIsRight, AllRight, IsFirstWrong, no_scopes, wrong_scope, wrong_node, wrong_name, wrong_place, eqb-false, nil_from_length, MatchOption-at_some}
use Rattle.lucid_flat.specs.declared.program.BuildRefusal.TheVariants.{Scope, Node, Name, Place}
use Rattle.lucid_flat.specs.WrongRows.{PlacesAreRight}
use Rattle.lucid_flat.proofs.Rights.{refused}
use Rattle.lucid_flat.proofs.program.check_rows.Goals as goal

-- scopes that were looked at
some-scopes : (xs ys : List ScopeRow) → xs ≡ ys → (length xs ≡ 0 → ⊥) → AllRight ScopeIsRight xs → (ys ≢ []) × AllRight ScopeIsRight ys
some-scopes xs ys same some right = (λ e. some (ap length (same ∙ e)), subst (AllRight ScopeIsRight) same right)

wrong-scope : (xs ys : List ScopeRow) (at : ℕ) → xs ≡ ys → IsFirstWrong ScopeIsRight xs at → IsFirstWrong ScopeIsRight ys at
wrong-scope xs ys at same w = let P : List ScopeRow → Type 0 = λ zs. IsFirstWrong ScopeIsRight zs at in subst P same w

pub returns-then-is_empty-clause-refused : goal.returns-then-is_empty-clause-refused
returns-then-is_empty-clause-refused c =
    refused c.args.table.now (Scope 0) (no_scopes (sym c.items-scopes.ensures.value ∙ nil_from_length _ (eqb-true _ _ (sym c.if-is_empty.ensures))))

pub returns-in-Some-clause-refused : goal.returns-in-Some-clause-refused
returns-in-Some-clause-refused c =
    refused c.args.table.now (Scope c.in-Some.at) (wrong_scope c.in-Some.at (wrong-scope _ _ _ c.items-scopes.ensures.value c.in-Some.ensures))

pub returns-in-Some-first_wrong_node-clause-refused : goal.returns-in-Some-first_wrong_node-clause-refused
returns-in-Some-first_wrong_node-clause-refused c =
    let scopes = some-scopes _ _ c.items-scopes.ensures.value (eqb-false _ _ (sym c.if-is_empty.ensures)) c.in_default.ensures in
    refused c.args.table.now (Node c.in-Some-first_wrong_node.at) (wrong_node c.in-Some-first_wrong_node.at scopes c.in-Some-first_wrong_node.ensures)

pub returns-in-Some-first_wrong_name-clause-refused : goal.returns-in-Some-first_wrong_name-clause-refused
returns-in-Some-first_wrong_name-clause-refused c =
    let scopes = some-scopes _ _ c.items-scopes.ensures.value (eqb-false _ _ (sym c.if-is_empty.ensures)) c.in_default.ensures in
    refused c.args.table.now (Name c.in-Some-first_wrong_name.at)
    (wrong_name c.in-Some-first_wrong_name.at scopes c.in_default-first_wrong_node.ensures c.in-Some-first_wrong_name.ensures)

pub returns-in-Some-2-clause-refused : goal.returns-in-Some-2-clause-refused
returns-in-Some-2-clause-refused c =
    let scopes = some-scopes _ _ c.items-scopes.ensures.value (eqb-false _ _ (sym c.if-is_empty.ensures)) c.in_default.ensures in
    let w = MatchOption-at_some (PlacesAreRight c.args.table.now) (λ at. IsFirstWrong (λ id. PlaceIsRight c.args.table.now) c.args.table.now.places at)
    c.in-Some-2.at c.in-Some-2.is c.in_ok-at.ensures in
    refused c.args.table.now (Place c.in-Some-2.at)
    (wrong_place c.in-Some-2.at scopes c.in_default-first_wrong_node.ensures c.in_default-first_wrong_name.ensures w)
