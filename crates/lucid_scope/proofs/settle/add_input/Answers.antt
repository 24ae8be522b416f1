use Rattle.lucid_scope.proofs.Common.{ℕ, List, [], ◌∷◌, ◌++◌, cond, ap, sym, ◌∙◌, list_any, same_name, not-false}
use Rattle.lucid_scope.proofs.Numbering.{any-keys, not_there}
use Rattle.lucid_scope.proofs.settle.add_input.Goals as goal

pub returns-in_ok-push-clause-names : goal.returns-in_ok-push-clause-names
returns-in_ok-push-clause-names c =
    let names : List (List ℕ) = c.args.names.now.items in
    let x : List ℕ = c.args.name.now in
    let among = ap (λ l. list_any (λ n. same_name x n) l) (sym c.requires)
    ∙ any-keys x c.in_ok-key.key c.args.set.now.keys (c.in_ok-key.ensures.items ∙ c.bytes.ensures.value) in
    let absent = among ∙ not_there _ c.in_ok-insert.field-0 c.in_ok-insert.ensures.added c.if-branch.true in
    c.in_ok-push.ensures.items ∙ ap (λ y. names ++ y ∷ []) c.in_ok-copy.ensures ∙ ap (λ b. cond b names (names ++ x ∷ [])) (sym absent)

pub returns-else-branch-clause-names : goal.returns-else-branch-clause-names
returns-else-branch-clause-names c =
    let names : List (List ℕ) = c.args.names.now.items in
    let x : List ℕ = c.args.name.now in
    let among = ap (λ l. list_any (λ n. same_name x n) l) (sym c.requires)
    ∙ any-keys x c.in_ok-key.key c.args.set.now.keys (c.in_ok-key.ensures.items ∙ c.bytes.ensures.value) in
    let present = among ∙ not-false _ (sym c.in_ok-insert.ensures.added ∙ c.if-branch.false) in
    ap (λ b. cond b names (names ++ x ∷ [])) (sym present)
