use Rattle.lucid_scope.proofs.Common.{ℕ, cond, Vec, Global, refl, ap, ◌∙◌, lookup, same_name, look, flattened}
use Rattle.lucid_scope.proofs.Tables.{lookup-insert, flattened-cond}
use Rattle.lucid_scope.proofs.table.Table.set.Goals as goal

pub returns-clause-sets : goal.returns-clause-sets
returns-clause-sets c n =
    let key_is = c.in_ok-key.ensures.items ∙ c.bytes.ensures.value in
    ap (λ es. flattened (lookup (λ (k : Vec ℕ Global). same_name n k.items) es)) c.in_ok-insert.ensures.entries
    ∙ ap flattened (lookup-insert (λ (k : Vec ℕ Global). k.items) _ (λ j k. refl) c.args.self.now.rows.entries c.in_ok-key.key c.args.owner n)
    ∙ flattened-cond (same_name n c.in_ok-key.key.items) c.args.owner (lookup (λ (k : Vec ℕ Global). same_name n k.items) c.args.self.now.rows.entries)
    ∙ ap (λ x. cond (same_name n x) c.args.owner (look c.args.self.now n)) key_is
