use Rattle.lucid_scope.proofs.Common.{cond, ap, sym, ◌∙◌, same_name, look, put_back, Saved}
use Rattle.std.proofs.Common.{Some}
use Rattle.lucid_scope.proofs.Hiding.{saved_back}
use Rattle.lucid_scope.proofs.table.hide.Goals as goal

pub returns-clause-saves : goal.returns-clause-saves
returns-clause-saves c n =
    let saved : Saved = record { name = c.in_ok-name.name; owner = c.in_ok-before.before } in
    ap (λ l. put_back l (look c.set.new.self) n) c.in_ok-push.ensures.items
    ∙ saved_back c.args.saved.now.items saved (Some c.args.owner) (look c.args.table.now) (look c.set.new.self)
    (c.in_ok-before.ensures.before ∙ ap (look c.args.table.now) (sym c.in_ok-name.ensures))
    (λ m. c.in_ok-before.ensures.sets m ∙ ap (λ x. cond (same_name m x) (Some c.args.owner) (look c.args.table.now m)) (sym c.in_ok-name.ensures))
    n
