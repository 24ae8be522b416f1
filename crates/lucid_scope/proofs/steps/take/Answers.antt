use Rattle.lucid_scope.proofs.Common.{◌∷◌, ap, sym, ◌∙◌, look, put_back, told}
use Rattle.std.proofs.lemmas.Result.{on_ok_weaker}
use Rattle.lucid_scope.proofs.Stepping.{left_again}
use Rattle.lucid_scope.proofs.steps.take.Goals as goal

pub returns-in-Close-clause-told : goal.returns-in-Close-clause-told
returns-in-Close-clause-told c =
    let w = c.args.walk.now in
    let st = c.args.steps.now in
    on_ok_weaker c.leave.result
    (λ l.
    left_again w.marks.items st (look c.leave.new.table) (put_back c.in-Close.saved.items (look w.table)) l
    ∙ ap (λ s. told w (s ∷ st)) (sym c.in-Close.is))
    c.leave.ensures
