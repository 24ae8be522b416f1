use Rattle.lucid_ops.proofs.Common.{◌≡◌, refl, find, has, rules, tests, YieldsList-from_slice, find_from_yields_List}
use Rattle.lucid_ops.proofs.RowsInOrder.{find_plain}
use Rattle.lucid_ops.proofs.table.Table.find.Goals as goal

pub returns : goal.returns
returns g c =
    let test = λ (r : g.row.R.Denot). has c.args.form c.args.spelling.now (g.R.TableRow.seen_row r) in
    let found = find_from_yields_List test _ _ c.find.result c.find.ensures.ran (YieldsList-from_slice c.self.inside.rows cc)
    (λ x b q k. search (rules, tests)) in
    let same : c.copied.result ≡ find test c.args.self.now = search (rules, found) in
    record { found = same; in_plain_form = rw (find_plain g.R.TableRow.seen_row (has c.args.form c.args.spelling.now) c.args.self.now, same) refl }
