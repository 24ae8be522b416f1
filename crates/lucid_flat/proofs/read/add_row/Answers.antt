use Rattle.lucid_flat.proofs.Common.{◌≡◌, ◌++◌, [], ◌∷◌, Bool, Option, subst, MatchBool, option_map, IfOk-weaker, Row, plain_row, IsRowOf, rows_in, AreBegun, CannotCome}
use Rattle.lucid_flat.proofs.WholeLines.{no_row_here, of_line}
use Rattle.lucid_flat.proofs.read.add_row.Goals as goal

pub returns-in-Some : goal.returns-in-Some
returns-in-Some c =
    let P : Option Row → Type 0 = λ o. IsRowOf c.args.line.now (option_map plain_row o) in
    let f = subst P c.in-Some.is c.in_ok-row.ensures in
    let old = rows_in c.args.rows.now in
    let new = c.add.new.self in
    IfOk-weaker c.add.result (λ (added : Bool). MatchBool added (AreBegun new × (rows_in new ≡ old ++ plain_row c.in-Some.row ∷ []))
    (CannotCome old (plain_row c.in-Some.row))) _
    (λ added h. of_line c.one_value.ensures (AreBegun new) old (rows_in new) (plain_row c.in-Some.row) c.args.line.now added c.requires.fit f.0 f.1 h)
    c.add.ensures

pub returns-in-None : goal.returns-in-None
returns-in-None c =
    let P : Option Row → Type 0 = λ o. IsRowOf c.args.line.now (option_map plain_row o) in
    no_row_here c.one_value.ensures _ _ c.requires.fit (subst P c.in-None.is c.in_ok-row.ensures)
