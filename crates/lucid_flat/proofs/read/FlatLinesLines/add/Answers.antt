use Rattle.lucid_flat.proofs.Common.{◌≡◌, ◌++◌, [], ◌∷◌, Bool, refl, ap, ◌∙◌, MatchBool, bytes_eq, IfOk-weaker, CannotGoOn, FlatLines, AreTableLines, rows_in, AreBegun, lines_of_rows}
use Rattle.lucid_flat.proofs.FirstLine.{row_added, first_added}
use Rattle.lucid_flat.proofs.read.FlatLinesLines.add.Goals as goal

pub returns-then-self : goal.returns-then-self
returns-then-self c =
    let l = c.args.self.now in
    let m : FlatLines = record { has_first = l.has_first; rows = c.add_row.new.rows } in
    let old = lines_of_rows (rows_in l.rows) in
    let line = c.args.line.now in
    IfOk-weaker c.add_row.result (λ (added : Bool).
    MatchBool added (AreBegun m.rows × (lines_of_rows (rows_in m.rows) ≡ old ++ line ∷ [])) (CannotGoOn AreTableLines (old ++ line ∷ []))) _
    (λ added h. row_added l m line added c.if-self.true c.if-self.true h) c.add_row.ensures

pub returns : goal.returns
returns c =
    let l = c.args.self.now in
    let m : FlatLines = record { has_first = c.eq-self.result; rows = l.rows } in
    first_added l m c.args.line.now c.eq-self.result c.requires c.if-self.false refl refl (c.eq-self.ensures ∙ ap (bytes_eq c.args.line.now) c.as_slice.ensures)
