use Rattle.lucid_tags.proofs.Common.{◌≡◌, sym, subst, ap, ◌∙◌, arith, slice_get_within, context_at, contexts, row_context}
use Rattle.std.specs.Prelude.{Some}
use Rattle.lucid_tags.proofs.RowLemmas.{length-contexts, context_of-row, found_row, fresh-none, if_none}
use Rattle.lucid_tags.proofs.rows.Table.number_of.Goals as goal

pub returns-in_err-index-clause-unknown : goal.returns-in_err-index-clause-unknown
returns-in_err-index-clause-unknown c =
    if_none c.from_residual.result
    (fresh-none c.args.self.now.rows.keys c.args.self.now.depths.items c.requires.rows c.args.row c.requires.base c.requires.caller
    (sym c.in_err-index.ensures.found))

pub returns-clause-within : goal.returns-clause-within
returns-clause-within c =
    let rows = c.args.self.now.rows.keys in
    omega (arith, length-contexts rows, slice_get_within rows c.in_ok-index.index _ c.in_ok-index.ensures.stored)

pub returns-clause-context : goal.returns-clause-context
returns-clause-context c =
    let rows = c.args.self.now.rows.keys in
    let same = found_row rows c.args.row c.in_ok-index.field-0-1.now c.in_ok-index.ensures.key in
    subst (λ n. context_at (contexts rows) n ≡ row_context (contexts rows) c.args.row) (omega arith)
    (context_of-row rows c.args.self.now.depths.items c.requires.rows c.args.row c.in_ok-index.index (c.in_ok-index.ensures.stored ∙ ap Some same))
