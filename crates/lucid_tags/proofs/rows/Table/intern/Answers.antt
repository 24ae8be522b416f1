use Rattle.lucid_tags.proofs.Common.{◌≡◌, ◌∙◌, ◌<◌, ◌^◌, suc, sym, subst, ap, inr, length, arith, slice_get, context_at, contexts, row_context, AreRows}
use Rattle.std.specs.Prelude.{◌++◌, ◌∷◌, [], Some}
use Rattle.lucid_lists.proofs.Options.{on_err}
use Rattle.lucid_tags.proofs.ListLemmas.{inserted-present, inserted-absent}
use Rattle.lucid_tags.proofs.RowLemmas.{length-contexts, length-depths, contexts-push, context_of-row, stored_row, added_context, addable, AreDepths-push, IsDepthOver, IsDepthOver-before, AreRows-push, fresh-none}
use Rattle.lucid_tags.proofs.rows.Table.intern.Goals as goal

pub returns-in_err-index-clause-unknown : goal.returns-in_err-index-clause-unknown
returns-in_err-index-clause-unknown c =
    on_err c.from_residual.result
    (fresh-none c.args.self.now.rows.keys c.args.self.now.depths.items c.requires.rows c.args.row c.requires.base c.requires.caller
    c.in_err-index.ensures.absent)

pub returns-then-not-added-clause-rows : goal.returns-then-not-added-clause-rows
returns-then-not-added-clause-rows c =
    let same = c.in_ok-index.ensures.keys ∙ inserted-present _ _ _ (sym c.if-not-added.true ∙ c.in_ok-index.ensures.added) in
    rw (same, c.reserve.ensures.items) c.requires.rows

pub returns-then-not-added-clause-within : goal.returns-then-not-added-clause-within
returns-then-not-added-clause-within c = omega (arith, c.in_ok-index.ensures.within, length-contexts c.insert_full.new.self.keys)

pub returns-then-not-added-clause-context : goal.returns-then-not-added-clause-context
returns-then-not-added-clause-context c =
    let same = c.in_ok-index.ensures.keys ∙ inserted-present _ _ _ (sym c.if-not-added.true ∙ c.in_ok-index.ensures.added) in
    let at = subst (λ k. slice_get k c.in_ok-index.index ≡ Some c.args.row) same (stored_row _ c.in_ok-index.index c.args.row c.in_ok-index.ensures.stored) in
    rw same
    (subst (λ n. context_at (contexts c.args.self.now.rows.keys) n ≡ row_context (contexts c.args.self.now.rows.keys) c.args.row) (omega arith)
    (context_of-row c.args.self.now.rows.keys c.args.self.now.depths.items c.requires.rows c.args.row c.in_ok-index.index at))

pub depth_over-depth-requires-clause-depths : goal.depth_over-depth-requires-clause-depths
depth_over-depth-requires-clause-depths c =
    let more = c.in_ok-index.ensures.keys ∙ inserted-absent _ _ _ (sym c.if-not-added.false ∙ c.in_ok-index.ensures.added) in
    rw (more, c.reserve.ensures.items) (AreDepths-push c.args.self.now.rows.keys c.args.self.now.depths.items c.requires.rows c.args.row)

pub depth_over-depth-requires-clause-known : goal.depth_over-depth-requires-clause-known
depth_over-depth-requires-clause-known c =
    omega (arith, c.requires.base, length-depths c.args.self.now.rows.keys c.args.self.now.depths.items c.requires.rows, ap length c.reserve.ensures.items)

pub returns-clause-rows : goal.returns-clause-rows
returns-clause-rows c =
    let rows = c.args.self.now.rows.keys in
    let absent = sym c.if-not-added.false ∙ c.in_ok-index.ensures.added in
    let more = c.in_ok-index.ensures.keys ∙ inserted-absent _ _ _ absent in
    let deeper = (rw c.unwrap.ensures at c.push.ensures.items) ∙ ap (λ ds. ds ++ c.depth_over-depth.result ∷ []) c.reserve.ensures.items in
    let few : suc (length rows) < 2 ^ 32 = omega arith in
    let there : IsDepthOver (contexts c.insert_full.new.self.keys) c.args.row.base c.depth_over-depth.result = record {
      level = c.depth_over-depth.ensures.level;
      low = c.depth_over-depth.ensures.low;
      before = c.depth_over-depth.ensures.before;
      outer = c.depth_over-depth.ensures.outer;
    } in
    let over = IsDepthOver-before rows c.args.row c.depth_over-depth.result c.requires.base
    (subst (λ k. IsDepthOver (contexts k) c.args.row.base c.depth_over-depth.result) more there) in
    rw (more, deeper) (AreRows-push rows c.args.self.now.depths.items c.requires.rows c.args.row c.depth_over-depth.result
    (addable rows c.args.row c.requires.base c.requires.caller absent few) over)

pub returns-clause-within : goal.returns-clause-within
returns-clause-within c = omega (arith, c.in_ok-index.ensures.within, length-contexts c.insert_full.new.self.keys)

pub returns-clause-added : goal.returns-clause-added
returns-clause-added c =
    let more = c.in_ok-index.ensures.keys ∙ inserted-absent _ _ _ (sym c.if-not-added.false ∙ c.in_ok-index.ensures.added) in
    inr (ap contexts more ∙ contexts-push c.args.self.now.rows.keys c.args.row)

pub returns-clause-context : goal.returns-clause-context
returns-clause-context c =
    let rows = c.args.self.now.rows.keys in
    let more = c.in_ok-index.ensures.keys ∙ inserted-absent _ _ _ (sym c.if-not-added.false ∙ c.in_ok-index.ensures.added) in
    let all = subst (λ k. AreRows k c.push.new.self.items) more (returns-clause-rows c) in
    let at = subst (λ k. slice_get k c.in_ok-index.index ≡ Some c.args.row) more (stored_row _ c.in_ok-index.index c.args.row c.in_ok-index.ensures.stored) in
    rw more
    (subst (λ n. context_at (contexts (rows ++ c.args.row ∷ [])) n ≡ row_context (contexts rows) c.args.row) (omega arith)
    (context_of-row (rows ++ c.args.row ∷ []) _ all c.args.row c.in_ok-index.index at ∙ added_context rows c.args.row c.requires.base c.requires.caller))
