use Rattle.lucid_columns.proofs.Common.{◌+◌, Some, refl, sym, ap, ◌∙◌, arith, block, slice_get-get_or}
use Rattle.lucid_columns.proofs.Searching.{one_more}
use Rattle.lucid_columns.proofs.columns.find_columns.Goals as goal

pub loop-index-preserved : goal.loop-index-preserved
loop-index-preserved c at e =
    one_more (block at e c.args.defs.now) c.args.columns.now c.loop-index.index (c.loop-index.index + 1) c.index-columns-index.result
    (c.loop-index.invariant at e)
    (slice_get-get_or c.args.columns.now c.loop-index.index c.index-columns-index.result c.loop-index-test.true ∙ ap Some (sym c.index-columns-index.is))
    (sym c.has_plain.ensures ∙ c.if-not-has_plain.false) refl

pub returns-then-not-has_plain-clause-refused : goal.returns-then-not-has_plain-clause-refused
returns-then-not-has_plain-clause-refused c at e = record {
  before = c.loop-index.invariant at e;
  name = c.index-columns-index.result;
  is = slice_get-get_or c.args.columns.now c.loop-index.index c.index-columns-index.result c.loop-index-test.true ∙ ap Some (sym c.index-columns-index.is);
  missing = sym c.has_plain.ensures ∙ c.if-not-has_plain.true;
}

pub returns-clause-found : goal.returns-clause-found
returns-clause-found c at e j n lt is = c.loop-index.invariant at e j n (omega (arith, lt, c.loop-index-test.false)) is
