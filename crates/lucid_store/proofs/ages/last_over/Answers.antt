use Rattle.lucid_store.proofs.Common.{length, sym, arith}
use Rattle.lucid_store.proofs.Besides.{joined_within}
use Rattle.lucid_store.proofs.BlockLemmas.{block_is_young, over_front}
use Rattle.lucid_store.proofs.ages.last_over.Goals as goal

pub loop-end-preserved : goal.loop-end-preserved
loop-end-preserved c =
    let inside = c.loop-end.invariant.inside in
    let start = c.saturating_sub-start.ensures in
    record {
      inside = omega (arith, start, inside);
      later = joined_within c.args.limit c.saturating_sub-start.result c.loop-end.end (length c.args.ages.now) c.args.ages.now
          (block_is_young c.args.limit c.saturating_sub-start.result c.loop-end.end c.args.ages.now inside (sym c.if-not-is_none_over.ensures))
          c.loop-end.invariant.later;
    }

pub returns : goal.returns
returns c = over_front c.args.limit c.loop-end.end c.args.ages.now c.search.result c.loop-end.invariant.inside c.loop-end.invariant.later c.search.ensures
