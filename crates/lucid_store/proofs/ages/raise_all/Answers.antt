use Rattle.lucid_store.proofs.Common.{◌<◌, length, arith, get_or_default, older, map_over_more}
use Rattle.std.proofs.Common.{slice_index_or}
use Rattle.lucid_store.proofs.ages.raise_all.Goals as goal

pub loop-index-preserved : goal.loop-index-preserved
loop-index-preserved c =
    let x = slice_index_or c.loop-index.ages c.loop-index.index 0 in
    let within : c.loop-index.index < length c.args.ages.now = omega arith in
    let here : c.loop-index.index < length c.loop-index.ages = omega arith in
    rw c.saturating_add.ensures (map_over_more older c.args.ages.now c.loop-index.ages c.loop-index.index x within c.loop-index.invariant
    (get_or_default c.loop-index.ages c.loop-index.index 0 x here))
