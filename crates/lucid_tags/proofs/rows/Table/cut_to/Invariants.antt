use Rattle.lucid_tags.proofs.Common.{◌≤◌, length, context_at, IsOuter, contexts, IsDepth}
use Rattle.lucid_tags.proofs.rows.Table.cut_to.Given as goal

abbrev pub invariant-loop-depth : goal.invariant-loop-depth
invariant-loop-depth l = record {
  known : l.at ≤ length l.self.depths.items;
  before : l.at ≤ l.fn.number;
  right : IsDepth (contexts l.self.rows.keys) l.at l.depth;
  deep : l.level ≤ l.depth.level;
  outer : IsOuter (context_at (contexts l.self.rows.keys) l.at) (context_at (contexts l.self.rows.keys) l.fn.number);
}

abbrev pub decreases-loop-depth : goal.decreases-loop-depth
decreases-loop-depth l = l.at
