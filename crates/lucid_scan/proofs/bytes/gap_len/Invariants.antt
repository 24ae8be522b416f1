use Rattle.lucid_scan.proofs.Common.{◌≡◌, ◌≤◌, ◌+◌, ◌-◌, drop, cond, length, gap, comment}
use Rattle.lucid_scan.proofs.bytes.gap_len.Given as goal

-- the bytes so far belong to the gap
abbrev pub invariant-loop-i : goal.invariant-loop-i
invariant-loop-i l = record {
  within : l.i ≤ length l.bytes;
  so_far : gap l.bytes ≡ l.i + cond l.in_comment (comment (drop l.i l.bytes)) (gap (drop l.i l.bytes));
}

abbrev pub decreases-loop-i : goal.decreases-loop-i
decreases-loop-i l = length l.bytes - l.i
