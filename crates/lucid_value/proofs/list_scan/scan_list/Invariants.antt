use Rattle.lucid_value.proofs.Common.{◌≡◌, Some, false, take, start, runs, state_of, is_done}
use Rattle.lucid_value.proofs.list_scan.scan_list.Given as goal

abbrev pub invariant-loop-i : goal.invariant-loop-i
invariant-loop-i l = record {
  reads : runs (Some start) (take l.i l.tail) ≡ Some (state_of l.scan);
  open_yet : is_done (state_of l.scan) ≡ false;
}
