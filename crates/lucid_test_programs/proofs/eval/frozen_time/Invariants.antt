use Rattle.lucid_test_programs.proofs.Common.{◌≡◌, drop, defs_of, frozen_at}
use Rattle.lucid_test_programs.proofs.eval.frozen_time.Given as goal

abbrev pub invariant-loop-def : goal.invariant-loop-def
invariant-loop-def l = frozen_at (defs_of (drop l.def-index l.def-items)) l.time ≡ frozen_at (defs_of l.def-items) l.time
