use Rattle.lucid_cert_rules.proofs.NeedCommon.{◌≡◌, ◌++◌, map}
use Rattle.std.proofs.Common.{drop}
use Rattle.lucid_cert_rules.specs.Outlines.{lines_at}
use Rattle.lucid_cert_rules.specs.Walks.{plain_line}
use Rattle.lucid_cert_rules.proofs.telling.Telling.wait_for.Given as goal

-- the last lines wait
abbrev pub invariant-loop-i : goal.invariant-loop-i
invariant-loop-i l = record {
  waiting : map plain_line l.self.waiting ≡ lines_at l.depth (drop l.i l.found) ++ map plain_line l.initial.self.waiting;
  told : l.self.told.keys ≡ l.initial.self.told.keys;
  entries : l.self.entries.items ≡ l.initial.self.entries.items;
}
