use Rattle.std.proofs.Common.{◌≡◌, ◌≤◌, [], slice_range, subst, sym, arith}
use Rattle.lucid_ports.proofs.SupplyLemmas.{none_taken}
use Rattle.lucid_ports.proofs.WindowLemmas.{empty_range, nothing_between}
use Rattle.lucid_ports.proofs.window.Window.read.Goals as goal

pub returns-in_err-count-clause-tied : goal.returns-in_err-count-clause-tied
returns-in_err-count-clause-tied g c =
    let w = c.self.inside in
    let none : slice_range w.buffer.items w.start w.end ≡ [] = subst (λ s. s.bytes ≡ []) (sym c.self.view_is) c.requires in
    let over : w.end ≤ w.start = empty_range w.buffer.items w.start w.end (omega arith) none in
    none_taken _ _ (nothing_between _ w.start w.end over)
