use Rattle.std.proofs.Common.{◌+◌, ◌-◌, ◌≤◌, ℕ, List, length, slice_range, sym, ap, subst, arith}
use Rattle.lucid_ports.specs.Window.{Shown}
use Rattle.lucid_ports.proofs.WindowLemmas.{slice_range_later, length-slice_range}
use Rattle.lucid_ports.proofs.window.Window.consume.Goals as goal

pub returns : goal.returns
returns c =
    let w = c.self.inside in
    let n = c.args.count in
    let within : n ≤ length (slice_range w.buffer.items w.start w.end) = subst (λ s. n ≤ length s.bytes) (sym c.self.view_is) c.requires in
    let few : n ≤ w.end - w.start = omega (arith, length-slice_range w.buffer.items w.start w.end (omega arith)) in
    let with_bytes : List ℕ → Shown = λ l. record { bytes = l; used = w.used + n } in
    rw (← c.self.view_is) (ap with_bytes (slice_range_later w.buffer.items w.start w.end n few))
