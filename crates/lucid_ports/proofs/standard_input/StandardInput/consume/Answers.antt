use Rattle.std.proofs.Common.{◌≡◌, drop, ap}
use Rattle.lucid_ports.specs.Window.{Shown}
use Rattle.lucid_ports.proofs.StandardInputLemmas.{kept_consumed, taken_consumed}
use Rattle.lucid_ports.proofs.standard_input.StandardInput.consume.Goals.{in-Kept, in_default}
use Rattle.lucid_ports.proofs.standard_input.StandardInput.consume.Goals as goal

pub returns-clause-contents : goal.returns-clause-contents
returns-clause-contents g c =
    let fewer : c.consume.new.self.bytes ≡ drop c.args.count c.args.window.now.bytes = ap (λ (w : Shown). w.bytes) c.consume.ensures in
    elim c.match-self.branch [
      | in-Kept w ↦ rw w.self-is (kept_consumed c.args.self.now.manner c.args.window.now.bytes c.consume.new.self.bytes _ _ c.args.count w.in-Kept.is w.skip.ensures)
      | in_default w ↦ rw w.self-is (taken_consumed c.args.self.now.manner c.args.window.now.bytes c.consume.new.self.bytes _ c.args.count w.in_default.not-Kept fewer c.requires.within c.requires.tied)
    ]
