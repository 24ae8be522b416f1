use Rattle.std.proofs.Common.{◌≡◌, drop, ap}
use Rattle.lucid_ports.specs.Source.{manner_of, told_of}
use Rattle.lucid_ports.specs.Window.{Shown}
use Rattle.lucid_ports.specs.declared.standard_input.Manner.TheVariants.{Taken}
use Rattle.lucid_ports.proofs.StandardInputLemmas.{taken_consumed}
use Rattle.lucid_ports.proofs.real_place.RealPlace.consume.Goals as goal

pub returns-in-File-clause-contents : goal.returns-in-File-clause-contents
returns-in-File-clause-contents g c =
    let p = c.args.self.now in
    let fewer : c.consume.new.self.bytes ≡ drop c.args.count p.window.bytes = ap (λ (w : Shown). w.bytes) c.consume.ensures in
    let taken : manner_of p.source ≡ Taken = ap manner_of c.in-File.is in
    taken_consumed (manner_of p.source) p.window.bytes c.consume.new.self.bytes (told_of g.F.Supply.contents g.I.Supply.contents p.source) c.args.count
    (λ kept. cc) fewer c.requires p.tied
