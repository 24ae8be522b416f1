use Rattle.std.proofs.Common.{◌≡◌, length, drop, min, ap, arith}
use Rattle.lucid_ports.proofs.MemoryLemmas.{read_to-min}
use Rattle.lucid_ports.proofs.memory_outside.MemoryReader.advance.Goals as goal

pub returns : goal.returns
returns c =
    let r = c.args.self.now in
    let few : c.min.result ≡ min c.args.count (length (drop r.position r.bytes.now)) = omega (arith, c.min.ensures, ap length c.left.ensures) in
    read_to-min r.position c.args.count c.min.result r.bytes.now few
