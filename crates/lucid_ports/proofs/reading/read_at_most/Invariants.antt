use Rattle.lucid_ports.proofs.Common.{◌≡◌, ◌≤◌, ◌-◌, take, IfSome, option_map, vec_len, advanced, KeepsOthers}
use Rattle.lucid_ports.specs.Faults.{AsksNoneLate}
use Rattle.lucid_ports.proofs.reading.read_at_most.Given as goal

abbrev pub invariant-loop-bytes : goal.invariant-loop-bytes
invariant-loop-bytes g l =
    let old = g.P.Places.world l.initial.places in
    let new = g.P.Places.world l.places in
    record {
      bound : vec_len l.bytes ≤ l.most;
      bytes : IfSome (old.place l.place).contents (λ c. l.bytes.items ≡ take (vec_len l.bytes) c.left);
      contents : (new.place l.place).contents ≡ option_map (advanced (vec_len l.bytes)) (old.place l.place).contents;
      reached : new.reached ≡ old.reached;
      faults : new.faults ≡ old.faults;
      late : AsksNoneLate old new;
      others : KeepsOthers l.place old new;
    }

abbrev pub decreases-loop-bytes : goal.decreases-loop-bytes
decreases-loop-bytes g l = l.most - vec_len l.bytes
