use Rattle.std.proofs.Common.{◌≡◌, ℕ, ◌≤◌, ◌<◌, length, subst, arith}
use Rattle.lucid_ports.specs.World.{IsConsumed}
use Rattle.lucid_explain_command.specs.Keeping.{plain_kept, place_in}
use Rattle.lucid_explain_command.proofs.FirstKept.{consumed_kept}
use Rattle.lucid_explain_command.proofs.remembering.RememberingPlaces.consume.Goals as goal

pub invariant_of-self : goal.invariant_of-self
invariant_of-self g c =
    let self = c.args.self.now in
    let k = plain_kept self.kept in
    let m = plain_kept c.consume-then-place-eq0.new.self in
    let v = g.P.Places.world self.inner in
    let w = g.P.Places.world c.consume.new.self in
    let first : c.args.place ≡ 0 = c.if-place-eq0.true in
    let moved : IsConsumed c.args.n (v.place 0) (w.place 0) =
    subst (λ (j : ℕ). IsConsumed c.args.n (v.place j) (w.place j)) first c.consume.ensures.consumed in
    let within : c.args.n ≤ length k.shown = subst (λ (j : ℕ). c.args.n ≤ (place_in k v j).shown) first c.requires.shown in
    let kept = c.consume-then-place-eq0.ensures in
    let some : 0 < v.reached = omega (arith, c.requires.reached) in
    record { keeps = λ _. consumed_kept (v.place 0) (w.place 0) k m c.args.n (self.keeps some) within moved kept.taken kept.shown }
