use Rattle.std.proofs.Common.{List, ℕ, length, subst}
use Rattle.std.specs.Prelude.{Result, IfOk}
use denote.Ref.{Bor}
use Rattle.lucid_ports.specs.declared.fault.PortFault.{PortFault}
use Rattle.lucid_ports.specs.World.{IsShown}
use Rattle.lucid_explain_command.specs.Keeping.{plain_piece}
use Rattle.lucid_explain_command.proofs.FirstKept.{front_cut, short_shown}
use Rattle.lucid_explain_command.proofs.remembering.copy_piece.Goals as goal

pub returns-clause-front : goal.returns-clause-front
returns-clause-front g c =
    front_cut ((g.P.Places.world c.args.inner.now).place c.args.place).contents 256 c.in_ok-shown.shown.now (plain_piece c.copy.new.self) c.copy.ensures
    c.in_ok-shown.ensures.front

pub returns-clause-shown : goal.returns-clause-shown
returns-clause-shown g c =
    let before = (g.P.Places.world c.args.inner.now).place c.args.place in
    let after = (g.P.Places.world c.fill.follows.lender-at-none).place c.args.place in
    let S : Result (Bor (List ℕ)) PortFault → Type 0 = λ r. IfOk r (λ piece. IsShown (length piece.now) before after) in
    short_shown before after c.in_ok-shown.shown.now (plain_piece c.copy.new.self) c.copy.ensures (subst S c.in_ok-shown.was c.fill.follows.holds-at-none.0.shown)
