use Rattle.std.proofs.Common.{◌≡◌, Option, subst, arith}
use Rattle.std.specs.Prelude.{IfSome, IfNone}
use Rattle.lucid_explain_run.specs.declared.inputs.Lacking.{Lacking}
use Rattle.lucid_explain_run.specs.Inputs.{IsLacking, IsWanted}
use Rattle.lucid_explain_run.proofs.First.{first_no_room, first_lacks, first_passed}
use Rattle.lucid_explain_run.proofs.inputs.lacking_if.Goals as goal

pub returns-then-room-eq0-clause-first : goal.returns-then-room-eq0-clause-first
returns-then-room-eq0-clause-first c = λ names those f.
    first_no_room c.args.sought.now.scoped.now c.args.sought.now.given.now c.args.sought.now.end c.args.room c.args.stream c.args.name.now names those (omega arith) f

pub returns-then-is_given-clause-first : goal.returns-then-is_given-clause-first
returns-then-is_given-clause-first c = λ names those f.
    first_passed c.args.sought.now.scoped.now c.args.sought.now.given.now c.args.sought.now.end c.args.room c.args.stream c.args.name.now names those
    (λ w. w.free (c.is_given.ensures.0 c.if-is_given.true)) f

pub returns-in-Some-clause-first : goal.returns-in-Some-clause-first
returns-in-Some-clause-first c = λ names those f.
    let P : Option Lacking → Type 0 = λ o. IfSome o (IsLacking c.args.sought.now.scoped.now c.args.sought.now.given.now c.args.stream) in
    let Q : Option Lacking → Type 0 = λ o. IfSome o (λ l. l.name.now ≡ c.args.name.now) in
    first_lacks c.args.sought.now.scoped.now c.args.sought.now.given.now c.args.sought.now.end c.args.room c.args.stream c.in-Some.lacking c.args.name.now names those (omega arith)
    (subst P c.in-Some.is c.in_ok-lacking.ensures.lacking) (subst Q c.in-Some.is c.in_ok-lacking.ensures.named) f

pub returns-in-None-clause-first : goal.returns-in-None-clause-first
returns-in-None-clause-first c = λ names those f.
    let P : Option Lacking → Type 0 = λ o. IfNone o (IsWanted c.args.sought.now.scoped.now c.args.sought.now.given.now c.args.sought.now.end c.args.stream c.args.name.now → ⊥) in
    first_passed c.args.sought.now.scoped.now c.args.sought.now.given.now c.args.sought.now.end c.args.room c.args.stream c.args.name.now names those
    (subst P c.in-None.is c.in_ok-lacking.ensures.none) f
