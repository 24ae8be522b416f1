use Rattle.std.proofs.Common.{arith, sym}
use Rattle.std.proofs.lemmas.List.{drop-drop, length-drop}
use Rattle.std.proofs.Math.Seq.{take-add}
use Rattle.lucid_explain_command.proofs.kept.Kept.consume.Goals as goal

pub invariant_of-self : goal.invariant_of-self
invariant_of-self c =
    let self = c.args.self.now in
    record {
      begun = omega (arith, self.begun);
      within = omega (arith, c.requires, length-drop self.consumed self.bytes.items, self.bytes.ok.0);
    }

pub returns-clause-taken : goal.returns-clause-taken
returns-clause-taken c = take-add c.args.self.now.consumed c.args.n c.args.self.now.bytes.items

pub returns-clause-shown : goal.returns-clause-shown
returns-clause-shown c = sym (drop-drop c.args.n c.args.self.now.consumed c.args.self.now.bytes.items)

pub returns-clause-used : goal.returns-clause-used
returns-clause-used c = omega (arith, c.args.self.now.begun)
