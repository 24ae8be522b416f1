use Rattle.std.proofs.Common.{◌≤◌, ◌-◌, length, arith}
use Rattle.lucid_explain_command.proofs.FirstKept.{added_taken, added_shown, not_added}
use Rattle.lucid_explain_command.proofs.kept.Kept.add.Goals as goal

pub returns-clause-taken : goal.returns-clause-taken
returns-clause-taken c =
    let self = c.args.self.now in
    let within : self.consumed ≤ length self.bytes.items = omega (arith, self.within, self.bytes.ok.0) in
    added_taken _ self.consumed self.bytes.items c.args.piece.now _ within c.extend_from_slice.ensures.items

pub returns-clause-shown : goal.returns-clause-shown
returns-clause-shown c =
    let self = c.args.self.now in
    let within : self.consumed ≤ length self.bytes.items = omega (arith, self.within, self.bytes.ok.0) in
    added_shown c.extend_from_slice.result self.consumed self.bytes.items c.args.piece.now _ within c.extend_from_slice.ensures.items

pub returns-clause-same : goal.returns-clause-same
returns-clause-same c =
    let self = c.args.self.now in
    not_added c.extend_from_slice.result self.consumed (self.consumed - self.from) self.bytes.items c.args.piece.now _ c.extend_from_slice.ensures.items
