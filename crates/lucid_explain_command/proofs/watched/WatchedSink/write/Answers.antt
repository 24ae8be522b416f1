use Rattle.std.proofs.Common.{List, ℕ, Option, sym, subst}
use Rattle.lucid_explain_command.specs.Watching.{plain_marks, AreMarks}
use Rattle.lucid_explain_command.proofs.LinesSeen.{kept_more}
use Rattle.lucid_explain_command.proofs.watched.WatchedSink.write.Goals as goal

pub invariant_of-self-2 : goal.invariant_of-self-2
invariant_of-self-2 g c =
    let P : Option (List ℕ) → Type 0 = λ o. AreMarks o (plain_marks c.note_all-self.result) in
    record {
      notes = subst P (sym c.in_ok-taken.ensures.appended)
          (kept_more (g.K.Sink.written c.args.self.now.sink) (plain_marks c.args.self.now.noted) (plain_marks c.note_all-self.result)
          c.in_ok-taken.taken c.args.piece.now c.args.self.now.notes c.note_all-self.ensures);
    }
