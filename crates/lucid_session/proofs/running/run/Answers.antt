use Rattle.lucid_session.proofs.Common.{refl, table_of, reads_only_itself}
use Rattle.lucid_session.proofs.AllOpen.{one_true}
use Rattle.lucid_session.proofs.OneColumn.{promise_one}
use Rattle.lucid_session.proofs.Steps.{fresh_there, run_there}
use Rattle.lucid_session.proofs.Unmade.{nothing_there}
use Rattle.lucid_session.proofs.running.run.Goals as goal

pub returns-in_default : goal.returns-in_default
returns-in_default g c =
    promise_one (table_of c.args.program) _ _ (nothing_there (table_of c.args.program) 1 _ (record { after = refl; out_after = refl }) (reads_only_itself _ _))

pub write_lines-requires-clause-fresh : goal.write_lines-requires-clause-fresh
write_lines-requires-clause-fresh g c = fresh_there _ _ _ c.in-Ok.ensures.sound c.in-Ok.ensures.made c.requires.askable refl refl

pub write_lines-requires-clause-opened : goal.write_lines-requires-clause-opened
write_lines-requires-clause-opened g c = one_true

pub returns : goal.returns
returns g c = promise_one (table_of c.args.program) _ _ (run_there c.args.options.now _ _ _ _ _ _ _ c.in-Ok.ensures.made 1 c.write_lines.ensures)
