use Rattle.lucid_session.proofs.Common.{refl, table_of, reads_only_itself}
use Rattle.lucid_session.proofs.AllOpen.{all_true, front_size}
use Rattle.lucid_session.proofs.Steps.{columns_there, fresh_there, run_there}
use Rattle.lucid_session.proofs.Unmade.{nothing_there}
use Rattle.lucid_session.proofs.running.run_columns.Goals as goal

pub returns-in_default : goal.returns-in_default
returns-in_default g c =
    nothing_there (table_of c.args.program) c.args.columns _ (record { after = refl; out_after = refl }) (reads_only_itself _ _)

pub write_lines-requires-clause-fresh : goal.write_lines-requires-clause-fresh
write_lines-requires-clause-fresh g c = fresh_there _ _ _ c.in-Ok.ensures.sound c.in-Ok.ensures.made c.requires.askable refl refl

pub write_lines-requires-clause-opened : goal.write_lines-requires-clause-opened
write_lines-requires-clause-opened g c = all_true c.args.columns 16

pub returns : goal.returns
returns g c =
    columns_there (table_of c.args.program) _ _ _ _ (front_size c.args.columns 16 c.requires.columns)
    (run_there c.args.options.now _ _ _ _ _ _ _ c.in-Ok.ensures.made _ c.write_lines.ensures)
