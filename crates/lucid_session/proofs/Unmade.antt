-- A run of columns for which there was no memory at all.
use Rattle.lucid_session.proofs.Common.{ℕ, Err, Table, ReadsOnly, columns_subject, table_columns, RunView, columns_counted, PromisesColumns}
use Rattle.lucid_ports.specs.declared.run.RunFault.TheVariants.{NoMemory}
use Rattle.lucid_session.proofs.Stopped.{DidNothing, ran_nothing, figures_nothing, causes_nothing}

pub nothing_there : (T : Table) (n : ℕ) (r : RunView) → DidNothing r → ReadsOnly r.places r.before r.after → PromisesColumns T n r (Err NoMemory)
nothing_there T n r did reads = record {
  headline = λ b has. ran_nothing (columns_subject (table_columns T n)) b r did;
  figures = λ b has. figures_nothing (columns_counted T n) b r;
  causes = causes_nothing r did;
  reads_only = reads;
}
