use Rattle.lucid_session.proofs.Alike.{same_runs}
use Rattle.lucid_session.proofs.laws.same_streams_run_alike.Goals as goal

pub returns : goal.returns
returns c = same_runs
