use Rattle.lucid_session.proofs.Points.{points_of_one}
use Rattle.lucid_session.proofs.laws.one_streams_points.Goals as goal

pub returns : goal.returns
returns c = points_of_one
