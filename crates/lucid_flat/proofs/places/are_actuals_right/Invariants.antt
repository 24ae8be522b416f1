use Rattle.lucid_flat.proofs.SoundCommon.{drop, ◌↔◌, EachStandsIn}
use Rattle.lucid_flat.proofs.places.are_actuals_right.Given as goal

-- all stand there where those from this one on do
abbrev pub invariant-loop-actual : goal.invariant-loop-actual
invariant-loop-actual l = EachStandsIn l.rows l.scope (drop l.actual-index l.actuals) ↔ EachStandsIn l.rows l.scope l.actuals
