use Rattle.lucid_compile.proofs.Common.{◌≡◌, take}
use Rattle.std.specs.Prelude.{fold}
use Rattle.lucid_compile.specs.Origins.{with_spot, places_of}
use Rattle.lucid_compile.proofs.tracing.Origins.add_all.Given as goal

-- the rows of the spots before this one are added
abbrev pub invariant-loop-spot : goal.invariant-loop-spot
invariant-loop-spot l = places_of l.self ≡ fold with_spot (places_of l.initial.self) (take l.spot-index l.spots)
