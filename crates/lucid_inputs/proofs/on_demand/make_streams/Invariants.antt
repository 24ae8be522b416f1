use Rattle.lucid_inputs.proofs.Common.{◌≡◌, map, take, fresh_stream, stream_of}
use Rattle.lucid_inputs.proofs.on_demand.make_streams.Given as goal

abbrev pub invariant-loop-place : goal.invariant-loop-place
invariant-loop-place l = map stream_of l.made.items ≡ map fresh_stream (take l.place-index l.places)
