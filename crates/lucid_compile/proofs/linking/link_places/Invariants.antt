use Rattle.lucid_compile.proofs.Common.{◌≡◌, ◌++◌, map, take, drop, linked_place, numbered}
use Rattle.lucid_compile.proofs.linking.link_places.Given as goal

-- the call places before this one are linked
abbrev pub invariant-loop-row : goal.invariant-loop-row
invariant-loop-row l = l.places ≡ map (linked_place (numbered l.source)) (take l.row-index l.initial.places) ++ drop l.row-index l.initial.places
