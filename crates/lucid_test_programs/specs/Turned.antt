-- The answers of the code, in plain form.
use Rattle.std.specs.Option.{option_map}
use Rattle.lucid_value.specs.View.{plain}
use Rattle.lucid_test_programs.specs.declared.eval.Turn.{Turn}
use Rattle.lucid_test_programs.specs.declared.eval.Turn.TheVariants.{On, Off, Ends as EndsTurn}
use Rattle.lucid_test_programs.specs.declared.eval.Place.{Place}
use Rattle.lucid_test_programs.specs.declared.eval.Place.TheVariants.{At, Ends as EndsPlace}
use Rattle.lucid_test_programs.specs.Turns.{Turning, turns_on, turns_off, ends, Placing, at_place, no_place}

abbrev pub turn_seen : Turn → Turning
turn_seen On = turns_on
turn_seen Off = turns_off
turn_seen (EndsTurn o) = ends (option_map plain o)

abbrev pub place_seen : Place → Placing
place_seen (At u) = at_place u
place_seen (EndsPlace o) = no_place (option_map plain o)
