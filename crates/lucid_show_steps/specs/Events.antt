-- What is noted, in plain data.
use Rattle.std.specs.Prelude.{ℕ, List, Option, Bool, map, option_map}
use Rattle.lucid_value.specs.Plain.{PlainValue}
use Rattle.lucid_value.specs.View.{plain}
use Rattle.lucid_tags.specs.declared.Key.{Key}
use Rattle.lucid_show_steps.specs.declared.event.Event.{Event}
use Rattle.lucid_show_steps.specs.declared.event.Event.TheVariants as event
use Rattle.lucid_show_steps.specs.declared.event.Touched.{Touched}

-- a key that was touched, its value, and whether it was added to those that are held
pub record PlainTouched : Type 0 where
  pub key : Key
  pub value : PlainValue
  pub added : Bool

-- A turn of the policy, with what was touched before it, what it dropped, and how many more; the pick of a row that takes a step; a line; and how
-- many touched or dropped values are left out.
pub data PlainEvent : Type 0 where
  turn : (touched : Option PlainTouched) → (dropped : List Key) → (more : ℕ) → PlainEvent
  pick : PlainEvent
  line : PlainEvent
  left_out : (count : ℕ) → PlainEvent

abbrev pub plain_touched : Touched → PlainTouched
plain_touched t = record { key = t.key; value = plain t.value; added = t.added }

abbrev pub plain_event : Event → PlainEvent
plain_event (event.Turn touched dropped more) = turn (option_map plain_touched touched) dropped.items more
plain_event event.Pick = pick
plain_event event.Line = line
plain_event (event.LeftOut count) = left_out count

abbrev pub plain_events : List Event → List PlainEvent
plain_events es = map plain_event es
