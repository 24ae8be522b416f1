-- The steps of a run, by what was noted of it.
use Rattle.std.specs.Prelude.{ℕ, ◌+◌, ◌++◌, ◌∷◌, ◌==◌, ◌||◌, [], List, Option, Some, None, Bool, true, false, map, if◌then◌else◌}
use Rattle.lucid_value.specs.Plain.{PlainValue}
use Rattle.lucid_value.specs.View.{plain}
use Rattle.lucid_tags.specs.declared.Key.{Key}
use Rattle.lucid_show_steps.specs.Events.{PlainEvent, PlainTouched, turn, pick, line, left_out}
use Rattle.lucid_show_steps.specs.declared.step.Step.{Step}
use Rattle.lucid_show_steps.specs.declared.step.Step.TheVariants as step

pub data PlainStep : Type 0 where
  asks : (time : ℕ) → PlainStep
  computes : Key → PlainValue → PlainStep
  computes_again : Key → PlainValue → PlainStep
  finds : Key → PlainValue → PlainStep
  drops : Key → PlainStep
  drops_more : (count : ℕ) → PlainStep
  writes : (time : ℕ) → PlainStep
  leaves_out : (count : ℕ) → PlainStep
  unseen : PlainStep

abbrev pub plain_step : Step → PlainStep
plain_step (step.Asks time) = asks time
plain_step (step.Computes key value) = computes key (plain value)
plain_step (step.ComputesAgain key value) = computes_again key (plain value)
plain_step (step.Finds key value) = finds key (plain value)
plain_step (step.Drops key) = drops key
plain_step (step.DropsMore count) = drops_more count
plain_step (step.Writes time) = writes time
plain_step (step.LeavesOut count) = leaves_out count
plain_step step.Unseen = unseen

abbrev pub plain_steps : List Step → List PlainStep
plain_steps ss = map plain_step ss

-- a row is picked next
unfoldable pub is_picked : List PlainEvent → Bool
is_picked (pick ∷ es) = true
is_picked es = false

-- A value that is added to the store was computed. One that was held is found where the same row goes on; where another row is picked next, the
-- row that settled put it once more.
unfoldable pub touched_step : PlainTouched → (later : List PlainEvent) → PlainStep
touched_step t es = if t.added then computes t.key t.value else (if is_picked es then computes_again t.key t.value else finds t.key t.value)

unfoldable pub touched_steps : Option PlainTouched → (later : List PlainEvent) → List PlainStep
touched_steps None es = []
touched_steps (Some t) es = touched_step t es ∷ []

unfoldable pub more_steps : (count : ℕ) → List PlainStep
more_steps n = if n == 0 then [] else drops_more n ∷ []

-- The last step of a demand is seen at the first turn after its line, and is told before that.
unfoldable pub late_steps : (later : List PlainEvent) → List PlainStep
late_steps (turn touched dropped more ∷ es) = touched_steps touched es
late_steps es = []

-- At its first turn a demand asks for the value of its time; at each later one it tells what was touched.
unfoldable pub first_steps : (time : ℕ) → (begun : Bool) → Option PlainTouched → (later : List PlainEvent) → List PlainStep
first_steps t false touched es = asks t ∷ []
first_steps t true touched es = touched_steps touched es

-- What is put into the store after the policy's last turn isn't seen: there is no turn after a run's last line.
unfoldable pub end_steps : (time : ℕ) → (begun : Bool) → List PlainStep
end_steps t begun = if begun || (t == 0) then [] else unseen ∷ []

-- The steps from a time on, whose demand has begun or not.
abbrev pub steps : (time : ℕ) → (begun : Bool) → List PlainEvent → List PlainStep
steps t begun [] = end_steps t begun
steps t begun (turn touched dropped more ∷ es) = first_steps t begun touched es ++ (map drops dropped ++ (more_steps more ++ steps t true es))
steps t begun (pick ∷ es) = steps t begun es
steps t begun (line ∷ es) = late_steps es ++ (writes t ∷ steps (t + 1) false es)
steps t begun (left_out n ∷ es) = leaves_out n ∷ steps t begun es

-- the steps of a whole run
abbrev pub steps_of : List PlainEvent → List PlainStep
steps_of es = steps 0 false es
