-- What a test and a place do, and a search.
use Rattle.std.specs.Prelude.{ℕ, pos, true, false, List, [], Option, Some, None, nat_le, if◌then◌else◌}
use Rattle.lucid_value.specs.Plain.{PlainValue, int, truth, eod, fault}
use Rattle.lucid_test_programs.specs.declared.streams.Stream.{Stream}
use Rattle.lucid_tree.specs.Tree.{PlainTree, PlainTrees, tree, no_trees}
use Rattle.lucid_tree.specs.Rows.{last, find_true, count_true, run, add_value}
use Rattle.lucid_tree.specs.Env.{Env}
use Rattle.lucid_tree.specs.Levels.{nothing_held, below}
use Rattle.lucid_tree.specs.Meaning.{value, val, part_at}
use Rattle.lucid_test_programs.specs.Streams.{elements_of}

pub data Turning : Type 0 where
  turns_on : Turning
  turns_off : Turning
  ends : Option PlainValue → Turning

abbrev pub turn_of : Option PlainValue → Turning
turn_of None = ends None
turn_of (Some (truth true)) = turns_on
turn_of (Some (truth false)) = turns_off
turn_of (Some eod) = ends (Some eod)
turn_of (Some _) = ends (Some fault)

pub data Placing : Type 0 where
  at_place : ℕ → Placing
  no_place : Option PlainValue → Placing

abbrev pub place_of : Option PlainValue → Placing
place_of None = no_place None
place_of (Some (int (pos n))) = if nat_le n last then at_place n else no_place (Some fault)
place_of (Some eod) = no_place (Some eod)
place_of (Some _) = no_place (Some fault)

-- what a search finds, with `left` times left from j on
abbrev pub found_by : List Stream → (m : ℕ) → (x p : PlainTree) → Env → (left j n s : ℕ) → Option PlainValue
found_by vs m x p env left j n s = run (find_true left j n s) (λ i u r. part_at m (below value (nothing_held (elements_of vs)) m) (tree x (tree p no_trees)) env i u r)

-- what a count finds, with `left` times left from j on
abbrev pub counted_by : List Stream → (m : ℕ) → (x p : PlainTree) → Env → (least left j n s : ℕ) → Option PlainValue
counted_by vs m x p env l left j n s = run (count_true left j n s l) (λ i u r. part_at m (below value (nothing_held (elements_of vs)) m) (tree x (tree p no_trees)) env i u r)

-- the values of all trees
abbrev pub each_value : List Stream → (m : ℕ) → PlainTrees → Env → (t s : ℕ) → Option (List PlainValue)
each_value vs m no_trees env t s = Some []
each_value vs m (tree e es) env t s = add_value (val (elements_of vs) m e env t s) (each_value vs m es env t s)
