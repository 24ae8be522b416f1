-- Both sides of the equations of searches at several points, each from the least limit at which it is defined.
use Rattle.std.specs.Prelude.{ℕ, true, false, codes}
use Rattle.lucid_value.specs.Plain.{PlainValue, truth, eod, fault}
use Rattle.lucid_ops.specs.declared.op.Op.TheVariants.{Add, Mod, Eq}
use Rattle.lucid_tree.specs.Tree.{PlainTree, name, block, PlainDefs, no_defs, defines, constant, fby_of, whenever_of, upon_of, sby_of}
use Rattle.lucid_tree.specs.Laws.{whenever_unfolded, upon_unfolded}
use Rattle.lucid_tree.specs.SamplePrograms.{number, integer, between}
use Rattle.lucid_tree.specs.Samples.{no_inputs, IsFirstAt}

-- An equation between programs.
pub record Sides : Type 0 where
  pub left : PlainTree
  pub right : PlainTree

-- X whenever P, and X upon P, with these definitions; the nodes of the right side stand at their own numbers
abbrev whenever_sides : (x p : PlainTree) → PlainDefs → Sides
whenever_sides x p ds = record { left = block 0 (whenever_of 0 x p) ds; right = block 0 (whenever_unfolded (λ i. i) x p) ds }

abbrev upon_sides : (x p : PlainTree) → PlainDefs → Sides
upon_sides x p ds = record { left = block 0 (upon_of 0 x p) ds; right = block 0 (upon_unfolded (λ i. i) x p) ds }

-- n = 0 fby n + 1;  and  p = true fby false fby p;
abbrev counting_n : PlainDefs
counting_n = defines 0 (codes "n") (fby_of 6 (integer 4 0) (between 12 Add (name 10 (codes "n")) (integer 14 1))) no_defs

abbrev alternating_p : PlainDefs
alternating_p = defines 0 (codes "p") (fby_of 9 (constant 4 (truth true)) (fby_of 19 (constant 13 (truth false)) (name 23 (codes "p")))) counting_n

-- n whenever n mod 3 eq 0
abbrev every_third_sides : Sides
every_third_sides = whenever_sides (name 0 (codes "n")) (between 19 Eq (between 13 Mod (name 11 (codes "n")) (integer 17 3)) (integer 22 0)) counting_n

-- 1 whenever true
abbrev always_sides : Sides
always_sides = whenever_sides (integer 0 1) (constant 11 (truth true)) no_defs

-- (error fby 8) whenever true
abbrev error_sides : Sides
error_sides = whenever_sides (fby_of 7 (constant 1 fault) (integer 11 8)) (constant 23 (truth true)) no_defs

-- 1 whenever 5
abbrev no_truth_sides : Sides
no_truth_sides = whenever_sides (integer 0 1) (integer 11 5) no_defs

-- 7 whenever (true fby false fby eod)
abbrev ending_sides : Sides
ending_sides = whenever_sides (integer 0 7) (fby_of 17 (constant 12 (truth true)) (fby_of 27 (constant 21 (truth false)) (constant 31 eod))) no_defs

-- (4 sby 9) whenever (false fby true)
abbrev other_space_sides : Sides
other_space_sides = whenever_sides (sby_of 3 (integer 1 4) (integer 7 9)) (fby_of 27 (constant 21 (truth false)) (constant 31 (truth true))) no_defs

-- n upon p
abbrev advancing_sides : Sides
advancing_sides = upon_sides (name 0 (codes "n")) (name 7 (codes "p")) alternating_p

-- 1 upon 5
abbrev no_advance_sides : Sides
no_advance_sides = upon_sides (integer 0 1) (integer 7 5) no_defs

-- (5 fby 6) upon true
abbrev at_once_sides : Sides
at_once_sides = upon_sides (fby_of 3 (integer 1 5) (integer 7 6)) (constant 15 (truth true)) no_defs

-- 3 upon (false fby eod)
abbrev ended_advance_sides : Sides
ended_advance_sides = upon_sides (integer 0 3) (fby_of 14 (constant 8 (truth false)) (constant 18 eod)) no_defs

-- Both sides have the value at the point (t, s), the left one from the limit m on, the right one from the limit n on.
pub record AreFirstAt (e : Sides) (m n t s : ℕ) (v : PlainValue) : Type 0 where
  pub left : IsFirstAt no_inputs e.left m t s v
  pub right : IsFirstAt no_inputs e.right n t s v

-- The right side needs no greater limit than the left one; `whenever` may need one more than its right side, and `upon` needs a limit
-- of at least its time.
abbrev pub SidesOfEquations : Type 0
SidesOfEquations =
    AreFirstAt every_third_sides 4 4 1 0 (number 3)
    × AreFirstAt always_sides 3 2 2 0 (number 1)
    × AreFirstAt error_sides 1 0 0 0 fault
    × AreFirstAt no_truth_sides 1 0 0 0 fault
    × AreFirstAt ending_sides 3 2 1 0 eod
    × AreFirstAt other_space_sides 2 1 0 1 (number 9)
    × AreFirstAt advancing_sides 3 3 3 0 (number 2)
    × AreFirstAt no_advance_sides 3 0 3 0 fault
    × AreFirstAt at_once_sides 0 0 0 0 (number 5)
    × AreFirstAt ended_advance_sides 2 1 2 0 eod
