-- Three programs, and for each a family of streams and maps that solves its equations, told in closed form.
use Rattle.std.specs.Prelude.{◌≡◌, ℕ, zero, suc, Bool, true, false, not, List, [], ◌∷◌, Some, None, codes}
use Rattle.lucid_value.specs.Plain.{PlainValue, truth}
use Rattle.lucid_ops.specs.Algebra.{algebra}
use Rattle.lucid_ops.specs.declared.op.Op.TheVariants.{Not}
use Rattle.lucid_tree.specs.Tree.{PlainTree, form, apply, name, call, block, no_trees, tree, no_defs, defines, defines_function, defines_current, constant, fby_of}
use Rattle.lucid_tree.specs.Levels.{Elements}
use Rattle.lucid_tree.specs.Env.{empty}
use Rattle.lucid_fixed_point.specs.Rules.{Derives}
use Rattle.lucid_fixed_point.specs.Streams.{Stream, Map, with_stream, with_map}
use Rattle.lucid_fixed_point.specs.Families.{Family}

abbrev pub named : List ℕ → PlainTree
named n = name 0 n

abbrev pub not_of : PlainTree → PlainTree
not_of x = form 0 (apply Not 1) (tree x no_trees)

abbrev pub always : PlainTree
always = constant 0 (truth true)

-- the value with so many `not` in front
abbrev pub flipped : ℕ → PlainValue → PlainValue
flipped zero w = w
flipped (suc k) w = flipped k (algebra Not (w ∷ []))

-- the stream that begins with the truth and takes turns: at time t, the truth with t `not` in front
abbrev pub turns : Bool → Stream
turns c t s v = flipped t (truth c) ≡ v

-- x where x = true fby y; y = not x; end
abbrev pub two_names : PlainTree
two_names = block 0 (named (codes "x")) (defines 0 (codes "x") (fby_of 0 always (named (codes "y"))) (defines 0 (codes "y") (not_of (named (codes "x"))) no_defs))

-- x takes turns from true on, y from false on
abbrev pub two_names_mean : Family
two_names_mean ds z r = with_stream (codes "x") (turns true) (with_stream (codes "y") (turns false) r)

-- f(true) where f(x) = x fby f(not x); end
abbrev pub a_function : PlainTree
a_function =
    block 0 (call 0 (codes "f") (tree always no_trees))
    (defines_function 0 (codes "f") (codes "x" ∷ []) (0 ∷ []) (fby_of 0 (named (codes "x")) (call 0 (codes "f") (tree (not_of (named (codes "x"))) no_trees))) no_defs)

-- f gives at time t its argument's first value, with t `not` in front
abbrev pub first_flipped : Map
first_flipped a t s v = (w : PlainValue) × a 0 0 s w × (flipped t w ≡ v)

abbrev pub a_function_means : Family
a_function_means ds z r = with_map (codes "f") first_flipped r

-- (m where n is current x; m = n fby not m; end) where x = true fby not x; end
abbrev pub inner : PlainTree
inner =
    block 0 (named (codes "m"))
    (defines_current 0 (codes "n") (named (codes "x")) (defines 0 (codes "m") (fby_of 0 (named (codes "n")) (not_of (named (codes "m")))) no_defs))

abbrev pub nested : PlainTree
nested = block 0 inner (defines 0 (codes "x") (fby_of 0 always (not_of (named (codes "x")))) no_defs)

-- x takes turns from true on. In the inner block, opened at time u, n is x at u at all times, and m is that at its time 0 and takes turns.
abbrev pub held : Stream → (time : ℕ) → Stream
held a u t s v = a u s v

abbrev pub flipped_from : Stream → (time : ℕ) → Stream
flipped_from a u t s v = (w : PlainValue) × a u s w × (flipped t w ≡ v)

abbrev pub nested_means : Family
nested_means ds None r = with_stream (codes "x") (turns true) r
nested_means ds (Some u) r =
    with_stream (codes "n") (held (r.stream (codes "x")) u) (with_stream (codes "m") (flipped_from (r.stream (codes "x")) u) r)

-- So at each time x of the first program, and f(true) of the second, are true at even times and false at odd ones, and the third is always true:
-- whatever these programs have, these are its values.
abbrev pub even : ℕ → Bool
even zero = true
even (suc t) = not (even t)

abbrev pub TwoNamesTakeTurns : Type 0
TwoNamesTakeTurns = (b : Elements) (t s : ℕ) (v : PlainValue) → Derives b two_names empty t s v → truth (even t) ≡ v

abbrev pub TheFunctionTakesTurns : Type 0
TheFunctionTakesTurns = (b : Elements) (t s : ℕ) (v : PlainValue) → Derives b a_function empty t s v → truth (even t) ≡ v

abbrev pub TheNestedIsTrue : Type 0
TheNestedIsTrue = (b : Elements) (t s : ℕ) (v : PlainValue) → Derives b nested empty t s v → truth true ≡ v
