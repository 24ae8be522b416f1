-- Programs of which the values are computed. Each is the tree of the source above it, with its places.
use Rattle.std.specs.Prelude.{ℕ, pos, true, false, [], ◌∷◌, codes}
use Rattle.lucid_value.specs.Plain.{PlainValue, int, truth, eod, fault}
use Rattle.lucid_ops.specs.declared.op.Op.{Op}
use Rattle.lucid_ops.specs.declared.op.Op.TheVariants.{Add, Sub, Mul, Mod, Eq}
use Rattle.lucid_tree.specs.Tree.{apply, PlainTree, form, name, call, block, no_trees, tree, PlainDefs, no_defs, defines, defines_function, defines_current, constant, first_of, next_of, fby_of, whenever_of, asa_of, upon_of, attime_of, initial_of, succ_of, sby_of, atspace_of, if_of, and_of}

-- an integer as a value, and as a constant
abbrev pub number : ℕ → PlainValue
number n = int (pos n)

abbrev pub integer : (at : ℕ) → ℕ → PlainTree
integer at n = constant at (number n)

-- a data operator between two arguments
abbrev pub between : (at : ℕ) → Op → PlainTree → PlainTree → PlainTree
between at op x y = form at (apply op 2) (tree x (tree y no_trees))

-- x where x = 0 fby x + 1; end
abbrev pub counting : PlainTree
counting =
    block 2 (name 0 (codes "x"))
    (defines 8 (codes "x") (fby_of 14 (integer 12 0) (between 20 Add (name 18 (codes "x")) (integer 22 1)))
    no_defs)

-- f where f = 0 fby g; g = 1 fby f + g; end
abbrev pub needing_each_other : PlainTree
needing_each_other =
    block 2 (name 0 (codes "f"))
    (defines 8 (codes "f") (fby_of 14 (integer 12 0) (name 18 (codes "g")))
    (defines 21 (codes "g") (fby_of 27 (integer 25 1) (between 33 Add (name 31 (codes "f")) (name 35 (codes "g"))))
    no_defs))

-- n whenever n mod 3 eq 0 where n = 0 fby n + 1; end
abbrev pub every_third : PlainTree
every_third =
    block 24 (whenever_of 2 (name 0 (codes "n")) (between 19 Eq (between 13 Mod (name 11 (codes "n")) (integer 17 3)) (integer 22 0)))
    (defines 30 (codes "n") (fby_of 36 (integer 34 0) (between 42 Add (name 40 (codes "n")) (integer 44 1)))
    no_defs)

-- x upon p where x = 0 fby x + 1; p = true fby false fby p; end
abbrev pub advancing : PlainTree
advancing =
    block 9 (upon_of 2 (name 0 (codes "x")) (name 7 (codes "p")))
    (defines 15 (codes "x") (fby_of 21 (integer 19 0) (between 27 Add (name 25 (codes "x")) (integer 29 1)))
    (defines 32 (codes "p") (fby_of 41 (constant 36 (truth true)) (fby_of 51 (constant 45 (truth false)) (name 55 (codes "p"))))
    no_defs))

-- x attime 3 - x where x = 0 fby x + 1; end
abbrev pub at_times : PlainTree
at_times =
    block 15 (attime_of 2 (name 0 (codes "x")) (between 11 Sub (integer 9 3) (name 13 (codes "x"))))
    (defines 21 (codes "x") (fby_of 27 (integer 25 0) (between 33 Add (name 31 (codes "x")) (integer 35 1)))
    no_defs)

-- f asa i eq n where n is current k; i = 0 fby i + 1; f = 1 fby f * (i + 1); end where k = 0 fby k + 1; end
abbrev pub nested : PlainTree
nested =
    block 79 (block 13 (asa_of 2 (name 0 (codes "f")) (between 8 Eq (name 6 (codes "i")) (name 11 (codes "n"))))
    (defines_current 19 (codes "n") (name 32 (codes "k"))
    (defines 35 (codes "i") (fby_of 41 (integer 39 0) (between 47 Add (name 45 (codes "i")) (integer 49 1)))
    (defines 52 (codes "f") (fby_of 58 (integer 56 1) (between 64 Mul (name 62 (codes "f")) (between 69 Add (name 67 (codes "i")) (integer 71 1))))
    no_defs))))
    (defines 85 (codes "k") (fby_of 91 (integer 89 0) (between 97 Add (name 95 (codes "k")) (integer 99 1)))
    no_defs)

-- c where c = n where e is current a; n = (if a eq e then 1 else 0 fi) fby n + (if next a eq e then 1 else 0 fi); end; end
abbrev pub counting_lines : PlainTree
counting_lines =
    block 2 (name 0 (codes "c"))
    (defines 8 (codes "c") (block 14 (name 12 (codes "n"))
    (defines_current 20 (codes "e") (name 33 (codes "a"))
    (defines 36 (codes "n") (fby_of 69 (if_of 41 (between 46 Eq (name 44 (codes "a")) (name 49 (codes "e"))) (integer 56 1) (integer 63 0)) (between 75 Add (name 73 (codes "n")) (if_of 78 (between 88 Eq (next_of 81 (name 86 (codes "a"))) (name 91 (codes "e"))) (integer 98 1) (integer 105 0))))
    no_defs)))
    no_defs)

-- fact(n) where fact(n) = if n eq 0 then 1 else n * fact(n - 1) fi; n = 0 fby n + 1; end
abbrev pub factorials : PlainTree
factorials =
    block 8 (call 0 (codes "fact") (tree (name 5 (codes "n")) no_trees))
    (defines_function 14 (codes "fact") (codes "n" ∷ []) (19 ∷ []) (if_of 24 (between 29 Eq (name 27 (codes "n")) (integer 32 0)) (integer 39 1) (between 48 Mul (name 46 (codes "n")) (call 50 (codes "fact") (tree (between 57 Sub (name 55 (codes "n")) (integer 59 1)) no_trees))))
    (defines 66 (codes "n") (fby_of 72 (integer 70 0) (between 78 Add (name 76 (codes "n")) (integer 80 1)))
    no_defs))

-- sum(x) + sum(y) where sum(z) = s where s = z fby s + next z; end; x = 1 fby x + 1; y = 10; end
abbrev pub calling_twice : PlainTree
calling_twice =
    block 16 (between 7 Add (call 0 (codes "sum") (tree (name 4 (codes "x")) no_trees)) (call 9 (codes "sum") (tree (name 13 (codes "y")) no_trees)))
    (defines_function 22 (codes "sum") (codes "z" ∷ []) (26 ∷ []) (block 33 (name 31 (codes "s"))
    (defines 39 (codes "s") (fby_of 45 (name 43 (codes "z")) (between 51 Add (name 49 (codes "s")) (next_of 53 (name 58 (codes "z")))))
    no_defs))
    (defines 66 (codes "x") (fby_of 72 (integer 70 1) (between 78 Add (name 76 (codes "x")) (integer 80 1)))
    (defines 83 (codes "y") (integer 87 10)
    no_defs)))

-- false and x where x = x; end
abbrev pub false_and : PlainTree
false_and =
    block 12 (and_of 6 (constant 0 (truth false)) (name 10 (codes "x")))
    (defines 18 (codes "x") (name 22 (codes "x"))
    no_defs)

-- 1 whenever 5
abbrev pub whenever_five : PlainTree
whenever_five =
    whenever_of 2 (integer 0 1) (integer 11 5)

-- eod + error
abbrev pub eod_plus_error : PlainTree
eod_plus_error =
    between 4 Add (constant 0 eod) (constant 6 fault)

-- p atspace 2 where p = (1 sby 0) fby (1 sby p + succ p); end
abbrev pub binomials : PlainTree
binomials =
    block 12 (atspace_of 2 (name 0 (codes "p")) (integer 10 2))
    (defines 18 (codes "p") (fby_of 32 (sby_of 25 (integer 23 1) (integer 29 0)) (sby_of 39 (integer 37 1) (between 45 Add (name 43 (codes "p")) (succ_of 47 (name 52 (codes "p"))))))
    no_defs)

-- p where p = (1 sby 0) fby (1 sby p + succ p); end
abbrev pub binomial_row : PlainTree
binomial_row =
    block 2 (name 0 (codes "p"))
    (defines 8 (codes "p") (fby_of 22 (sby_of 15 (integer 13 1) (integer 19 0)) (sby_of 29 (integer 27 1) (between 35 Add (name 33 (codes "p")) (succ_of 37 (name 42 (codes "p"))))))
    no_defs)

-- initial x + x where x = 4 sby 9; end
abbrev pub initial_plus : PlainTree
initial_plus =
    block 14 (between 10 Add (initial_of 0 (name 8 (codes "x"))) (name 12 (codes "x")))
    (defines 20 (codes "x") (sby_of 26 (integer 24 4) (integer 30 9))
    no_defs)

-- succ x where x = 4 sby 9; end
abbrev pub succ_alone : PlainTree
succ_alone =
    block 7 (succ_of 0 (name 5 (codes "x")))
    (defines 13 (codes "x") (sby_of 19 (integer 17 4) (integer 23 9))
    no_defs)

-- first a
abbrev pub first_of_a : PlainTree
first_of_a = first_of 0 (name 6 (codes "a"))

-- a whenever b
abbrev pub a_whenever_b : PlainTree
a_whenever_b = whenever_of 2 (name 0 (codes "a")) (name 11 (codes "b"))

-- a upon b
abbrev pub a_upon_b : PlainTree
a_upon_b = upon_of 2 (name 0 (codes "a")) (name 7 (codes "b"))

-- x = 0 fby x + 1;  as the definitions of `x where x = 0 fby x + 1; end`
abbrev pub counting_definitions : PlainDefs
counting_definitions =
    defines 8 (codes "x") (fby_of 14 (integer 12 0) (between 20 Add (name 18 (codes "x")) (integer 22 1))) no_defs

-- n is current a;  as the definitions of `n where n is current a; end`
abbrev pub frozen_definitions : PlainDefs
frozen_definitions = defines_current 8 (codes "n") (name 21 (codes "a")) no_defs

-- n where n is current a; end
abbrev pub frozen_line : PlainTree
frozen_line = block 2 (name 0 (codes "n")) frozen_definitions

-- f(b) = b;  as the definitions of `f(a) where f(b) = b; end`
abbrev pub same_definitions : PlainDefs
same_definitions = defines_function 11 (codes "f") (codes "b" ∷ []) (13 ∷ []) (name 18 (codes "b")) no_defs

-- f(a) where f(b) = b; end
abbrev pub calling_same : PlainTree
calling_same = block 5 (call 0 (codes "f") (tree (name 2 (codes "a")) no_trees)) same_definitions

-- next 1
abbrev pub next_one : PlainTree
next_one = next_of 0 (integer 5 1)

-- succ 1
abbrev pub succ_one : PlainTree
succ_one = succ_of 0 (integer 5 1)

-- (1 fby 2) attime 9223372036854775807
abbrev pub at_the_last_time : PlainTree
at_the_last_time = attime_of 10 (fby_of 3 (integer 1 1) (integer 7 2)) (integer 17 9223372036854775807)

-- 1 attime 9223372036854775808
abbrev pub past_the_last_time : PlainTree
past_the_last_time = attime_of 2 (integer 0 1) (integer 9 9223372036854775808)

-- 1 atspace 9223372036854775807
abbrev pub at_the_last_space : PlainTree
at_the_last_space = atspace_of 2 (integer 0 1) (integer 10 9223372036854775807)

-- 1 atspace 9223372036854775808
abbrev pub past_the_last_space : PlainTree
past_the_last_space = atspace_of 2 (integer 0 1) (integer 10 9223372036854775808)
