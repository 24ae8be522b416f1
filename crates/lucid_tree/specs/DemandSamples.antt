-- What sample programs consult, refer to and enter, and what held values change.
use Rattle.std.specs.Prelude.{◌≡◌, ℕ, [], ◌∷◌, Some, None, nat_eq, nat_le, ◌&&◌, if◌then◌else◌, codes}
use Rattle.lucid_value.specs.Plain.{truth}
use Rattle.lucid_tree.specs.Tree.{name, no_trees, tree}
use Rattle.lucid_tree.specs.Levels.{Elements, Given}
use Rattle.lucid_tree.specs.Env.{Env, empty, scope, args, same_name, Referent}
use Rattle.lucid_tree.specs.Meaning.{val, hval}
use Rattle.lucid_tree.specs.Demand.{consults, refers, refers_with_values, enters}
use Rattle.lucid_tree.specs.SamplePrograms.{number, counting, first_of_a, a_whenever_b, a_upon_b, counting_definitions, frozen_definitions, frozen_line, same_definitions, calling_same}
use Rattle.lucid_tree.specs.Samples.{no_inputs}

-- The lines of b are false at 0 and 1, and true from 2 on; those of every other input are their own indices.
abbrev pub late_truths : Elements
late_truths n j = if same_name n (codes "b") then Some (truth (nat_le 2 j)) else Some (number j)

-- Only the first line is consulted, at whatever time. A search at the limit m looks at times below m; the added number lets it
-- choose beyond that, but not look there. An advance at time t looks at its test only at limits of at least t.
abbrev pub ConsultedLines : Type 0
ConsultedLines =
    (consults late_truths 1 0 first_of_a empty 3 0 ≡ (codes "a", 0) ∷ [])
    × (consults late_truths 1 0 a_whenever_b empty 0 0 ≡ (codes "b", 0) ∷ [])
    × (consults late_truths 3 0 a_whenever_b empty 0 0 ≡ (codes "b", 0) ∷ (codes "b", 1) ∷ (codes "b", 2) ∷ (codes "a", 2) ∷ [])
    × (consults late_truths 1 2 a_whenever_b empty 0 0 ≡ (codes "b", 0) ∷ (codes "a", 2) ∷ [])
    × (consults late_truths 3 0 a_upon_b empty 3 0 ≡ (codes "b", 0) ∷ (codes "b", 1) ∷ (codes "b", 2) ∷ (codes "a", 1) ∷ [])
    × (consults late_truths 1 2 a_upon_b empty 3 0 ≡ (codes "a", 1) ∷ [])
    × (consults late_truths 1 1 a_upon_b empty 3 0 ≡ [])

-- what a reference of x refers to at a time, in the scope of its block
abbrev counting_scope : Env
counting_scope = scope counting_definitions None empty

abbrev counted_at : ℕ → Referent
counted_at t = record { at = 8; env = counting_scope; time = t }

-- Each reference of x has the place of its definition and the value of x at its time; at the limit 2 the third is not reached.
abbrev pub ReferredNames : Type 0
ReferredNames =
    (refers no_inputs 3 0 counting empty 2 0 ≡ (counted_at 2, 0) ∷ (counted_at 1, 0) ∷ (counted_at 0, 0) ∷ [])
    × (refers no_inputs 2 0 counting empty 2 0 ≡ (counted_at 2, 0) ∷ (counted_at 1, 0) ∷ [])
    × (refers_with_values no_inputs 3 counting empty 2 0 ≡ (counted_at 2, 0, number 2) ∷ (counted_at 1, 0, number 1) ∷ (counted_at 0, 0, number 0) ∷ [])
    × (refers late_truths 2 0 frozen_line empty 3 0 ≡ (record { at = 8; env = scope frozen_definitions (Some 3) empty; time = 0 }, 0) ∷ [])

-- the entry that the call of f makes
abbrev call_entry : Env
call_entry = args (codes "b" ∷ []) (13 ∷ []) (tree (name 2 (codes "a")) no_trees) (scope same_definitions None empty) (scope same_definitions None empty)

-- A call makes an environment even at the limit 0; a block makes one where it has a current definition.
abbrev pub EnteredEnvironments : Type 0
EnteredEnvironments =
    (enters no_inputs 0 0 calling_same empty 0 0 ≡ call_entry ∷ [])
    × (enters late_truths 2 0 frozen_line empty 3 0 ≡ scope frozen_definitions (Some 3) empty ∷ [])
    × (enters no_inputs 3 0 counting empty 2 0 ≡ [])

-- x is held at time 2
abbrev pub held_at_two : Given Referent
held_at_two = record { element = no_inputs; held = λ k s. if nat_eq k.at 8 && nat_eq k.time 2 then Some (number 2) else None }

-- A held value costs no limit, and neither does what stands behind it.
abbrev pub HeldValues : Type 0
HeldValues =
    (hval held_at_two 0 counting empty 2 0 ≡ Some (number 2))
    × (hval held_at_two 1 counting empty 3 0 ≡ Some (number 3))
    × (hval held_at_two 0 counting empty 3 0 ≡ None)
    × (val no_inputs 3 counting empty 3 0 ≡ None)
