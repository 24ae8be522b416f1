-- The elements of inputs that stand in memory.
use Rattle.std.specs.Prelude.{ℕ, zero, suc, List, [], ◌∷◌, Option, Some, None}
use Rattle.std.specs.List.{find}
use Rattle.lucid_value.specs.Plain.{PlainValue, eod}
use Rattle.lucid_value.specs.View.{plain}
use Rattle.lucid_value.specs.declared.Value.{Value}
use Rattle.lucid_tree.specs.Env.{same_name}
use Rattle.lucid_test_programs.specs.declared.streams.Stream.{Stream}

-- element j of a stream of these elements, and end of data past them
abbrev pub element_in : List Value → ℕ → PlainValue
element_in [] j = eod
element_in (v ∷ vs) zero = plain v
element_in (v ∷ vs) (suc j) = element_in vs j

abbrev pub first_stream : List ℕ → List Stream → Option Stream
first_stream n xs = find (λ x. same_name n x.name) xs

abbrev pub element_of_stream : Option Stream → ℕ → Option PlainValue
element_of_stream None j = None
element_of_stream (Some x) j = Some (element_in x.elements.items j)

-- The elements of a free name are those of the first stream with that name; a name without a stream has none.
abbrev pub elements_of : List Stream → List ℕ → ℕ → Option PlainValue
elements_of xs n j = element_of_stream (first_stream n xs) j
