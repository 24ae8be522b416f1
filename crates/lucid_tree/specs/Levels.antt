-- References, level by level: the same for trees in environments and for the nodes of an equation table in contexts.
-- K is what a reference refers to, X where it goes on, C what is entered.
use Rattle.std.specs.Prelude.{◌≡◌, ℕ, zero, suc, List, [], ◌∷◌, Option, Some, None, ◌↔◌}
use Rattle.std.specs.Option.{option_map}
use Rattle.lucid_value.specs.Plain.{PlainValue}
use Rattle.lucid_tree.specs.Members.{In}

-- What a reference goes on with: an element of an input, or a position at a time, or nothing.
pub data Target (K X : Type 0) : Type 0 where
  element_of : (input : List ℕ) → (index : ℕ) → Target K X
  goes_to : K → X → (time : ℕ) → Target K X
  nowhere : Target K X

-- The elements of the inputs: of a free name, by an index; undefined where they aren't known.
abbrev pub Elements : Type 0
Elements = (input : List ℕ) → (index : ℕ) → Option PlainValue

-- What is given from outside: the elements of the inputs, and the values that are held of references, at a space.
pub record Given (K : Type 0) : Type 0 where
  pub element : Elements
  pub held : K → (space : ℕ) → Option PlainValue

-- nothing is held
abbrev pub nothing_held : {K : Type 0} → Elements → Given K
nothing_held b = record { element = b; held = λ k s. None }

-- the first value, or else the second
abbrev pub or_else : Option PlainValue → Option PlainValue → Option PlainValue
or_else None o = o
or_else (Some v) o = Some v

-- the values of references, by what they go on with and the space
abbrev pub Below : (K X : Type 0) → Type 0
Below K X = Target K X → (space : ℕ) → Option PlainValue

-- What a walk meets: an element that is looked up, a reference at a space with the position and the time that it goes on with, or
-- an environment or context that is entered.
pub data Event (K X C : Type 0) : Type 0 where
  looked_up : (input : List ℕ) → (index : ℕ) → Event K X C
  referred : K → X → (time space : ℕ) → Event K X C
  entered : C → Event K X C

module _ {K X : Type 0} (value : (m : ℕ) → Below K X → X → (time space : ℕ) → Option PlainValue) where
  -- The references at m: each needs m of at least 1 and goes on with one less, unless its value is held.
  abbrev pub below : Given K → ℕ → Below K X
  below g zero (element_of n j) s = None
  below g zero (goes_to k x u) s = g.held k s
  below g zero nowhere s = None
  below g (suc m) (element_of n j) s = g.element n j
  below g (suc m) (goes_to k x u) s = or_else (g.held k s) (value m (below g m) x u s)
  below g (suc m) nowhere s = None

  -- The approximation m with held values.
  abbrev pub approximation : Given K → ℕ → X → (time space : ℕ) → Option PlainValue
  approximation g m x t s = value m (below g m) x t s

module _ {K X C : Type 0} (walk : (m d : ℕ) → (Target K X → ℕ → List (Event K X C)) → X → (time space : ℕ) → List (Event K X C)) where
  -- What references meet on paths of at most m references, choices being those of the approximation m + d.
  abbrev pub deeper : (m d : ℕ) → Target K X → (space : ℕ) → List (Event K X C)
  deeper zero d a s = []
  deeper (suc m) d (element_of n j) s = looked_up n j ∷ []
  deeper (suc m) d (goes_to k x u) s = referred k x u s ∷ walk m d (deeper m d) x u s
  deeper (suc m) d nowhere s = []

-- The readings of a walk: the look-ups, the references, and what is entered.
abbrev pub look_up_of : {K X C : Type 0} → Event K X C → Option (List ℕ × ℕ)
look_up_of (looked_up n j) = Some (n, j)
look_up_of _ = None

abbrev pub reference_of : {K X C : Type 0} → Event K X C → Option (K × ℕ)
reference_of (referred k x u s) = Some (k, s)
reference_of _ = None

abbrev pub entered_of : {K X C : Type 0} → Event K X C → Option C
entered_of (entered c) = Some c
entered_of _ = None

-- A reference with its value, where it has one: that of the position and the time that it goes on with, by these values of positions.
abbrev pub valued_of : {K X C : Type 0} → (values : X → (time space : ℕ) → Option PlainValue) → Event K X C → Option (K × ℕ × PlainValue)
valued_of values (referred k x u s) = option_map (λ v. (k, s, v)) (values x u s)
valued_of values _ = None

-- What is held is exactly what the list has: each reference of it, at its space, with the value that it has there.
abbrev pub HoldsExactly : {K : Type 0} → List (K × ℕ × PlainValue) → (held : K → (space : ℕ) → Option PlainValue) → Type 0
HoldsExactly {K = K} xs held = (k : K) (s : ℕ) (v : PlainValue) → (held k s ≡ Some v) ↔ In (k, s, v) xs
