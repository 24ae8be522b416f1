-- Parts of what is said.
use Rattle.std.specs.Prelude.{ℕ, nat_le, ◌==◌, if◌then◌else◌, List, [], ◌∷◌, ◌++◌, length, take, codes, decimal, Option, Some, None}
use Rattle.lucid_value.specs.Plain.{PlainValue}
use Rattle.lucid_value.specs.ValueText.{value_text}
use Rattle.lucid_tree.specs.Tree.{PlainTree, form, name, call, block}
use Rattle.lucid_explain_errors.specs.declared.traced.Traced.{Traced}
use Rattle.lucid_explain_errors.specs.declared.traced.Traced.TheVariants.{Error, End}

-- bytes, at most 40 of them
abbrev pub short : List ℕ → List ℕ
short bytes = if nat_le (length bytes) 40 then bytes else take 40 bytes ++ codes ".."

-- a value
abbrev pub short_value : PlainValue → List ℕ
short_value v = short (value_text v)

-- a point behind a text; space 0 isn't told
abbrev pub space_text : (space : ℕ) → List ℕ
space_text s = if s == 0 then [] else codes ", space " ++ decimal s

abbrev pub point_text : (before : List ℕ) → (time space : ℕ) → List ℕ
point_text before t s = before ++ (decimal t ++ space_text s)

-- what an operator or a form gets: up to three values
abbrev pub gets_text : List PlainValue → List ℕ
gets_text [] = []
gets_text (v ∷ []) = codes " gets " ++ short_value v
gets_text (v ∷ w ∷ []) = codes " gets " ++ (short_value v ++ (codes " and " ++ short_value w))
gets_text (u ∷ v ∷ w ∷ more) = codes " gets " ++ (short_value u ++ (codes ", " ++ (short_value v ++ (codes " and " ++ short_value w))))

-- how a piece of the source is called: a name, or a call
abbrev pub called_text : PlainTree → List ℕ
called_text (name at n) = short n
called_text (call at n es) = short n ++ codes "(..)"
called_text (form at h es) = []
called_text (block at e ds) = []

abbrev pub called_if : Option PlainTree → List ℕ
called_if (Some e) = called_text e
called_if None = []

-- the value of a judgment
abbrev pub traced_text : Traced → List ℕ
traced_text Error = codes " is `error`.\n"
traced_text End = codes " is `eod`.\n"

-- the first line
abbrev pub head_text : Traced → (time : ℕ) → List ℕ
head_text Error t = codes "The value at time " ++ (decimal t ++ codes " is `error`.\n")
head_text End t = codes "The value at time " ++ (decimal t ++ codes " is `eod`, the end of data: a run ends before it.\n")
