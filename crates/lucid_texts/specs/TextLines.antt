-- The lines of texts. A family of texts says which lists of lines are those of a text.
use Rattle.std.specs.Prelude.{◌≡◌, ℕ, ◌+◌, ◌≤◌, ◌<◌, false, List, [], ◌∷◌, ◌++◌, length, take, ◌==◌}
use Rattle.std.specs.List.{AllByRecursion, flat_map, slice_split}

-- a line with the byte 10 that ends it
abbrev pub ended : List ℕ → List ℕ
ended line = line ++ 10 ∷ []

-- the text of some lines: each of them ended
abbrev pub text_of : List (List ℕ) → List ℕ
text_of lines = flat_map ended lines

-- no byte of the list is this one
abbrev pub Lacks : ℕ → List ℕ → Type 0
Lacks c bs = AllByRecursion (λ b. (b == c) ≡ false) bs

-- bytes that stand in a line of their own: some, and no line end (10) among them
abbrev pub IsLine : List ℕ → Type 0
IsLine line = (0 < length line) × Lacks 10 line

-- all but the last of some parts
abbrev pub all_but_last : {A : Type 0} → List A → List A
all_but_last [] = []
all_but_last (x ∷ []) = []
all_but_last (x ∷ y ∷ xs) = x ∷ all_but_last (y ∷ xs)

-- the whole lines of the bytes, each without the byte 10 that ends it; what stands behind the last such byte is no whole line
abbrev pub whole_lines : List ℕ → List (List ℕ)
whole_lines bytes = all_but_last (slice_split (λ b. b == 10) bytes)

-- Which lists of lines are those of a text.
abbrev pub Family : Type 1
Family = List (List ℕ) → Type 0

-- a text of the family goes on with these lines
abbrev pub CanGoOn : Family → (lines : List (List ℕ)) → Type 0
CanGoOn Is lines = (rest : List (List ℕ)) × Is (lines ++ rest)

abbrev pub CannotGoOn : Family → (lines : List (List ℕ)) → Type 0
CannotGoOn Is lines = CanGoOn Is lines → ⊥

-- a text of the family goes on with the first lines, which are whole
pub record GoesOn (Is : List (List ℕ) → Type 0) (bytes : List ℕ) (lines : ℕ) : Type 0 where
  pub whole : lines ≤ length (whole_lines bytes)
  pub can : CanGoOn Is (take lines (whole_lines bytes))

-- The bytes are no text of the family, and the line, from 1, is the first with which none goes on: one goes on with all lines before it, and
-- none with it. Where the bytes end too early, it is the line after the last whole one.
pub record IsFirstWrongLine (Is : List (List ℕ) → Type 0) (bytes : List ℕ) (line : ℕ) : Type 0 where
  pub no_text : (lines : List (List ℕ)) → Is lines → bytes ≡ text_of lines → ⊥
  pub before : ℕ
  pub is : line ≡ before + 1
  pub goes : GoesOn Is bytes before
  pub ends : GoesOn Is bytes (before + 1) → ⊥
