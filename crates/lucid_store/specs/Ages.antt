-- Ages that are 0 and lie nowhere, and the last age over a limit.
use Rattle.std.specs.Prelude.{◌≡◌, ℕ, zero, suc, ◌+◌, ◌<◌, ◌≤◌, List, [], ◌∷◌, Option, Some, None, slice_get}
use Rattle.std.specs.List.{AllWithin}

-- so many ages of 0
abbrev pub zeros : ℕ → List ℕ
zeros zero = []
zeros (suc n) = 0 ∷ zeros n

-- an age over the limit at a place before an end, behind which up to the end none is
pub record IsOverAt (limit : ℕ) (ages : List ℕ) (end index : ℕ) : Type 0 where
  pub age : ℕ
  pub here : slice_get ages index ≡ Some age
  pub over : limit < age
  pub before : index < end
  pub later : AllWithin (λ a. a ≤ limit) ages (index + 1) end

-- the last place before an end whose age is over the limit, if there is one
abbrev pub IsLastOver : ℕ → List ℕ → ℕ → Option ℕ → Type 0
IsLastOver limit ages end None = AllWithin (λ a. a ≤ limit) ages 0 end
IsLastOver limit ages end (Some index) = IsOverAt limit ages end index
