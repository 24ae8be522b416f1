-- The numbers of a line, below 2^32, and how they are taken off its words.
use Rattle.std.specs.Prelude.{ℕ, ◌^◌, nat_lt, if◌then◌else◌, List, [], ◌∷◌, Option, Some, None, take, length, ◌==◌}
use Rattle.lucid_texts.specs.Words.{◌>>=◌, take_number, numbers_of, is_end}
use Rattle.lucid_flat.specs.declared.words.Three.{Three}

-- numbers of which there are fewer than 2^32
abbrev pub few_numbers_of : List (List ℕ) → Option (List ℕ)
few_numbers_of ws = do
  ns ← numbers_of (2 ^ 32) ws
  if nat_lt (length ns) (2 ^ 32) then Some ns else None

-- One, two or three numbers, and no more.
unfoldable pub three_of : List (List ℕ) → Option Three
three_of ws =
    take_number (2 ^ 32) ws >>= λ a.
    if is_end a.1 then Some (record { first = a.0; second = 0; third = 0; count = 1 })
    else (take_number (2 ^ 32) a.1 >>= λ b.
    if is_end b.1 then Some (record { first = a.0; second = b.0; third = 0; count = 2 })
    else (take_number (2 ^ 32) b.1 >>= λ c. if is_end c.1 then Some (record { first = a.0; second = b.0; third = c.0; count = 3 }) else None))

-- as many numbers as these, and no more
unfoldable pub exactly : (count : ℕ) → List (List ℕ) → Option Three
exactly k ws = do
  ns ← three_of ws
  if ns.count == k then Some ns else None

-- the numbers that are there
abbrev pub listed : Three → List ℕ
listed ns = take ns.count (ns.first ∷ ns.second ∷ ns.third ∷ [])
