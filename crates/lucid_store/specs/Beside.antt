-- Values by their keys in one list, and their ages in another, at the same places.
use Rattle.std.specs.Prelude.{◌≡◌, ℕ, List, [], ◌∷◌, Option, slice_get, map, option_map, position, if◌then◌else◌}
use Rattle.std.specs.Map.{lookup, keys_of}
use Rattle.lucid_value.specs.declared.Value.{Value}
use Rattle.lucid_tags.specs.declared.Key.{Key}
use Rattle.lucid_store.specs.Stored.{Entry}
use Rattle.lucid_tags.specs.Keys.{same_key}

-- each key with its value and the age at its place
abbrev pub beside : List (Key × Value) → List ℕ → List (Key × Entry)
beside [] ages = []
beside (e ∷ es) [] = (e.0, record { value = e.1; age = 0 }) ∷ beside es []
beside (e ∷ es) (age ∷ ages) = (e.0, record { value = e.1; age = age }) ∷ beside es ages

-- the ages, in their order
abbrev pub ages_of : List (Key × Entry) → List ℕ
ages_of es = map (λ e. e.1.age) es

-- the value at a place
abbrev pub value_in : List (Key × Entry) → ℕ → Option Value
value_in es index = option_map (λ e. e.1.value) (slice_get es index)

-- the place of a key
abbrev pub place_of : List (Key × Entry) → Key → Option ℕ
place_of es key = position (same_key key) (keys_of es)

-- the key has this entry, or none, and every other key has what it had
abbrev pub Sets : List (Key × Entry) → List (Key × Entry) → Key → Option Entry → Type 0
Sets old new key entry = (q : Key) → lookup (same_key q) new ≡ (if same_key key q then entry else lookup (same_key q) old)
