-- In which order places were last touched, and the keys that stand at them.
use Rattle.std.specs.Prelude.{◌≡◌, ℕ, zero, suc, ◌+◌, ◌<◌, not, List, [], ◌∷◌, ◌++◌, Option, Some, None, if◌then◌else◌, nat_lt, slice_get, refl}
use Rattle.std.specs.List.{filter}
use Rattle.std.specs.Option.{option_to_list}
use Rattle.std.specs.Coded.{Coded, code_by, coded×, coded_ℕ, coded_list}
use Rattle.lucid_tags.specs.declared.Key.{Key}
use Rattle.lucid_tags.specs.Keys.{same_key}
use Rattle.futures.specs.LinkedLists.{LinkedLists, items, list_of, list_count, without, IsIn, IsApart}

-- the places, the latest touched last, how many there are, and for how many there is room
pub record Touches : Type 0 where
  pub places : List ℕ
  pub count : ℕ
  pub room : ℕ

abbrev pub touches_code : Coded Touches
touches_code =
    code_by (List ℕ × (ℕ × ℕ)) (coded× (coded_list coded_ℕ) (coded× coded_ℕ coded_ℕ))
    (λ t. (t.places, (t.count, t.room))) (λ p. record { places = p.0; count = p.1.0; room = p.1.1 }) (λ _. refl)

-- each place below a count is there once, and no other
pub record IsOrderOf (count : ℕ) (places : List ℕ) : Type 0 where
  pub within : (place : ℕ) → IsIn place places → place < count
  pub whole : (place : ℕ) → place < count → IsIn place places
  pub apart : IsApart places

-- the numbers below one, in their order
abbrev pub up_to : ℕ → List ℕ
up_to zero = []
up_to (suc n) = up_to n ++ n ∷ []

-- the last item of a list
abbrev pub last_item : {X : Type 0} → List X → Option X
last_item [] = None
last_item (x ∷ []) = Some x
last_item (x ∷ y ∷ ys) = last_item (y ∷ ys)

-- the one list of places is an order of those below the count, and the latest stands last
pub record IsSoundOrder (lists : LinkedLists) (count latest : ℕ) : Type 0 where
  pub one : list_count lists ≡ 1
  pub owned : (place : ℕ) → list_of lists place ≡ (if nat_lt place count then Some 0 else None)
  pub order : IsOrderOf count (items lists 0)
  pub last_is : 0 < count → last_item (items lists 0) ≡ Some latest

-- the places with one brought to the end
abbrev pub place_to_end : ℕ → List ℕ → List ℕ
place_to_end place places = without place places ++ place ∷ []

-- a place is touched: one of them, or a new one behind the others
abbrev pub touched_at : ℕ → Touches → Touches
touched_at place t = record t { places = place_to_end place t.places; count = if nat_lt place t.count then t.count else t.count + 1 }

-- The place touched first goes, and the last place, which was touched last, takes its number.
pub record IsFirstGone (place : ℕ) (old new : Touches) : Type 0 where
  pub count : new.count + 1 ≡ old.count
  pub places : (others : List ℕ) → old.places ≡ place ∷ others ++ new.count ∷ [] → new.places ≡ others ++ place ∷ []
  pub alone : old.places ≡ place ∷ [] → new.places ≡ []

-- the keys at these places
abbrev pub keys_at : List Key → List ℕ → List Key
keys_at keys [] = []
keys_at keys (place ∷ places) = option_to_list (slice_get keys place) ++ keys_at keys places

-- the keys with one brought to the end
abbrev pub to_end : Key → List Key → List Key
to_end key keys = filter (λ q. not (same_key key q)) keys ++ key ∷ []
