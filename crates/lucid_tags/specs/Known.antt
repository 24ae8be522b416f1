-- What a tag stands for, over the list of the known contexts.
use Rattle.std.specs.Prelude.{◌≡◌, ◌≢◌, ℕ, ◌<◌, ◌+◌, ◌*◌, ◌^◌, ◌↔◌, ◌⊎◌, Bool, ◌==◌, ◌&&◌, List, [], ◌∷◌, ◌++◌, length}
use Rattle.std.proofs.Common.{lit<}
use Rattle.lucid_tags.specs.declared.Tag.{Tag}
use Rattle.lucid_tags.specs.declared.Frame.{Frame}
use Rattle.lucid_tags.specs.declared.Frame.TheVariants.{Call, Frozen}
use Rattle.lucid_tags.specs.Contexts.{Context, call_frame, frozen_frame, base_of, context_at}

-- the place of a tag's context in the list of the known contexts
abbrev pub number_of : Tag → ℕ
number_of tag = tag.number

-- the space that a tag stands for, of which it has two halves
abbrev pub space_of : Tag → ℕ
space_of tag = tag.space_high * 2 ^ 32 + tag.space_low

-- two tags are the same: the same context, by its number, and the same space, by its halves
abbrev pub same_tag : Tag → Tag → Bool
same_tag a b = (a.space_high == b.space_high) && ((a.space_low == b.space_low) && (number_of a == number_of b))

-- the tag of the context at a place, at space 0
abbrev pub tag_of : (number : ℕ) → Tag
tag_of n = record { number = n; space_high = 0; space_low = 0; in_range = lit< tt; low_in_range = lit< tt }

-- the tag of the empty context at space 0
abbrev pub root_tag : Tag
root_tag = tag_of 0

-- a tag is known where its context is
abbrev pub IsKnown : List Context → Tag → Type 0
IsKnown known tag = number_of tag < length known

-- the context that a known tag stands for
abbrev pub context_of : List Context → Tag → Context
context_of known tag = context_at known (number_of tag)

-- no known context is this one
abbrev pub IsUnknown : List Context → Context → Type 0
IsUnknown known c = (i : ℕ) → i < length known → context_at known i ≢ c

-- no context is known at two places, so known tags are equal exactly where their contexts and their spaces are
pub record IsOneForOne (known : List Context) : Type 0 where
  pub places : (i j : ℕ) → i < length known → j < length known → context_at known i ≡ context_at known j → i ≡ j
  pub tags : (a b : Tag) → IsKnown known a → IsKnown known b → (a ≡ b) ↔ ((context_of known a ≡ context_of known b) × (space_of a ≡ space_of b))

-- known tags stay known, and stand for the same contexts
pub record KeepsKnown (old new : List Context) : Type 0 where
  pub known : (tag : Tag) → IsKnown old tag → IsKnown new tag
  pub same : (tag : Tag) → IsKnown old tag → context_of new tag ≡ context_of old tag

-- a context was known, and nothing changed, or it is now known after all the others
abbrev pub AddsAtMost : (old new : List Context) → Context → Type 0
AddsAtMost old new c = (new ≡ old) ⊎ (new ≡ old ++ c ∷ [])

-- a frame is the innermost one of a context, and its caller is a known tag at space 0
abbrev pub IsInnermost : List Context → Frame → Context → Type 0
IsInnermost known (Call place caller) c =
    IsKnown known caller × (space_of caller ≡ 0) × (c ≡ call_frame place (context_of known caller) (base_of c))
IsInnermost known (Frozen time) c = c ≡ frozen_frame time (base_of c)

-- the context of a frame's caller, if there is one, has a lower number than this
abbrev pub HasLowerCaller : ℕ → Frame → Type 0
HasLowerCaller number (Call place caller) = number_of caller < number
HasLowerCaller number (Frozen time) = Unit {0}
