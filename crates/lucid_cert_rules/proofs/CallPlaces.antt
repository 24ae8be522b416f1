-- The call places of known contexts stay those of the program.
use Rattle.lucid_cert_rules.proofs.FollowingCommon.{◌≡◌, ℕ, zero, suc, ◌<◌, List, [], ◌∷◌, ◌++◌, inl, inr, sym, subst, Context, call_frame}
use Rattle.lucid_tags.specs.Known.{AddsAtMost}
use Rattle.lucid_cert_rules.specs.Checking.{ArePlaces}

-- They stay below a number where a context with such a place is added, or with a frozen time.
more_places : (places : ℕ) (known : List Context) (c : Context) → ((at : ℕ) (caller base : Context) → c ≡ call_frame at caller base → at < places)
    → ArePlaces places known → ArePlaces places (known ++ c ∷ [])
more_places places [] c f h zero at caller base e = f at caller base e
more_places places [] c f h (suc i) at caller base e = absurd (cc)
more_places places (x ∷ xs) c f h zero at caller base e = h 0 at caller base e
more_places places (x ∷ xs) c f h (suc i) at caller base e = more_places places xs c f (λ k. h (suc k)) i at caller base e

places_added : (places : ℕ) (old new : List Context) (c : Context) → ((at : ℕ) (caller base : Context) → c ≡ call_frame at caller base → at < places)
    → AddsAtMost old new c → ArePlaces places old → ArePlaces places new
places_added places old new c f (inl e) h = subst (ArePlaces places) (sym e) h
places_added places old new c f (inr e) h = subst (ArePlaces places) (sym e) (more_places places old c f h)

pub places_called : (places : ℕ) (old new : List Context) (place : ℕ) (caller base : Context) → AddsAtMost old new (call_frame place caller base)
    → place < places → ArePlaces places old → ArePlaces places new
places_called places old new place caller base added l =
    places_added places old new (call_frame place caller base) (λ at d e is. let same : place ≡ at = cc in subst (λ x. x < places) same l) added
