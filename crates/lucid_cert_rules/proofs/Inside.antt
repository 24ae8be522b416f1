-- What a form looks at stays inside it, and what passes on leads to a node of the table at a time.
use Rattle.lucid_cert_rules.proofs.FollowingCommon.{◌≡◌, ℕ, zero, suc, ◌≤◌, List, [], ◌∷◌, ◌++◌, inl, inr, sym, subst, last, Context, call_frame, frozen_frame, Then}
use Rattle.lucid_tags.specs.Known.{AddsAtMost}
use Rattle.lucid_cert_rules.specs.Checking.{AreTimes}
use Rattle.lucid_cert_rules.specs.RestPlans.{PartsFor, IsAtPoint, IsLookOf}
use Rattle.lucid_cert_rules.specs.declared.rest.Look.{Look}

-- the parts and the point of a look, by what is done with its value
pub parts_by : (n : ℕ) (l : Look) (x : Then) → l.then ≡ x → IsLookOf n l → PartsFor x n
parts_by n l x e h = subst (λ y. PartsFor y n) e h.parts

pub point_by : (n : ℕ) (l : Look) (x : Then) → l.then ≡ x → IsLookOf n l → IsAtPoint x l.time l.space
point_by n l x e h = subst (λ y. IsAtPoint y l.time l.space) e h.point

-- frozen times stay times where a context with such a one is added, or with a call's frame
more_times : (known : List Context) (c : Context) → ((t : ℕ) (d : Context) → c ≡ frozen_frame t d → t ≤ last) → AreTimes known → AreTimes (known ++ c ∷ [])
more_times [] c f h zero t d e = f t d e
more_times [] c f h (suc i) t d e = absurd (cc)
more_times (x ∷ xs) c f h zero t d e = h 0 t d e
more_times (x ∷ xs) c f h (suc i) t d e = more_times xs c f (λ k. h (suc k)) i t d e

times_added : (old new : List Context) (c : Context) → ((t : ℕ) (d : Context) → c ≡ frozen_frame t d → t ≤ last) → AddsAtMost old new c → AreTimes old
    → AreTimes new
times_added old new c f (inl e) h = subst AreTimes (sym e) h
times_added old new c f (inr e) h = subst AreTimes (sym e) (more_times old c f h)

pub times_called : (old new : List Context) (place : ℕ) (caller base : Context) → AddsAtMost old new (call_frame place caller base) → AreTimes old
    → AreTimes new
times_called old new place caller base = times_added old new (call_frame place caller base) (λ t d e. absurd (cc))
