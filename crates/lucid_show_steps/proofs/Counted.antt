-- What is told of keys that were dropped.
use Rattle.std.proofs.Common.{◌≡◌, ℕ, zero, suc, ◌+◌, ◌-◌, ◌<◌, ◌≤◌, List, [], ◌∷◌, ◌++◌, Some, None, length, take, drop, refl, sym, ap, subst, ◌∙◌, arith}
use Rattle.std.specs.Prelude.{slice_get, min, ◌^◌}
use Rattle.std.proofs.lemmas.List.{take-append-drop, take_all, length-take-le, length-drop, map-append}
use Rattle.lucid_tags.specs.declared.Key.{Key}
use Rattle.lucid_store.specs.Stored.{Stored}
use Rattle.lucid_store.specs.Entries.{held}
use Rattle.lucid_show_steps.specs.Turns.{AreGone, TellsDropped, LeavesOut, again}
use Rattle.lucid_show_steps.specs.Events.{plain_event, plain_events, left_out}
use Rattle.lucid_show_steps.specs.declared.event.Event.{Event}
use Rattle.lucid_show_steps.specs.declared.event.Event.TheVariants.{LeftOut}

slice_get-drop : (keys : List Key) (n : ℕ) → slice_get (drop n keys) 0 ≡ slice_get keys n
slice_get-drop [] zero = refl
slice_get-drop [] (suc n) = refl
slice_get-drop (k ∷ ks) zero = refl
slice_get-drop (k ∷ ks) (suc n) = slice_get-drop ks n

-- so many of the first keys are told, and they are gone; the next is held, where there is one
pub tells_front : (count gone : ℕ) (keys : List Key) (w : Stored) → gone ≤ length keys → gone ≤ count → AreGone w (take gone keys)
    → (gone < count → (key : Key) → slice_get keys gone ≡ Some key → held w key ≡ None → ⊥)
    → TellsDropped count keys (drop gone keys) w (take gone keys) (count - length (take gone keys))
tells_front count gone keys w within few are next =
    let long : length (take gone keys) ≡ gone = length-take-le gone keys within in
    record {
      first = sym (take-append-drop gone keys);
      gone = are;
      all = omega (arith, long, few);
      rest = λ some key is none. next (omega (arith, long, some)) key (sym (slice_get-drop keys gone) ∙ is) none;
    }

-- the same, of lists that are the keys
pub tells : (count gone : ℕ) (keys front middle back rest dropped : List Key) (w : Stored) → front ≡ keys → middle ≡ keys → back ≡ keys
    → dropped ≡ take gone middle → rest ≡ take (length back - gone) (drop gone back)
    → gone ≤ length front → gone ≤ count → AreGone w (take gone front)
    → (gone < count → (key : Key) → slice_get front gone ≡ Some key → held w key ≡ None → ⊥)
    → TellsDropped count keys rest w dropped (count - length dropped)
tells count gone keys front middle back rest dropped w f m b taken left within few are next =
    let all_left : take (length back - gone) (drop gone back) ≡ drop gone back = take_all (length back - gone) (drop gone back) (omega (arith, length-drop gone back)) in
    let is_left : rest ≡ drop gone keys = left ∙ all_left ∙ ap (drop gone) b in
    let is_taken : dropped ≡ take gone keys = taken ∙ ap (take gone) m in
    let base = tells_front count gone keys w (subst (λ (ks : List Key). gone ≤ length ks) f within) few (subst (λ ks. AreGone w (take gone ks)) f are)
    (subst (λ (ks : List Key). gone < count → (key : Key) → slice_get ks gone ≡ Some key → held w key ≡ None → ⊥) f next) in
    let with_rest = subst (λ ks. TellsDropped count keys ks w (take gone keys) (count - length (take gone keys))) (sym is_left) base in
    subst (λ ks. TellsDropped count keys rest w ks (count - length ks)) (sym is_taken) with_rest

-- what was left out at the end is counted on
pub left_again : (old front new : List Event) (before count after : ℕ) → old ≡ front ++ LeftOut before ∷ [] → new ≡ front ++ LeftOut after ∷ []
    → after ≡ min (before + count) (2 ^ 64 - 1) → LeavesOut count (plain_events old) (plain_events new)
left_again old front new before count after o n is =
    again (plain_events front) before
    (ap plain_events o ∙ map-append plain_event front (LeftOut before ∷ []))
    (ap plain_events n ∙ map-append plain_event front (LeftOut after ∷ []) ∙ ap (λ m. plain_events front ++ left_out m ∷ []) is)
