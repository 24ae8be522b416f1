-- Streams of which nothing is read, over places of which nothing is read.
use Rattle.lucid_top.proofs.Common.{◌≡◌, ℕ, ◌<◌, List, [], ◌∷◌, map, Option, Some, None, refl, sym, ap, subst, ◌∙◌, slice_get, option_map, slice_get-map, World, AreUnread}
use Rattle.lucid_inputs.specs.Streams.{Stream, FitsPlace, fresh_stream}
use Rattle.lucid_inputs.specs.Laws.{FreshFits}
use Rattle.lucid_demand_steps.specs.Engine.{AreAskable, places_of}

-- the numbers of the places of fresh streams
places_fresh : (numbers : List ℕ) → places_of (map fresh_stream numbers) ≡ numbers
places_fresh [] = refl
places_fresh (n ∷ numbers) = ap (λ rest. n ∷ rest) (places_fresh numbers)

pub places_are : (streams : List Stream) (numbers : List ℕ) → streams ≡ map fresh_stream numbers → places_of streams ≡ numbers
places_are streams numbers is = ap places_of is ∙ places_fresh numbers

fresh_at : FreshFits → (numbers : List ℕ) (w : World) (k : ℕ) (s : Stream) (number : Option ℕ) → AreUnread numbers w → slice_get numbers k ≡ number
    → option_map fresh_stream number ≡ Some s
    → (s.place < w.reached) × FitsPlace s (w.place s.place)
fresh_at fits numbers w k s None unread at is = absurd (cc (is))
fresh_at fits numbers w k s (Some q) unread at is =
    let same : fresh_stream q ≡ s = cc (is) in
    let there = unread k q at in
    subst (λ (x : Stream). (x.place < w.reached) × FitsPlace x (w.place x.place)) same (there.0, fits q there.1.0 (w.place q) there.1.1)

pub askable : FreshFits → (streams : List Stream) (numbers : List ℕ) (w : World) → streams ≡ map fresh_stream numbers → AreUnread numbers w
    → AreAskable streams w
askable fits streams numbers w is unread k s at =
    fresh_at fits numbers w k s (slice_get numbers k) unread refl
    (sym (slice_get-map fresh_stream numbers k) ∙ ap (λ (x : List Stream). slice_get x k) (sym is) ∙ at)
