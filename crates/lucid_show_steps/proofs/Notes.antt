-- What is noted of a turn, from what was seen.
use Rattle.std.proofs.Common.{◌≡◌, ℕ, ◌-◌, ◌≤◌, ◌⊎◌, inl, inr, Bool, true, List, Option, Result, Ok, Err, length, sym, ap, subst, ◌∙◌, arith}
use Rattle.std.specs.Prelude.{IfOk, OnOk, MatchResult, option_map}
use Rattle.std.proofs.lemmas.List.{length-map}
use Rattle.lucid_tags.specs.declared.Key.{Key}
use Rattle.lucid_store.specs.Stored.{Stored}
use Rattle.lucid_show_steps.specs.Events.{PlainEvent, PlainTouched, plain_event, plain_events, plain_touched}
use Rattle.lucid_show_steps.specs.Turns.{LeavesOut, NotesUpTo, values_seen}
use Rattle.lucid_show_steps.specs.declared.event.Event.{Event}
use Rattle.lucid_show_steps.specs.declared.event.Touched.{Touched}

pub equal_drop : (n a b c d : ℕ) → n ≡ c - d → c ≡ a → b ≡ d → n ≡ a - b
equal_drop n a b c d is first second = is ∙ (ap (λ x. x - d) first ∙ ap (λ y. a - y) (sym second))

-- what was seen is noted, or there was no memory to look or to note
pub seen_notes : {E : Type 0} (r : Result (Option Touched) E) (t : Option PlainTouched) (n m : ℕ) (lacks : Bool) (N : Option PlainTouched → ℕ → Type 0) → n ≡ m
    → IfOk r (λ touched. option_map plain_touched touched ≡ t)
    → MatchResult r (λ touched. (lacks ≡ true) ⊎ N (option_map plain_touched touched) n) (λ _. lacks ≡ true)
    → (lacks ≡ true) ⊎ N t m
seen_notes (Ok touched) t n m lacks N count is (inl none) = inl none
seen_notes (Ok touched) t n m lacks N count is (inr noted) = inr (subst (λ k. N t k) count (subst (λ (x : Option PlainTouched). N x n) is noted))
seen_notes (Err e) t n m lacks N count is none = inl none

-- a turn for which there is no room is counted
pub late_counts : {E : Type 0} (r : Result (Unit {0}) E) (most : ℕ) (t : Option PlainTouched) (count seen : ℕ) (w : Stored) (keys keys_after : List Key) (events : List Event)
    (new : List PlainEvent) → most ≤ length events → seen ≡ values_seen t count → OnOk r (LeavesOut seen (plain_events events) new)
    → OnOk r (NotesUpTo most t count w keys keys_after (plain_events events) new)
late_counts (Ok u) most t count seen w keys keys_after events new late is counted =
    let long : length (plain_events events) ≡ length events = length-map events plain_event in
    record {
      notes = λ few. absurd (omega (arith, few, late, long));
      counts = λ _. subst (λ n. LeavesOut n (plain_events events) new) is counted;
    }
late_counts (Err e) most t count seen w keys keys_after events new late is counted = tt
