-- What a look-up leaves: a hit renews an age, and no value changes.
use Rattle.lucid_demand.proofs.Common.{List, Option, None, refl, sym, ap, ◌∙◌, subst, arith, IsSome, Value, PlainValue, plain, IsKnown, Key, TaskRow, World, Stored, value_at, IsTouched, DatonAt, plain_key, plain_rows, held_in, EngineView, known_elements, holding, Demand, stays, Owns, Waits, held_stays, owns_drops, work_over}
use Rattle.std.proofs.Common.{◌≡◌, Some}
use Rattle.std.specs.Prelude.{option_map}
use Rattle.lucid_store.proofs.CallerLemmas.{held-touched}
use Rattle.lucid_demand_steps.proofs.HeldByKey.{held_by_key}
use Rattle.lucid_demand_steps.proofs.Owning.{few_where_fewer}

module _ (d : Demand) (now : EngineView) (w : World) (stored : Stored) (key : Key) (owns : Owns d now w) (touched : IsTouched now.stored stored key) where
  -- each daton is held as it was
  pub held_as_before : (k : DatonAt) → held_in now.known stored k.0 k.1 ≡ holding now k.0 k.1
  held_as_before k = (held_stays now.known now.stored stored owns.contexts owns.keys (held-touched now.stored stored key touched)).1 k

  -- What is owned stays right after a look-up,
  pub owns_touched : Owns d (record now { stored = stored }) w
  owns_touched =
      owns_drops d now w owns stored now.noted (λ k v h. sym (held-touched now.stored stored key touched k) ∙ h)
      (λ keeps k. held-touched now.stored stored key touched k)
      (omega (arith, touched.lost)) (λ node tag k number h. h)
      (λ h. few_where_fewer d.first.room now.stored stored (omega (arith, touched.count)) (owns.since.few h))

  -- and the rows wait on.
  pub waits_touched : (rs : List (Option TaskRow)) → Waits d now w rs → Waits d (record now { stored = stored }) w rs
  waits_touched rs waits = record {
    going = record {
      work = work_over d (known_elements now) (holding now) (held_in now.known stored) now.stored.lost stored.lost (plain_rows now.known rs)
          (λ keeps z. (sym touched.lost ∙ z, λ q i. subst (λ o. IsSome o) (sym (held_as_before q)) i)) waits.going.work;
      owns = owns_touched;
    };
    known = waits.known;
  }

  -- What is found under a known key is what is held of its daton, before and after.
  pub found_is_held : (found : Option Value) → IsKnown now.known key.tag → found ≡ value_at now.stored key
      → held_in now.known stored (plain_key now.known key).0 (plain_key now.known key).1 ≡ option_map plain found
  found_is_held found tag is = held_as_before (plain_key now.known key) ∙ held_by_key now.known now.stored key owns.contexts owns.keys tag
      ∙ ap (option_map plain) (sym is)

-- What isn't held doesn't stay held.
pub absent_is_no_stay : (d : Demand) (now : EngineView) (w : World) (k : DatonAt) → Owns d now w → holding now k.0 k.1 ≡ None → stays d k.0 k.1 ≡ None
absent_is_no_stay d now w k owns none = go (stays d k.0 k.1) refl
  where
    go : (o : Option PlainValue) → stays d k.0 k.1 ≡ o → o ≡ None
    go None e = refl
    go (Some v) e = let both : None ≡ Some v = sym none ∙ (owns.stock.stock (known_elements now) (λ n j u h. h)).stays k.0 k.1 v e in absurd (cc)
