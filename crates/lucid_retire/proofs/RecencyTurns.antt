-- A turn of the policy that keeps what was touched last.
use Rattle.lucid_retire.proofs.Common.{◌≡◌, subst, Bool, true, false, cond, inl, inr, Option, Some, None, refl, ap, sym, ◌∙◌, option_map, Key, Entry, Stored, same_key, entry_at, cleared}
use Rattle.lucid_value.specs.View.{plain}
use Rattle.lucid_value.specs.Plain.{PlainValue}
use Rattle.lucid_store.specs.Entries.{held, SetsOnly, DropsOldest}
use Rattle.lucid_retire.specs.Turns.{OnlyDrops}

-- where one key goes, nothing else comes
goes_only : (old new : Stored) (key : Key) → SetsOnly old new key None → OnlyDrops old new
goes_only old new key sets q value h = by (same_key key q) (sets q)
  where
    seen : Option Entry → Option PlainValue
    seen o = option_map plain (option_map (λ (x : Entry). x.value) o)

    by : (t : Bool) → entry_at new q ≡ cond t None (entry_at old q) → held old q ≡ Some value
    by true e = let none : held new q ≡ None = ap seen e in cc
    by false e = sym (ap seen e) ∙ h

cleared_only : (old : Stored) → OnlyDrops old (cleared old)
cleared_only old q value h = cc

-- what is dropped where too many are held
pub record Dropped (old new : Stored) : Type 0 where
  pub only : OnlyDrops old new
  pub lost : new.lost ≡ old.lost

pub dropped : (old new : Stored) → DropsOldest old new → Dropped old new
dropped old new (inl h) = record { only = goes_only old new h.0 h.3.entries; lost = h.3.lost }
dropped old new (inr h) = subst (λ w. Dropped old w) (sym h.1) (record { only = cleared_only old; lost = refl })
