-- Streams of which nothing is read may be asked once their places are reached.
use Rattle.std.proofs.Common.{◌≡◌, ◌<◌, ℕ, zero, suc, List, [], ◌∷◌, Option, sym, subst}
use Rattle.std.proofs.lemmas.Option.{none-some, same_Some}
use Rattle.lucid_ports.specs.World.{World, IsFresh}
use Rattle.lucid_inputs.specs.Streams.{Stream, FitsPlace, fresh_stream}
use Rattle.lucid_inputs.specs.Laws.{FreshFits}
use Rattle.lucid_demand_steps.specs.Engine.{AreAskable}

pub none_askable : (streams : List Stream) (w : World) → streams ≡ [] → AreAskable streams w
none_askable streams w same = subst (λ its. AreAskable its w) (sym same) at
  where
    at : AreAskable [] w
    at k s e = absurd (none-some s e)

module _ (fits : FreshFits) (w : World) where
  -- a stream may be asked
  abbrev IsAskable : Stream → Type 0
  IsAskable s = (s.place < w.reached) × FitsPlace s (w.place s.place)

  -- the stream that is read from a place just reached
  fresh : (a : ℕ) (x : Option (List ℕ)) (s : Stream) → fresh_stream a ≡ s → a < w.reached → IsFresh x (w.place a) → IsAskable s
  fresh a x s same within new = subst IsAskable same (within, fits a x (w.place a) new)

  pub one_askable : (streams : List Stream) (a : ℕ) (x : Option (List ℕ)) → streams ≡ fresh_stream a ∷ [] → a < w.reached → IsFresh x (w.place a)
      → AreAskable streams w
  one_askable streams a x same within new = subst (λ its. AreAskable its w) (sym same) at
    where
      at : AreAskable (fresh_stream a ∷ []) w
      at zero s e = fresh a x s (same_Some _ _ e) within new
      at (suc k) s e = absurd (none-some s e)

  pub both_askable : (streams : List Stream) (a b : ℕ) (x y : Option (List ℕ)) → streams ≡ fresh_stream a ∷ (fresh_stream b ∷ []) → a < w.reached
      → b < w.reached → IsFresh x (w.place a) → IsFresh y (w.place b) → AreAskable streams w
  both_askable streams a b x y same within_a within_b new_a new_b = subst (λ its. AreAskable its w) (sym same) at
    where
      at : AreAskable (fresh_stream a ∷ (fresh_stream b ∷ [])) w
      at zero s e = fresh a x s (same_Some _ _ e) within_a new_a
      at (suc zero) s e = fresh b y s (same_Some _ _ e) within_b new_b
      at (suc (suc k)) s e = absurd (none-some s e)
