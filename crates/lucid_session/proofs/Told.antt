-- The elements that the places of a run tell are those of its inputs, at each of its moments.
use Rattle.lucid_session.proofs.Common.{◌≡◌, ℕ, zero, suc, Bool, true, false, cond, List, Option, None, refl, sym, ap, ◌∙◌, subst, slice_get, option_map, same_Some, none-some, Elements, World, Contents, Stream, all_bytes, elements_told, EngineView, MayHave, AreAskable, ReadsOnly, places_of, Start, Has, slice_get-map}
use Rattle.std.proofs.Common.{[], ◌∷◌, Some}
use Rattle.lucid_value.specs.Elements.{element}
use Rattle.lucid_tree.specs.Env.{same_name}
use Rattle.lucid_equations.specs.MoreElements.{Extends}
use Rattle.lucid_demand_steps.specs.Elements.{told_in}
use Rattle.lucid_demand_steps.proofs.Places.{same_name_decides, told_extends}

-- the place of a stream that has a number
pub place_at : (streams : List Stream) (k : ℕ) (s : Stream) → slice_get streams k ≡ Some s → slice_get (places_of streams) k ≡ Some s.place
place_at streams k s e = slice_get-map (λ x. x.place) streams k ∙ ap (option_map (λ x. x.place)) e

-- the stream that has a place's number
pub stream_at : (streams : List Stream) (k q : ℕ) → slice_get (places_of streams) k ≡ Some q → (s : Stream) × (slice_get streams k ≡ Some s) × (s.place ≡ q)
stream_at [] k q e = absurd (none-some _ e)
stream_at (s ∷ streams) zero q e = (s, refl, same_Some _ _ e)
stream_at (s ∷ streams) (suc k) q e = stream_at streams k q e

-- what a place tells, where it told contents of the same bytes before
pub tells_too : (o p : Option Contents) (c : Contents) → option_map all_bytes p ≡ option_map all_bytes o → o ≡ Some c
    → (d : Contents) × (p ≡ Some d) × (all_bytes d ≡ all_bytes c)
tells_too o None c same e = absurd (none-some _ (same ∙ ap (option_map all_bytes) e))
tells_too o (Some d) c same e = (d, refl, same_Some _ _ (same ∙ ap (option_map all_bytes) e))

-- The places tell these elements of streams.
abbrev Tells : World → List (List ℕ) → List Stream → Elements → Type 0
Tells w names streams b =
    (k : ℕ) (n : List ℕ) (s : Stream) → slice_get names k ≡ Some n → slice_get streams k ≡ Some s
    → (c : Contents) × ((w.place s.place).contents ≡ Some c) × ((j : ℕ) → b n j ≡ Some (element (all_bytes c) j))

told_by : (w : World) (names : List (List ℕ)) (streams : List Stream) (b : Elements) → Tells w names streams b → Extends (elements_told names streams w) b
told_by w [] streams b tells n j v e = absurd (none-some _ e)
told_by w (m ∷ names) [] b tells n j v e = absurd (none-some _ e)
told_by w (m ∷ names) (s ∷ streams) b tells n j v e = by (told_by w names streams b (λ k. tells (suc k)) n j v) (same_name m n) refl e
  where
    first : m ≡ n → told_in s (w.place s.place).contents j ≡ Some v → b n j ≡ Some v
    first same e =
        let c = tells 0 m s refl refl in
        ap (λ x. b x j) (sym same) ∙ c.2 j ∙ sym (ap (λ o. told_in s o j) c.1) ∙ e

    by : (elements_told names streams w n j ≡ Some v → b n j ≡ Some v) → (t : Bool) → same_name m n ≡ t
        → cond t (told_in s (w.place s.place).contents j) (elements_told names streams w n j) ≡ Some v → b n j ≡ Some v
    by more true h e = first ((same_name_decides m n).0 h) e
    by more false h e = more e

module _ (z : Start) (b : Elements) where
  -- the places of inputs tell their elements at each moment
  tells_now : (w : World) (streams : List Stream) → Has z b → places_of streams ≡ z.places → ReadsOnly z.places z.before w → Tells w z.table.inputs streams b
  tells_now w streams has places reads k n s e f =
      let c = has k n s.place (e, sym (ap (λ ps. slice_get ps k) places) ∙ place_at streams k s f) in
      let d = tells_too (z.before.place s.place).contents (w.place s.place).contents c.0 (reads.bytes s.place) c.1 in
      (d.0, d.1, λ j. c.2 j ∙ ap (λ bytes. Some (element bytes j)) (sym d.2))

  -- So the elements of the inputs are among those that an engine of the run may have.
  pub may_have : (e : EngineView) (w : World) → e.table ≡ z.table → Has z b → places_of e.streams ≡ z.places → ReadsOnly z.places z.before w
      → AreAskable e.streams w → MayHave e b
  may_have e w same has places reads ask n j v known =
      told_by w e.table.inputs e.streams b (subst (λ T. Tells w T.inputs e.streams b) (sym same) (tells_now w e.streams has places reads)) n j v
      (told_extends e w ask n j v known)
