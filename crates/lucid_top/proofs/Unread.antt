-- Inputs of which nothing was read before, and which were read on since: what is seen of them from outside.
use Rattle.lucid_top.proofs.Common.{◌≡◌, ℕ, ◌≤◌, true, false, List, [], map, Option, Some, None, inr, refl, ap, subst, ◌∙◌, arith, IfSome, slice_get, unwrap_or, option_map, slice_get-map, World, Contents, Elements, Table, PlainWords, Told, HasElements, viewed, most_input_bytes}
use Rattle.lucid_store.specs.Entries.{empty_warehouse}
use Rattle.lucid_search.specs.Noted.{nothing_noted}
use Rattle.lucid_inputs.specs.Inputs.{streams, stream_at, most_bytes}
use Rattle.lucid_inputs.specs.Laws.{KeepsWithin}
use Rattle.lucid_inputs.specs.Streams.{Stream, Fits, fresh_stream}
use Rattle.lucid_inputs.specs.declared.on_demand.Inputs.{Inputs}
use Rattle.lucid_demand_steps.specs.Engine.{AreAskable, EngineView, ReadsOnly, places_of}
use Rattle.lucid_cert.specs.Checked.{MayBe}
use Rattle.lucid_session.specs.Moments.{Start}
use Rattle.lucid_session.specs.Runs.{ReadsWithin}
use Rattle.lucid_session.proofs.Told.{may_have, stream_at as stream_of_place}
use Rattle.lucid_top.proofs.Asking.{places_are}

-- what is said of contents that are told
pub of_told : (P : Contents → Type 0) (o : Option Contents) (c : Contents) → IfSome o P → o ≡ Some c → P c
of_told P None c h is = absurd (cc is)
of_told P (Some d) c h is = let same : d ≡ c = cc is in subst P same h

-- inputs at these places of which nothing was read, and what was done to them since
pub record ReadOn (qs : List ℕ) (old new : Inputs) (before after : World) : Type 0 where
  pub fresh : streams old ≡ map fresh_stream qs
  pub bound : most_bytes old ≡ most_input_bytes
  pub places : places_of (streams new) ≡ places_of (streams old)
  pub most : most_bytes new ≡ most_bytes old
  pub askable : AreAskable (streams new) after
  pub reads_only : ReadsOnly (places_of (streams old)) before after

module _ {qs : List ℕ} {old new : Inputs} {before after : World} (h : ReadOn qs old new before after) where
  were : places_of (streams old) ≡ qs
  were = places_are (streams old) qs h.fresh

  are : places_of (streams new) ≡ qs
  are = h.places ∙ were

  pub reads : ReadsOnly qs before after
  reads = subst (λ ps. ReadsOnly ps before after) were h.reads_only

  -- the stream of an input, before and after
  pub was_there : (k q : ℕ) → slice_get qs k ≡ Some q → slice_get (streams old) k ≡ Some (fresh_stream q)
  was_there k q at = ap (λ (l : List Stream). slice_get l k) h.fresh ∙ slice_get-map fresh_stream qs k ∙ ap (option_map fresh_stream) at

  pub was_at : (k q : ℕ) → slice_get qs k ≡ Some q → stream_at old k ≡ fresh_stream q
  was_at k q at = ap (λ s. unwrap_or s (fresh_stream 0)) (was_there k q at)

  pub is_at : (k q : ℕ) → slice_get qs k ≡ Some q → (s : Stream) × (slice_get (streams new) k ≡ Some s) × (s.place ≡ q) × (stream_at new k ≡ s)
  is_at k q at =
      let s = stream_of_place (streams new) k q (ap (λ ps. slice_get ps k) are ∙ at) in
      (s.0, s.1, s.2, ap (λ y. unwrap_or y (fresh_stream 0)) s.1)

  -- as many bytes of it are consumed as its place tells
  pub fits_at : (k q : ℕ) (at : slice_get qs k ≡ Some q) (c : Contents) → (after.place q).contents ≡ Some c → Fits (is_at k q at).0 c
  fits_at k q at c told =
      let s = is_at k q at in
      let here : (after.place s.0.place).contents ≡ Some c = ap (λ y. (after.place y).contents) s.2 ∙ told in
      of_told _ (after.place s.0.place).contents c (h.askable k s.0 s.1).1 here

  module _ (T : Table) (names : List (List ℕ)) (o p : Told) (words : PlainWords) where
    -- the elements of the inputs are among those that there may be
    abbrev start : Start
    start = record {
      table = T;
      columns = 0;
      count = 0;
      depth = 0;
      most = most_input_bytes;
      policy = record { keeps = true; empties = false; room = None };
      places = qs;
      before = before;
      out_before = o;
    }

    abbrev engine : EngineView
    engine = record {
      table = T;
      known = [];
      stored = empty_warehouse;
      noted = nothing_noted;
      streams = streams new;
      most = most_input_bytes;
      keeps = true;
      empties = false;
      room = None;
    }

    pub may_be : names ≡ T.inputs → (b : Elements) → HasElements (viewed words names qs before after o p) b → MayBe T new b
    may_be named b has = may_have start b engine after refl (subst (λ ns. HasElements (viewed words ns qs before after o p) b) named has) are reads h.askable

    -- no more of them is consumed than may be read
    pub stays_within : KeepsWithin → ReadsWithin (viewed words names qs before after o p)
    stays_within keeps k name q is was now first last =
        let s = is_at k q is.1 in
        let fits = fits_at k q is.1 now last in
        let read = fits.consumed in
        let few : s.0.consumed ≤ most_bytes new = subst (λ (y : Stream). y.consumed ≤ most_bytes new) s.3 (keeps new k).0 in
        let same = h.most in
        let bound = h.bound in inr (omega (arith, few, read, same, bound))
