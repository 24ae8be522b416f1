-- Inputs after one of their streams is read on.
use Rattle.lucid_inputs.proofs.Common.{◌≡◌, ℕ, zero, suc, ◌<◌, ◌≤◌, false, List, [], ◌∷◌, length, map, Option, None, Some, Ok, MatchOption, IfSome, option_map, slice_set, inl, inr, refl, sym, ap, subst, ◌∙◌, arith, IsTrue, Result, AllPairs, length-map, same_Some, slice_get-set_same, Contents, Place, World, advanced, IsOverlong, stream_at, IsWithin, ReadsOn, FitsPlace, Stream, all_bytes, fresh_stream, IsRead, stream_of, ◌⊎◌, Err, IfErr, IsSomeAnd, OnOk, unwrap_or, slice_index_or, length-set, slice_get-map, slice_get_within, cases_eq}
use Rattle.std.proofs.Common.{◌≢◌, Bool}
use Rattle.std.specs.List.{slice_get}
use Rattle.std.proofs.lemmas.Bool.{cases_order}
use Rattle.lucid_lists.proofs.Lists.{slice_get-set_other}
use Rattle.lucid_ports.specs.World.{IsFresh}
use Rattle.lucid_inputs.specs.declared.fault.InputFault.{InputFault}
use Rattle.lucid_inputs.specs.declared.fault.InputFault.TheVariants.{TooLarge}
use Rattle.lucid_inputs.specs.declared.lines.Element.{Element}
use Rattle.lucid_inputs.specs.declared.stream.InputStream.{InputStream}
use Rattle.lucid_inputs.specs.declared.on_demand.Inputs.{Inputs}
use Rattle.lucid_inputs.specs.Faults.{OnTooLarge}
use Rattle.lucid_inputs.specs.Inputs.{AreAskable, FitsAt, IsAskable, ReadsStream, streams}
use Rattle.lucid_inputs.specs.Laws.{AskedAgain, KeepsWithin, PlacesDiffer}
use Rattle.lucid_inputs.specs.Reading.{IsTooLarge}
use Rattle.lucid_inputs.specs.View.{IsReady, place_of}
use Rattle.lucid_inputs.proofs.StepLemmas.{all_bytes-advanced}
use Rattle.lucid_inputs.proofs.StreamLemmas.{fresh_fits}
use Rattle.lucid_inputs.proofs.TakeLemmas.{map-set_same}

-- the stream of a number, by the one that stands there
pub at_is : (streams : List InputStream) (i : ℕ) (s : InputStream) → slice_get streams i ≡ Some s
    → unwrap_or (slice_get (map stream_of streams) i) (fresh_stream 0) ≡ stream_of s
at_is streams i s is = ap (λ o. unwrap_or o (fresh_stream 0)) (slice_get-map stream_of streams i ∙ ap (option_map stream_of) is)

at_other : (streams : List InputStream) (i k : ℕ) (t : InputStream) → k ≢ i
    → unwrap_or (slice_get (map stream_of (slice_set streams i t)) k) (fresh_stream 0) ≡ unwrap_or (slice_get (map stream_of streams) k) (fresh_stream 0)
at_other streams i k t other =
    ap (λ o. unwrap_or o (fresh_stream 0))
    (slice_get-map stream_of (slice_set streams i t) k ∙ ap (option_map stream_of) (slice_get-set_other streams i k t other)
    ∙ sym (slice_get-map stream_of streams k))

-- the numbers of the places
places-map : (streams : List InputStream) → map (λ s. s.place) (map stream_of streams) ≡ map place_of streams
places-map [] = refl
places-map (s ∷ streams) = ap (λ ps. s.place ∷ ps) (places-map streams)

place-at : (streams : List InputStream) (i : ℕ) → i < length streams
    → (unwrap_or (slice_get (map stream_of streams) i) (fresh_stream 0)).place ≡ slice_index_or (map place_of streams) i 0
place-at [] i within = absurd (omega arith)
place-at (s ∷ streams) zero within = refl
place-at (s ∷ streams) (suc i) within = place-at streams i (omega arith)

pub places-set : (streams : List InputStream) (i : ℕ) (s t : InputStream) → slice_get streams i ≡ Some s → t.place ≡ s.place
    → map place_of (slice_set streams i t) ≡ map place_of streams
places-set streams i s t was same = map-set_same place_of streams i t s was same

apart_at : (streams : List InputStream) → AllPairs (λ a b. a ≢ b) (map place_of streams) → (i k : ℕ) → i < length streams → k < length streams
    → slice_index_or (map place_of streams) i 0 ≡ slice_index_or (map place_of streams) k 0 → (i ≡ k) ⊎ ((i < k) ⊎ (k < i)) → i ≡ k
apart_at streams apart i k within inside same (inl e) = e
apart_at streams apart i k within inside same (inr (inl less)) = absurd (apart i k 0 less (omega (arith, inside, length-map streams place_of)) same)
apart_at streams apart i k within inside same (inr (inr more)) = absurd (apart k i 0 more (omega (arith, within, length-map streams place_of)) (sym same))

pub places_differ : PlacesDiffer
places_differ inputs i k within inside same =
    let items = inputs.streams.items in
    let long = length-map items stream_of in
    let here : i < length items = omega (arith, within, long) in
    let there : k < length items = omega (arith, inside, long) in
    apart_at items inputs.apart i k here there (sym (place-at items i here) ∙ same ∙ place-at items k there) (cases_order i k)

-- the bytes of a place stay while they are consumed
told_bytes : (n : ℕ) (o : Option Contents) → option_map all_bytes (option_map (advanced n) o) ≡ option_map all_bytes o
told_bytes n None = refl
told_bytes n (Some c) = ap Some (all_bytes-advanced n c)

bytes_stay : (index : ℕ) (old new : Stream) (w0 w1 : World) → ReadsOn index old new w0 w1
    → (k : ℕ) → option_map all_bytes (w1.place k).contents ≡ option_map all_bytes (w0.place k).contents
bytes_stay index old new w0 w1 on k =
    elim (cases_eq k old.place) [
      | inl same ↦ subst (λ p. option_map all_bytes (w1.place p).contents ≡ option_map all_bytes (w0.place p).contents) (sym same)
          (ap (option_map all_bytes) on.contents ∙ told_bytes on.taken (w0.place old.place).contents)
      | inr other ↦ ap (λ p. option_map all_bytes p.contents) (on.others.others k other)
    ]

-- each stream that fitted its place fits it after one of them is read on
module _ (old new : Inputs) (number index : ℕ) (w0 w1 : World) (there : number < length (streams old))
    (asked : ReadsOn index (stream_at old number) (stream_at new number) w0 w1)
    (others : (k : ℕ) → k ≢ number → stream_at new k ≡ stream_at old k) where
  fits_asked : FitsAt new number w1
  fits_asked = subst (λ p. FitsPlace (stream_at new number) (w1.place p)) (sym asked.place) asked.fits

  fits_other : (k : ℕ) → k < length (streams old) → k ≢ number → FitsAt old k w0 → FitsAt new k w1
  fits_other k within other fit =
      let apart = asked.others.others (stream_at old k).place (λ e. other (places_differ old k number within there e)) in
      subst (λ s. FitsPlace s (w1.place s.place)) (sym (others k other)) (subst (λ p. FitsPlace (stream_at old k) p) (sym apart) fit)

  fits_after : (k : ℕ) → k < length (streams old) → FitsAt old k w0 → FitsAt new k w1
  fits_after k within fit =
      elim (cases_eq k number) [ inl same ↦ subst (λ n. FitsAt new n w1) (sym same) fits_asked | inr other ↦ fits_other k within other fit ]

-- the stream s is t, and no other changes
pub reads_stream : (old new : Inputs) (number index : ℕ) (s t : InputStream) (w0 w1 : World) → number < length old.streams.items
    → slice_get old.streams.items number ≡ Some s → new.streams.items ≡ slice_set old.streams.items number t → new.most ≡ old.most
    → ReadsOn index (stream_of s) (stream_of t) w0 w1 → ReadsStream old number index new w0 w1
reads_stream old new number index s t w0 w1 within was set most on =
    let is = ap (λ ss. slice_get ss number) set ∙ slice_get-set_same old.streams.items number t within in
    let asked = subst (λ a. ReadsOn index a (stream_at new number) w0 w1) (sym (at_is old.streams.items number s was))
    (subst (λ b. ReadsOn index (stream_of s) b w0 w1) (sym (at_is new.streams.items number t is)) on) in
    let others : (k : ℕ) → k ≢ number → stream_at new k ≡ stream_at old k =
    λ k other. ap (λ ss. unwrap_or (slice_get (map stream_of ss) k) (fresh_stream 0)) set ∙ at_other old.streams.items number k t other in
    let long = length-map old.streams.items stream_of in
    let same : map place_of new.streams.items ≡ map place_of old.streams.items =
    ap (map place_of) set ∙ places-set old.streams.items number s t was on.place in
    record {
      asked = asked;
      others = others;
      count = length-map new.streams.items stream_of ∙ ap length set ∙ length-set old.streams.items number t ∙ sym long;
      most = most;
      places = places-map new.streams.items ∙ same ∙ sym (places-map old.streams.items);
      fits = fits_after old new number index w0 w1 (omega (arith, within, long)) asked others;
      bytes = bytes_stay index (stream_of s) (stream_of t) w0 w1 on;
    }

-- each stream is within what may be read
pub all_within : (streams : List InputStream) (i : ℕ) (t : InputStream) (most : ℕ) → i < length streams
    → ((k : ℕ) (s : InputStream) → slice_get streams k ≡ Some s → IsWithin (stream_of s) most) → IsWithin (stream_of t) most
    → (k : ℕ) (s : InputStream) → slice_get (slice_set streams i t) k ≡ Some s → IsWithin (stream_of s) most
all_within streams i t most inside within this k s is =
    elim (cases_eq k i) [
      | inl same ↦
          let here : t ≡ s = same_Some t s (sym (slice_get-set_same streams i t inside) ∙ ap (slice_get (slice_set streams i t)) (sym same) ∙ is) in
          subst (λ r. IsWithin (stream_of r) most) here this
      | inr other ↦ within k s (sym (slice_get-set_other streams i k t other) ∙ is)
    ]

-- the cause of the one refusal that has one
pub told_too_large : {T : Type 0} (r : Result T InputFault) (number index most : ℕ) (old new : Stream) (len : ℕ) (ended : Bool) (o : Option Contents)
    → IfErr r (λ e. OnTooLarge e (λ s. (s ≡ number) × (len ≤ index) × (ended ≡ false)))
    → (len ≤ index → ended ≡ false → (new.consumed ≡ most) × IfSome o (λ c. IsOverlong (all_bytes c) index most))
    → IfErr r (λ e. OnTooLarge e (λ s. IsTooLarge number index most new s o))
told_too_large (Err (TooLarge s)) number index most old new len ended o cause then =
    let facts = then cause.1 cause.2 in record { stream = cause.0; consumed = facts.0; overlong = facts.1 }
told_too_large _ number index most old new len ended o cause then = tt

pub ok_then : {T : Type 0} (r : Result T InputFault) (P Q : Type 0) → OnOk r P → (P → Q) → OnOk r Q
ok_then (Ok x) P Q p then = then p
ok_then (Err e) P Q p then = tt

pub ready_set : {T : Type 0} (streams : List InputStream) (i index : ℕ) (t : InputStream) (r : Result T InputFault) → i < length streams
    → OnOk r (IsReady t index) → OnOk r (IsSomeAnd (slice_get (slice_set streams i t) i) (λ s. IsReady s index))
ready_set streams i index t r within ready =
    ok_then r _ _ ready (λ this. subst (λ o. IsSomeAnd o (λ s. IsReady s index)) (sym (slice_get-set_same streams i t within)) this)

ready_at : (o : Option Element) (elements : List Element) (i : ℕ) (ended : Bool) → slice_get elements i ≡ o → MatchOption o (IsTrue ended) IsRead
    → ended ≡ false → i < length elements
ready_at None elements i ended is ready going = cc
ready_at (Some e) elements i ended is ready going = slice_get_within elements i e is

-- where the end isn't met, an element that is ready is read
pub ready_read : (s : InputStream) (index : ℕ) → IsReady s index → s.ended ≡ false → index < length s.elements.items
ready_read s index ready going = ready_at (slice_get s.elements.items index) s.elements.items index s.ended refl ready going

-- what is said of the stream that stands at a number is said of the stream of that number
pub too_large_at : {T : Type 0} (r : Result T InputFault) (number index most : ℕ) (a b s t : Stream) (w : World) → a ≡ s → b ≡ t
    → IfErr r (λ e. OnTooLarge e (λ n. IsTooLarge number index most t n (w.place s.place).contents))
    → IfErr r (λ e. OnTooLarge e (λ n. IsTooLarge number index most b n (w.place a.place).contents))
too_large_at r number index most a b s t w old new told =
    subst (λ x. IfErr r (λ e. OnTooLarge e (λ n. IsTooLarge number index most b n (w.place x.place).contents))) (sym old)
    (subst (λ y. IfErr r (λ e. OnTooLarge e (λ n. IsTooLarge number index most y n (w.place s.place).contents))) (sym new) told)

pub not_too_large_at : {T : Type 0} (r : Result T InputFault) (index most : ℕ) (a s : Stream) (w : World) → a ≡ s
    → OnOk r (IfSome (w.place s.place).contents (λ c. IsOverlong (all_bytes c) index most → ⊥))
    → OnOk r (IfSome (w.place a.place).contents (λ c. IsOverlong (all_bytes c) index most → ⊥))
not_too_large_at r index most a s w old told =
    subst (λ x. OnOk r (IfSome (w.place x.place).contents (λ c. IsOverlong (all_bytes c) index most → ⊥))) (sym old) told

-- a stream of which nothing is read is within what may be read
fresh_is_within : (s : Stream) (place most : ℕ) → s ≡ fresh_stream place → IsWithin s most
fresh_is_within s place most is = subst (λ x. IsWithin x most) (sym is) (record { consumed = omega arith; ended = λ t. cc })

pub all_fresh_within : (streams : List InputStream) (places : List ℕ) (most : ℕ) → map stream_of streams ≡ map fresh_stream places
    → (k : ℕ) (s : InputStream) → slice_get streams k ≡ Some s → IsWithin (stream_of s) most
all_fresh_within streams places most same k s is = at (slice_get places k) refl
  where
    here : Some (stream_of s) ≡ option_map fresh_stream (slice_get places k)
    here = sym (ap (option_map stream_of) is) ∙ sym (slice_get-map stream_of streams k) ∙ ap (λ l. slice_get l k) same ∙ slice_get-map fresh_stream places k

    at : (o : Option ℕ) → slice_get places k ≡ o → IsWithin (stream_of s) most
    at None e = let none = here ∙ ap (option_map fresh_stream) e in cc
    at (Some p) e = fresh_is_within (stream_of s) p most (same_Some _ _ (here ∙ ap (option_map fresh_stream) e))

-- what stays true for the next call
same_place : (old new : List Stream) (k : ℕ) → map (λ s. s.place) new ≡ map (λ s. s.place) old
    → (unwrap_or (slice_get new k) (fresh_stream 0)).place ≡ (unwrap_or (slice_get old k) (fresh_stream 0)).place
same_place old new k same =
    number_at new k ∙ ap (λ ps. unwrap_or (slice_get ps k) 0) same ∙ sym (number_at old k)
  where
    number_at : (streams : List Stream) (k : ℕ) → (unwrap_or (slice_get streams k) (fresh_stream 0)).place ≡ unwrap_or
        (slice_get (map (λ s. s.place) streams) k) 0
    number_at [] k = refl
    number_at (s ∷ streams) zero = refl
    number_at (s ∷ streams) (suc k) = number_at streams k

pub asked_again : AskedAgain
asked_again old new number index w0 w1 r before k within =
    let inside : k < length (streams old) = omega (arith, within, r.count) in
    let a = before k inside in
    record {
      there = within;
      reached = omega (arith, a.reached, same_place (streams old) (streams new) k r.places, r.asked.reached);
      fits = r.fits k inside a.fits;
    }

pub askable_then : (old new : Inputs) (number index : ℕ) (w0 w1 : World) → IsAskable old number w0 → ReadsStream old number index new w0 w1
    → IsAskable new number w1
askable_then old new number index w0 w1 a r = record {
  there = omega (arith, a.there, r.count);
  reached = omega (arith, a.reached, r.asked.place, r.asked.reached);
  fits = r.fits number a.there a.fits;
}

-- inputs of one stream, of which nothing is read, may be asked once its place is reached
pub fresh_askable : (inputs : Inputs) (place : ℕ) (bytes : Option (List ℕ)) (w : World) → streams inputs ≡ fresh_stream place ∷ [] → place < w.reached
    → IsFresh bytes (w.place place) → IsAskable inputs 0 w
fresh_askable inputs place bytes w same reached fresh =
    let here : stream_at inputs 0 ≡ fresh_stream place = ap (λ ss. unwrap_or (slice_get ss 0) (fresh_stream 0)) same in
    record {
      there = omega (arith, ap length same);
      reached = subst (λ s. s.place < w.reached) (sym here) reached;
      fits = subst (λ s. FitsPlace s (w.place s.place)) (sym here) (fresh_fits place bytes (w.place place) fresh);
    }

-- a stream that stands at a number is within what may be read, and so is its partly read line
kept_at : (inputs : Inputs) (number : ℕ) (o : Option InputStream) → slice_get inputs.streams.items number ≡ o
    → ((stream_at inputs number).consumed ≤ inputs.most) × (length (stream_at inputs number).partial ≤ 4194305)
    × (IsTrue (stream_at inputs number).ended → (stream_at inputs number).consumed < inputs.most)
kept_at inputs number None is =
    let here : stream_at inputs number ≡ fresh_stream 0 =
    ap (λ o. unwrap_or o (fresh_stream 0)) (slice_get-map stream_of inputs.streams.items number ∙ ap (option_map stream_of) is) in
    subst (λ s. (s.consumed ≤ inputs.most) × (length s.partial ≤ 4194305) × (IsTrue s.ended → s.consumed < inputs.most)) (sym here)
    (omega arith, omega arith, λ t. cc)
kept_at inputs number (Some s) is =
    let here = at_is inputs.streams.items number s is in
    let within = inputs.within number s is in
    subst (λ t. (t.consumed ≤ inputs.most) × (length t.partial ≤ 4194305) × (IsTrue t.ended → t.consumed < inputs.most)) (sym here)
    (within.consumed, s.partial.short, within.ended)

pub keeps_within : KeepsWithin
keeps_within inputs number = kept_at inputs number (slice_get inputs.streams.items number) refl

-- fresh streams are read from the places handed in
pub fresh_places : (streams : List InputStream) (places : List ℕ) → map stream_of streams ≡ map fresh_stream places → map place_of streams ≡ places
fresh_places streams places same = sym (places-map streams) ∙ ap (map (λ s. s.place)) same ∙ own places
  where
    own : (ps : List ℕ) → map (λ s. s.place) (map fresh_stream ps) ≡ ps
    own [] = refl
    own (p ∷ ps) = ap (λ qs. p ∷ qs) (own ps)

pub fresh_stays : (bytes : Option (List ℕ)) (p q : Place) → q ≡ p → IsFresh bytes p → IsFresh bytes q
fresh_stays bytes p q same fresh = subst (IsFresh bytes) (sym same) fresh

-- inputs of two streams, of which nothing is read, may be asked once their places are reached
pub both_askable : (inputs : Inputs) (a b : ℕ) (x y : Option (List ℕ)) (w : World) → streams inputs ≡ fresh_stream a ∷ (fresh_stream b ∷ [])
    → a < w.reached → b < w.reached → IsFresh x (w.place a) → IsFresh y (w.place b) → AreAskable inputs w
both_askable inputs a b x y w same la lb fa fb zero within =
    let here : stream_at inputs 0 ≡ fresh_stream a = ap (λ ss. unwrap_or (slice_get ss 0) (fresh_stream 0)) same in
    record {
      there = within;
      reached = subst (λ s. s.place < w.reached) (sym here) la;
      fits = subst (λ s. FitsPlace s (w.place s.place)) (sym here) (fresh_fits a x (w.place a) fa);
    }
both_askable inputs a b x y w same la lb fa fb (suc zero) within =
    let here : stream_at inputs 1 ≡ fresh_stream b = ap (λ ss. unwrap_or (slice_get ss 1) (fresh_stream 0)) same in
    record {
      there = within;
      reached = subst (λ s. s.place < w.reached) (sym here) lb;
      fits = subst (λ s. FitsPlace s (w.place s.place)) (sym here) (fresh_fits b y (w.place b) fb);
    }
both_askable inputs a b x y w same la lb fa fb (suc (suc k)) within = absurd (omega (arith, within, ap length same))
