-- Streams by their numbers: their places differ, and what is read of each.
use Rattle.lucid_demand_steps.proofs.Common.{◌≡◌, ℕ, zero, suc, cond, List, [], ◌∷◌, Option, Some, None, inl, inr, refl, sym, ap, ◌∙◌, subst, arith, IsTrue, Decides, Decides-eqb, cases_eq, same_Some, none-some, PlainValue, In, AllDiffer, World, Contents, Stream, all_bytes, ReadsOn, Extends, elements_read, EngineView, MayHave, AreAskable, places_of, MatchOption, slice_eq-Decides}
use Rattle.std.proofs.Common.{◌≢◌, Bool, true, false, length}
use Rattle.std.specs.Prelude.{slice_get}
use Rattle.lucid_tree.proofs.Members.{found_in}
use Rattle.lucid_lists.proofs.Lists.{slice_get-append_left}
use Rattle.lucid_value.specs.Plain.{eod}
use Rattle.lucid_value.specs.Elements.{element}
use Rattle.lucid_tree.specs.Env.{same_name}
use Rattle.lucid_inputs.specs.Streams.{Fits}
use Rattle.lucid_inputs.specs.Reading.{GivesElement}
use Rattle.lucid_inputs.proofs.StreamLemmas.{elements_fit}
use Rattle.lucid_demand_steps.specs.Elements.{or_end, read_in, told_in, elements_told}

-- the test of names decides
pub same_name_decides : (m n : List ℕ) → Decides (same_name m n) (m ≡ n)
same_name_decides m n = slice_eq-Decides Decides-eqb m n (same_name m n) refl

pub place_in : (streams : List Stream) (k : ℕ) (s : Stream) → slice_get streams k ≡ Some s → In s.place (places_of streams)
place_in [] k s e = absurd (none-some _ e)
place_in (t ∷ streams) zero s e = inl (ap (λ z. z.place) (sym (same_Some _ _ e)))
place_in (t ∷ streams) (suc k) s e = inr (place_in streams k s e)

-- Streams whose places all differ are of one number where they have one place,
pub places_apart : (streams : List Stream) → AllDiffer (places_of streams) → (i k : ℕ) (s t : Stream) → slice_get streams i ≡ Some s
    → slice_get streams k ≡ Some t → s.place ≡ t.place → i ≡ k
places_apart [] differ i k s t e f same = absurd (none-some _ e)
places_apart (x ∷ streams) differ zero zero s t e f same = refl
places_apart (x ∷ streams) differ zero (suc k) s t e f same =
    absurd (differ.0 (subst (λ p. In p (places_of streams)) (sym same ∙ sym (ap (λ z. z.place) (same_Some _ _ e))) (place_in streams k t f)))
places_apart (x ∷ streams) differ (suc i) zero s t e f same =
    absurd (differ.0 (subst (λ p. In p (places_of streams)) (same ∙ sym (ap (λ z. z.place) (same_Some _ _ f))) (place_in streams i s e)))
places_apart (x ∷ streams) differ (suc i) (suc k) s t e f same = ap suc (places_apart streams differ.1 i k s t e f same)

-- a place in the list is that of a stream
record AtPlace (streams : List Stream) (place : ℕ) : Type 0 where
  number : ℕ
  stream : Stream
  there : slice_get streams number ≡ Some stream
  is : stream.place ≡ place

at_place_of : (streams : List Stream) (place : ℕ) → In place (places_of streams) → AtPlace streams place
at_place_of [] place i = absurd i
at_place_of (s ∷ streams) place (inl e) = record { number = 0; stream = s; there = refl; is = sym e }
at_place_of (s ∷ streams) place (inr i) = let r = at_place_of streams place i in record { number = suc r.number; stream = r.stream; there = r.there; is = r.is }

-- and the other way round.
pub places_all_differ :
    (streams : List Stream) → ((i k : ℕ) (s t : Stream) → slice_get streams i ≡ Some s → slice_get streams k ≡ Some t → s.place ≡ t.place → i ≡ k)
    → AllDiffer (places_of streams)
places_all_differ [] apart = tt
places_all_differ (s ∷ streams) apart = (first, places_all_differ streams (λ i k t u e f same. omega (arith, apart (suc i) (suc k) t u e f same)))
  where
    first : In s.place (places_of streams) → ⊥
    first i = let r = at_place_of streams s.place i in let e = apart 0 (suc r.number) s r.stream refl r.there (sym r.is) in absurd (omega (arith, e))

-- of two choices, each of which keeps a value
chosen : (b : Bool) (o p q r : Option PlainValue) (v : PlainValue) → (o ≡ Some v → q ≡ Some v) → (p ≡ Some v → r ≡ Some v) → cond b o p ≡ Some v
    → cond b q r ≡ Some v
chosen true o p q r v f g e = f e
chosen false o p q r v f g e = g e

-- Streams of as many as there were, each of which has read at least what the old one had, have at least the elements that were read.
pub read_extends :
    (names : List (List ℕ)) (old new : List Stream) → length new ≡ length old
    → ((k : ℕ) (s t : Stream) → slice_get old k ≡ Some s → slice_get new k ≡ Some t → (j : ℕ) (v : PlainValue) → read_in s j ≡ Some v → read_in t j ≡ Some v)
    → Extends (elements_read names old) (elements_read names new)
read_extends [] old new same each n j v e = absurd (none-some _ e)
read_extends (m ∷ names) [] new same each n j v e = absurd (none-some _ e)
read_extends (m ∷ names) (s ∷ old) [] same each n j v e = absurd (omega (arith, same))
read_extends (m ∷ names) (s ∷ old) (t ∷ new) same each n j v e =
    chosen (same_name m n) (read_in s j) (elements_read names old n j) (read_in t j) (elements_read names new n j) v (each 0 s t refl refl j v)
    (read_extends names old new (omega (arith, same)) (λ k. each (suc k)) n j v) e

-- A stream that is read on keeps each element. One whose end was met isn't read on, so its end of data stays.
pub reads_on_keeps : (index : ℕ) (s t : Stream) (before after : World) → ReadsOn index s t before after → (j : ℕ) (v : PlainValue) → read_in s j ≡ Some v
    → read_in t j ≡ Some v
reads_on_keeps index s t before after r j v e = by s.ended refl
  where
    open_end : (o : Option PlainValue) → or_end o s ≡ Some v → s.ended ≡ false → o ≡ Some v
    open_end None h f = absurd (none-some _ (ap (λ b. cond {A = Option PlainValue} b (Some eod) None) (sym f) ∙ h))
    open_end (Some x) h f = h

    by : (b : Bool) → s.ended ≡ b → read_in t j ≡ Some v
    by true f = ap (λ z. read_in z j) (r.ended f) ∙ e
    by false f = ap (λ o. or_end o t) (ap (λ es. slice_get es j) r.elements
        ∙ slice_get-append_left s.elements r.more j v (open_end (slice_get s.elements j) e f))

-- What was read stays read, where one stream is read on.
pub reading_extends :
    (names : List (List ℕ)) (old new : List Stream) (number index : ℕ) (before after : World) → length new ≡ length old
    → ((s t : Stream) → slice_get old number ≡ Some s → slice_get new number ≡ Some t → ReadsOn index s t before after)
    → ((k : ℕ) → k ≢ number → slice_get new k ≡ slice_get old k)
    → Extends (elements_read names old) (elements_read names new)
reading_extends names old new number index before after same reads others = read_extends names old new same each
  where
    each : (k : ℕ) (s t : Stream) → slice_get old k ≡ Some s → slice_get new k ≡ Some t → (j : ℕ) (v : PlainValue) → read_in s j ≡ Some v → read_in t j ≡ Some v
    each k s t e f j v h = elim (cases_eq k number) [
      | inl z ↦ reads_on_keeps index s t before after (reads s t (ap (slice_get old) (sym z) ∙ e) (ap (slice_get new) (sym z) ∙ f)) j v h
      | inr z ↦ subst (λ x. read_in x j ≡ Some v) (same_Some _ _ (sym e ∙ sym (others k z) ∙ f)) h
    ]

-- The elements of a name are those that its stream has read, where no name stands twice.
pub elements_at :
    (names : List (List ℕ)) (streams : List Stream) (number : ℕ) (n : List ℕ) (s : Stream) → AllDiffer names → slice_get names number ≡ Some n
    → slice_get streams number ≡ Some s
    → (j : ℕ) → elements_read names streams n j ≡ read_in s j
elements_at [] streams number n s differ e f j = absurd (none-some _ e)
elements_at (m ∷ names) [] number n s differ e f j = absurd (none-some _ f)
elements_at (m ∷ names) (t ∷ streams) zero n s differ e f j =
    ap (λ b. cond b (read_in t j) (elements_read names streams n j)) ((same_name_decides m n).1 (same_Some _ _ e)) ∙ ap (λ x. read_in x j) (same_Some _ _ f)
elements_at (m ∷ names) (t ∷ streams) (suc number) n s differ e f j =
    (elim (same_name m n) as (λ b. same_name m n ≡ b → cond b (read_in t j) (elements_read names streams n j) ≡ read_in s j) [
      | true ↦ λ h. absurd (differ.0 (subst (λ x. In x names) (sym ((same_name_decides m n).0 h)) (found_in names number n e)))
      | false ↦ λ h. elements_at names streams number n s differ.1 e f j
    ]) refl

-- the element that a stream gives is the one that it has read
gives_read : (s : Stream) (index : ℕ) (v : PlainValue) → GivesElement s index v → read_in s index ≡ Some v
gives_read s index v g = by (slice_get s.elements index) g
  where
    by : (o : Option PlainValue) → MatchOption o (IsTrue s.ended × (v ≡ eod)) (λ e. v ≡ e) → or_end o s ≡ Some v
    by None h = ap (λ b. cond {A = Option PlainValue} b (Some eod) None) h.0 ∙ ap Some (sym h.1)
    by (Some e) h = ap Some (sym h)

-- So an element that a stream gives is among those read.
pub reads_its_element :
    (names : List (List ℕ)) (streams : List Stream) (number index : ℕ) (n : List ℕ) (s : Stream) (v : PlainValue) → AllDiffer names
    → slice_get names number ≡ Some n → slice_get streams number ≡ Some s
    → GivesElement s index v → elements_read names streams n index ≡ Some v
reads_its_element names streams number index n s v differ e f g = elements_at names streams number n s differ e f index ∙ gives_read s index v g

-- what a place tells of a stream that fits it extends what the stream has read
told_extends_one : (s : Stream) (o : Option Contents) → MatchOption o (Unit {0}) (λ c. Fits s c) → (j : ℕ) (v : PlainValue) → read_in s j ≡ Some v
    → told_in s o j ≡ Some v
told_extends_one s None fits j v e = e
told_extends_one s (Some c) fits j v e = by (slice_get s.elements j) (elements_fit s c fits j) e
  where
    ended : (b : Bool) → s.ended ≡ b → (IsTrue s.ended → element (all_bytes c) j ≡ eod) → cond {A = Option PlainValue} b (Some eod) None ≡ Some v
        → ◌≡◌ {A = Option PlainValue} (Some (element (all_bytes c) j)) (Some v)
    ended true f past h = ap Some (past f) ∙ h
    ended false f past h = absurd (none-some _ h)

    by : (o : Option PlainValue) → MatchOption o (IsTrue s.ended → element (all_bytes c) j ≡ eod) (λ x. x ≡ element (all_bytes c) j) → or_end o s ≡ Some v
        → ◌≡◌ {A = Option PlainValue} (Some (element (all_bytes c) j)) (Some v)
    by None past h = ended s.ended refl past h
    by (Some x) is h = ap Some (sym is) ∙ h

-- What places tell extends what is read, where each stream fits its place.
pub told_extends : (e : EngineView) (w : World) → AreAskable e.streams w → MayHave e (elements_told e.table.inputs e.streams w)
told_extends e w ask = go e.table.inputs e.streams ask
  where
    go : (names : List (List ℕ)) (streams : List Stream) → AreAskable streams w → Extends (elements_read names streams) (elements_told names streams w)
    go [] streams a n j v h = absurd (none-some _ h)
    go (m ∷ names) [] a n j v h = absurd (none-some _ h)
    go (m ∷ names) (s ∷ streams) a n j v h =
        chosen (same_name m n) (read_in s j) (elements_read names streams n j) (told_in s (w.place s.place).contents j) (elements_told names streams w n j) v
        (told_extends_one s (w.place s.place).contents (a 0 s refl).1 j v) (go names streams (λ k. a (suc k)) n j v) h
