-- What making a certificate promises, as it is seen from outside.
use Rattle.lucid_top.proofs.Common.{◌≡◌, false, ℕ, zero, suc, ◌+◌, ◌<◌, ◌≤◌, List, [], length, get_or, Some, Ok, Err, ◌⊎◌, inl, inr, refl, sym, ap, subst, ◌∙◌, arith, IfSome, slice_get, cases_lt, slice_get_within, slice_get-get_or, World, Contents, In, all_bytes, Elements, Table, equations_of, IsOverlong, PlainWords, Told, HasElements, RunView, Stop, Outcome, viewed, WritesOnly, Why, ConsumesNothing, ForSomeAdded, IsMakingStop, IsNotMade, Makes, LiesPast}
use Rattle.lucid_value.specs.Lines.{end_of_line}
use Rattle.lucid_inputs.specs.Inputs.{streams, most_bytes}
use Rattle.lucid_inputs.specs.Laws.{KeepsWithin}
use Rattle.lucid_inputs.specs.Streams.{Stream, fresh_stream}
use Rattle.lucid_inputs.specs.declared.on_demand.Inputs.{Inputs}
use Rattle.lucid_equations.specs.Ranges.{IsInRange}
use Rattle.lucid_equations.specs.Visits.{consults_on_nodes}
use Rattle.lucid_demand_steps.specs.Elements.{elements_read}
use Rattle.lucid_demand_steps.specs.Engine.{places_of}
use Rattle.lucid_demand_steps.specs.Engine as facts
use Rattle.lucid_demand_steps.specs.Faults.{OnTooLarge}
use Rattle.lucid_demand_steps.specs.declared.fault.DemandFault.{DemandFault}
use Rattle.lucid_demand_steps.specs.declared.fault.DemandFault.TheVariants as fault
use Rattle.lucid_cert_rules.specs.WhyTexts.{IsTextOf}
use Rattle.lucid_cert_rules.specs.Meant.{WhatFollowsIsMeant}
use Rattle.lucid_cert.specs.Checked.{MayBe}
use Rattle.lucid_cert.specs.Certified.{IsCertificate}
use Rattle.lucid_cert.specs.Drawn.{AsDemanded, HasDrawn, view_of as seen_by}
use Rattle.lucid_session.specs.Runs.{IsInput}
use Rattle.lucid_session.specs.Subject.{OneStream, table_stream}
use Rattle.lucid_session.proofs.Told.{tells_too}
use Rattle.lucid_report.specs.declared.stop.Done.TheVariants as done
use Rattle.lucid_report.specs.declared.stop.Stop.TheVariants as stop
use Rattle.lucid_top.specs.Makes.{ConsultsPast, ConsumesAt, IsConsultedAt, IsWhy, IsWhyText, MakesSo}
use Rattle.lucid_top.proofs.Ending.{as_text}
use Rattle.lucid_top.proofs.Proving.{proves}
use Rattle.lucid_top.proofs.Unread.{ReadOn, of_told, reads, was_there, is_at, fits_at, may_be, stays_within}
use Rattle.lucid_top.proofs.Views.{TellAlike}

-- what holds of each number below a bound for added numbers from some on, holds of all of them from one on
all_from : (P : ℕ → ℕ → Type 0) (n : ℕ) → ((k : ℕ) → k < n → ForSomeAdded (P k)) → ForSomeAdded (λ d. (k : ℕ) → k < n → P k d)
all_from P zero h = (0, λ d le k lt. absurd (omega (arith, lt)))
all_from P (suc n) h =
    let before = all_from P n (λ k lt. h k (omega (arith, lt))) in
    let last = h n (omega arith) in (
      before.0 + last.0,
      λ d le k lt. elim (cases_lt k n) [
        | inl below ↦ before.1 d (omega (arith, le)) k below
        | inr past ↦ let same : n ≡ k = omega (arith, past, lt) in subst (λ i. P i d) same (last.1 d (omega (arith, le)))
      ],
    )

-- a certificate of a table, over inputs of which nothing was read, at these places
module _ (T : Table) (t : ℕ) (names : List (List ℕ)) (qs : List ℕ) (old new : Inputs) (before after : World) (o p : Told) (named : names ≡ T.inputs)
    (count : length qs ≡ length names)
    (on : ReadOn qs old new before after) (words : PlainWords) where
  abbrev r : RunView
  r = viewed words names qs before after o p

  abbrev x : OneStream
  x = table_stream T

  may : (b : Elements) → HasElements r b → MayBe T new b
  may = may_be on T names o p words named

  -- what is consumed, by the element that is consulted
  module _ (drawn : HasDrawn T old new after words.depth t) (b : Elements) (has : HasElements r b) where
    abbrev Consumes : (k d : ℕ) → Type 0
    Consumes k d = (n : List ℕ) (q : ℕ) → IsInput r k n q → (was now : Contents) → (before.place q).contents ≡ Some was → (after.place q).contents ≡ Some now
        → (length now.consumed ≤ length was.consumed) ⊎ ((j : ℕ) × IsConsultedAt x b r t d n j × (length now.consumed ≤ end_of_line (all_bytes was) j))

    -- of one input
    one_consumes : (k : ℕ) → k < length names → ForSomeAdded (Consumes k)
    one_consumes k lt =
        let name : List ℕ = get_or names k [] in
        let q : ℕ = get_or qs k 0 in
        let at : slice_get qs k ≡ Some q = slice_get-get_or qs k 0 (omega (arith, lt, count)) in
        let is : slice_get names k ≡ Some name = slice_get-get_or names k [] lt in
        let told = has k name q (is, at) in
        let later = tells_too (before.place q).contents (after.place q).contents told.0 ((reads on).bytes q) told.1 in
        let s = is_at on k q at in
        let fits = fits_at on k q at later.0 later.1 in
        let here : (after.place s.0.place).contents ≡ Some later.0 = ap (λ y. (after.place y).contents) s.2 ∙ later.1 in
        by k name q told.0 later.0 s.0 is at told.1 later.1 later.2 fits.consumed
        (of_told _ (after.place s.0.place).contents later.0
        (drawn b (may b has) k name (fresh_stream q) s.0 (ap (λ ns. slice_get ns k) (sym named) ∙ is) (was_there on k q at) s.1) here)
      where
        by : (k : ℕ) (name : List ℕ) (q : ℕ) (was now : Contents) (s : Stream) → slice_get names k ≡ Some name → slice_get qs k ≡ Some q
            → (before.place q).contents ≡ Some was
            → (after.place q).contents ≡ Some now → all_bytes now ≡ all_bytes was → s.consumed ≡ length now.consumed
            → (s.consumed ≤ (fresh_stream q).consumed) ⊎ ((j : ℕ)
            × facts.ForSomeAdded (seen_by T old) (λ d. In (name, j) (consults_on_nodes (equations_of T) b words.depth d t 0))
            × (s.consumed ≤ end_of_line (all_bytes now) j))
            → ForSomeAdded (Consumes k)
        by k name q was now s is at first last bytes read (inl few) = (
          0,
          λ d le n p' there was' now' first' last'.
              let place : p' ≡ q = let y = there.1 in cc (y, at) in
              let same : now' ≡ now = let y = ap (λ z. (after.place z).contents) (sym place) ∙ last' in cc (y, last) in
              let long : length now'.consumed ≡ length now.consumed = ap (λ (z : Contents). length z.consumed) same in inl (omega (arith, few, read, long)),
        )
        by k name q was now s is at first last bytes read (inr some) = (
          some.1.added,
          λ d le n p' there was' now' first' last'.
              let place : p' ≡ q = let y = there.1 in cc (y, at) in
              let called : name ≡ n = let y = there.0 in cc (y, is) in
              let same : now' ≡ now = let y = ap (λ z. (after.place z).contents) (sym place) ∙ last' in cc (y, last) in
              let before_same : was ≡ was' = let y = ap (λ z. (before.place z).contents) (sym place) ∙ first' in cc (y, first) in
              let long : length now'.consumed ≡ length now.consumed = ap (λ (z : Contents). length z.consumed) same in
              let end : end_of_line (all_bytes now) some.0 ≡ end_of_line (all_bytes was') some.0 =
              ap (λ bs. end_of_line bs some.0) (bytes ∙ ap all_bytes before_same) in
              let far = some.2 in
              inr (
                some.0,
                subst (λ y. In (y, some.0) (consults_on_nodes (equations_of T) b words.depth d t 0)) called (some.1.holds d le),
                omega
                    (arith, far, read, long, end),
              ),
        )

    consumes : ForSomeAdded (ConsumesAt x b r t)
    consumes =
        let all = all_from Consumes (length names) one_consumes in
        (all.0, λ d le k n q is was now first last. all.1 d le k (slice_get_within names k n is.0) n q is was now first last)

  -- an element past what may be read
  past : (b : Elements) → HasElements r b → (k : ℕ) → facts.ConsultsOverlong (seen_by T new) b after k words.depth t 0 → ConsultsPast x b r t k
  past b has k y =
      let is : slice_get names k ≡ Some y.name = ap (λ ns. slice_get ns k) named ∙ y.named in
      let lt : k < length names = slice_get_within names k y.name is in
      let q : ℕ = get_or qs k 0 in
      let at : slice_get qs k ≡ Some q = slice_get-get_or qs k 0 (omega (arith, lt, count)) in
      let told = has k y.name q (is, at) in
      let later = tells_too (before.place q).contents (after.place q).contents told.0 ((reads on).bytes q) told.1 in
      let s = is_at on k q at in
      let stream : y.source ≡ s.0 = let a = y.read_from in let c = s.1 in cc (a, c) in
      let place : y.source.place ≡ q = ap (λ (z : Stream). z.place) stream ∙ s.2 in
      let over : IsOverlong (all_bytes later.0) y.index (most_bytes new) =
      of_told _ (after.place q).contents later.0 (subst (λ z. IfSome (after.place z).contents (λ c. IsOverlong (all_bytes c) y.index (most_bytes new))) place
      y.overlong) later.1 in
      record {
        name = y.name;
        named = is;
        index = y.index;
        consulted = (y.consulted.added, λ d le. y.consulted.holds d le);
        past = (
          y.name,
          q,
          told.0,
          (is, at),
          told.1,
          subst (IsOverlong (all_bytes told.0) y.index) (on.most ∙ on.bound) (subst (λ bs. IsOverlong bs y.index (most_bytes new)) later.2 over),
        );
      }

  module _ (keeps : KeepsWithin) (drawn : HasDrawn T old new after words.depth t) where
    -- a certificate is made, and its text is written
    pub made_ends : WhatFollowsIsMeant → IsInRange T → (w : Why) → ((b : Elements) → MayBe T new b → IsCertificate T b w t) → (out : Outcome)
        → WritesOnly (λ text. IsTextOf text w) o p out → Makes T x r t out
    made_ends meant range w certificate out h =
        record {
          ends = λ b has. ends b has out h;
          silent = not_stopped out h;
          consumed = λ b has. consumes drawn b has;
          within = stays_within on T names o p words keeps;
        }
      where
        is_why : (b : Elements) → HasElements r b → IsWhy T x b t w
        is_why b has =
            let y = certificate b (may b has) in
            record { proves = proves meant T range b w y.right; apart = y.apart; at_time = λ j last. y.at_time last.0 j last.1 last.2 }

        text : (b : Elements) → HasElements r b → (out : Outcome) → WritesOnly (λ text. IsTextOf text w) o p out → WritesOnly (IsWhyText T x b t) o p out
        text b has out h = as_text (λ text. IsTextOf text w) (IsWhyText T x b t) o p out (λ text is. (w, is_why b has, is)) h

        ends : (b : Elements) → HasElements r b → (out : Outcome) → WritesOnly (λ text. IsTextOf text w) o p out → MakesSo T x b r t out
        ends b has (Ok done.Written) h = text b has (Ok done.Written) h
        ends b has (Err stop.WriteFault) h = text b has (Err stop.WriteFault) h
        ends b has (Err stop.NoMemory) h = text b has (Err stop.NoMemory) h
        ends b has _ h = absurd h

        not_stopped : (out : Outcome) → WritesOnly (λ text. IsTextOf text w) o p out → IsNotMade out → p.bytes ≡ o.bytes
        not_stopped (Ok done.Written) h is = absurd is
        not_stopped (Err stop.WriteFault) h is = absurd is
        not_stopped (Err stop.NoMemory) h is = absurd is
        not_stopped _ h is = absurd h

    -- or none is made
    pub fault_ends : p.bytes ≡ o.bytes → (f : DemandFault) → AsDemanded T old new after t words.depth (Err f) → (s : Stop) → IsMakingStop names t f s
        → Makes T x r t (Err s)
    fault_ends silent f y s is = by f y s is
      where
        so : (s : Stop) → ((b : Elements) → HasElements r b → MakesSo T x b r t (Err s)) → Makes T x r t (Err s)
        so s ends = record { ends = ends; silent = λ _. silent; consumed = λ b has. consumes drawn b has; within = stays_within on T names o p words keeps }

        by : (f : DemandFault) → AsDemanded T old new after t words.depth (Err f) → (s : Stop) → IsMakingStop names t f s → Makes T x r t (Err s)
        by fault.TooDeep y s is = subst (λ (z : Stop). Makes T x r t (Err z)) (sym is) (so (stop.TooDeep t 0 0 false) (λ b has. y.deep refl b (may b has)))
        by fault.ReadFault y s is = subst (λ (z : Stop). Makes T x r t (Err z)) (sym is) (so stop.ReadFault (λ b has. tt))
        by (fault.TooLarge k) y (stop.TooLarge stream name) is =
            so (stop.TooLarge stream name) (λ b has. subst (ConsultsPast x b r t) (sym is.0) (past b has k (y.too_large b (may b has))))
        by (fault.TooLarge k) y stop.NoMemory is = so stop.NoMemory (λ b has. inl silent)
        by (fault.TooLarge k) y _ is = absurd is
        by fault.NoMemory y s is = subst (λ (z : Stop). Makes T x r t (Err z)) (sym is) (so stop.NoMemory (λ b has. inl silent))

-- there was no memory before
pub unmade : (T : Table) (x : OneStream) (r : RunView) (t : ℕ) (o : Outcome) (s : Stop) → o ≡ Err s → s ≡ stop.NoMemory → r.out_after.bytes ≡ r.out_before.bytes
    → ConsumesNothing r → Makes T x r t o
unmade T x r t o s is memory silent nothing =
    let here : Makes T x r t (Err stop.NoMemory) = record {
      ends = λ b has. inl silent;
      silent = λ _. silent;
      consumed = λ b has. (0, λ d le k n q is old new first last. inl (nothing k n q is old new first last));
      within = λ k n q is old new first last. inl (nothing k n q is old new first last);
    } in
    subst (Makes T x r t) (sym (is ∙ ap (λ (y : Stop). Err y) memory)) here

-- the stream that is told too large is one of the inputs
pub large_there : (T : Table) (t m : ℕ) (names : List (List ℕ)) (old new : Inputs) (after : World) (f : DemandFault) → names ≡ T.inputs
    → AsDemanded T old new after t m (Err f)
    → OnTooLarge f (λ number. number < length names)
large_there T t m names old new after (fault.TooLarge k) named x =
    let y = x.too_large (elements_read T.inputs (streams new)) (λ n j v h. h) in
    subst (λ ns. k < length ns) (sym named) (slice_get_within T.inputs k y.name y.named)
large_there T t m names old new after _ named x = tt

-- a certificate that is made has a judgment, and may be shown
pub made_one : (T : Table) (t : ℕ) (new : Inputs) (w : Why) → ((b : Elements) → MayBe T new b → IsCertificate T b w t)
    → IsCertificate T (elements_read T.inputs (streams new)) w t
made_one T t new w h = h (elements_read T.inputs (streams new)) (λ n j v is. is)

-- It is as good over places that tell the same of its inputs.
module _ (T : Table) (x : OneStream) (words : PlainWords) (names : List (List ℕ)) (qs : List ℕ) (u v u' v' : World) (o p : Told) (a : TellAlike qs u v u' v')
    (t : ℕ) where
  abbrev one : RunView
  one = viewed words names qs u v o p

  abbrev other : RunView
  other = viewed words names qs u' v' o p

  past_too : (k j : ℕ) → LiesPast one k j → LiesPast other k j
  past_too k j y = (y.0, y.1, y.2, y.3, a.before k y.1 y.3.1 ∙ y.4, y.5)

  has_back : (b : Elements) → HasElements other b → HasElements one b
  has_back b has k n q is = let y = has k n q is in (y.0, sym (a.before k q is.1) ∙ y.1, y.2)

  ends_too : (b : Elements) (out : Outcome) → MakesSo T x b one t out → MakesSo T x b other t out
  ends_too b (Ok done.Written) h = h
  ends_too b (Err (stop.TooDeep time lost cleared stats)) h = h
  ends_too b (Err (stop.TooLarge k name)) h = record {
    name = h.name;
    named = h.named;
    index = h.index;
    consulted = h.consulted;
    past = past_too k h.index h.past;
  }
  ends_too b (Err stop.ReadFault) h = h
  ends_too b (Err stop.WriteFault) h = h
  ends_too b (Err stop.NoMemory) h = h
  ends_too b _ h = absurd h

  pub makes_alike : (out : Outcome) → Makes T x one t out → Makes T x other t out
  makes_alike out h = record {
    ends = λ b has. ends_too b out (h.ends b (has_back b has));
    silent = h.silent;
    consumed = λ b has. let y = h.consumed b (has_back b has) in (
      y.0,
      λ d le k n q is old new first last. y.1 d le k n q is old new (sym (a.before k q is.1) ∙ first) (sym (a.after k q is.1) ∙ last),
    );
    within = λ k n q is old new first last. h.within k n q is old new (sym (a.before k q is.1) ∙ first) (sym (a.after k q is.1) ∙ last);
  }
