-- What a demand draws from the inputs of a run, and what it lets the engine know.
use Rattle.lucid_session.proofs.Common.{◌≡◌, ℕ, ◌<◌, ◌≤◌, List, length, Option, None, refl, sym, ap, ◌∙◌, subst, arith, ◌⊎◌, inl, inr, slice_get, IfSome, same_Some, none-some, end_of_line, In, Elements, World, Contents, Stream, all_bytes, consults_on_nodes, equations_of, EngineView, AreAskable, ReadsOnly, places_of, ReadsWithin, Added, Start, seen, of_run, IsConsultedSoFar, Draws, with_point}
use Rattle.std.proofs.Common.{Some}
use Rattle.lucid_inputs.specs.Streams.{Fits}
use Rattle.lucid_demand_steps.specs.Engine.{DrawsWithin}
use Rattle.lucid_demand_steps.specs.Engine as facts
use Rattle.lucid_session.proofs.Added.{at_once, so, both, of_numbers}
use Rattle.lucid_session.proofs.Told.{stream_at, tells_too}

-- what stands, or nothing
found : {A : Type 0} (o : Option A) → ((x : A) × (o ≡ Some x)) ⊎ (o ≡ None)
found None = inr refl
found (Some x) = inl (x, refl)

-- what fits a place that tells contents counts what they have consumed
counts : (s : Stream) (o : Option Contents) (c : Contents) → IfSome o (λ c. Fits s c) → o ≡ Some c → s.consumed ≡ length c.consumed
counts s None c fits e = absurd (none-some _ e)
counts s (Some d) c fits e = fits.consumed ∙ ap (λ x. length x.consumed) (same_Some _ _ e)

-- Where each stream fits its place, of no input more is consumed than its stream may read.
pub reads_within : (z : Start) (e : EngineView) (w : World) → AreAskable e.streams w → places_of e.streams ≡ z.places → facts.ReadsWithin (of_run z e)
    → ReadsWithin (seen z w z.out_before)
reads_within z e w ask places few k n q is old new first last =
    let s = stream_at e.streams k q (ap (λ ps. slice_get ps k) places ∙ is.1) in
    let counted : s.0.consumed ≡ length new.consumed =
    counts s.0 (w.place s.0.place).contents new (ask k s.0 s.1).1 (ap (λ x. (w.place x).contents) s.2 ∙ last) in
    let most : s.0.consumed ≤ z.most = few k s.0 s.1 in
    inr (omega (arith, counted, most))

drawn_of : (o : Option Contents) (c : Contents) (P : Contents → Type 0) → IfSome o P → o ≡ Some c → P c
drawn_of None c P h e = absurd (none-some _ e)
drawn_of (Some d) c P h e = subst P (same_Some _ _ e) h

module _ (z : Start) (b : Elements) (D : (time space : ℕ) → Type 0) where
  -- what is consulted at the points so far is consulted at these and one more
  later_pair : (t s d : ℕ) (pair : List ℕ × ℕ) → IsConsultedSoFar z b D d pair → IsConsultedSoFar z b (with_point D t s) d pair
  later_pair t s d pair c = (c.0, c.1, inl c.2, c.3)

  -- As many bytes of an input are consumed as were before the demand, or through the end of an element that it consults.
  abbrev DrawnFrom : (before after : World) → (time space number added : ℕ) → Type 0
  DrawnFrom v w t s k d =
      (n : List ℕ) (q : ℕ) → (slice_get z.table.inputs k ≡ Some n) × (slice_get z.places k ≡ Some q)
      → (old new : Contents) → (v.place q).contents ≡ Some old → (w.place q).contents ≡ Some new
      → (length new.consumed ≤ length old.consumed) ⊎ ((j : ℕ) × In (n, j) (consults_on_nodes (equations_of z.table) b z.depth d t s)
      × (length new.consumed ≤ end_of_line (all_bytes new) j))

  module _ (v w : World) (before : ReadsOnly z.places z.before v) (after : ReadsOnly z.places z.before w) where
    -- what was drawn so far and by one demand more, in one
    drawn_then : (t s k d : ℕ) → Draws z b D v k d → DrawnFrom v w t s k d → Draws z b (with_point D t s) w k d
    drawn_then t s k d draws from n q is old new first last =
        let mid = tells_too (z.before.place q).contents (v.place q).contents old (before.bytes q) first in
        let end = tells_too (z.before.place q).contents (w.place q).contents old (after.bytes q) first in
        by mid.0 (all new end.0 old (sym last ∙ end.1) end.2) (draws n q is old mid.0 first mid.1) (from n q is mid.0 new mid.1 last)
      where
        all : (c d e : Contents) → ◌≡◌ {A = Option Contents} (Some c) (Some d) → all_bytes d ≡ all_bytes e → all_bytes c ≡ all_bytes e
        all c d e same bytes = ap all_bytes (same_Some _ _ same) ∙ bytes

        by : (mid : Contents) → all_bytes new ≡ all_bytes old
            → (length mid.consumed ≤ length old.consumed) ⊎ ((j : ℕ) × IsConsultedSoFar z b D d (n, j) × (length mid.consumed ≤ end_of_line (all_bytes old) j))
            → (length new.consumed ≤ length mid.consumed)
            ⊎ ((j : ℕ) × In (n, j) (consults_on_nodes (equations_of z.table) b z.depth d t s) × (length new.consumed ≤ end_of_line (all_bytes new) j))
            → (length new.consumed ≤ length old.consumed)
            ⊎ ((j : ℕ) × IsConsultedSoFar z b (with_point D t s) d (n, j) × (length new.consumed ≤ end_of_line (all_bytes old) j))
        by mid same g (inr r) = inr (r.0, (t, s, inr (refl, refl), r.1), subst (λ bytes. length new.consumed ≤ end_of_line bytes r.0) same r.2)
        by mid same (inl g) (inl h) = inl (omega (arith, g, h))
        by mid same (inr r) (inl h) = inr (r.0, later_pair t s d (n, r.0) r.1, omega (arith, r.2, h))

    module _ (old new : EngineView) (t i : ℕ) (askable : AreAskable old.streams v) (now : AreAskable new.streams w) (places : places_of old.streams ≡ z.places)
        (places_now : places_of new.streams ≡ z.places) (draws : DrawsWithin (of_run z old) (of_run z new) b w z.depth t i) where
      -- one input's, by its streams
      of_stream : (k : ℕ) (n : List ℕ) (s r : Stream) → slice_get z.table.inputs k ≡ Some n → slice_get old.streams k ≡ Some s
          → slice_get new.streams k ≡ Some r → s.place ≡ r.place
          → (x y : Contents) → (v.place s.place).contents ≡ Some x → (w.place s.place).contents ≡ Some y
          → Added z.policy.empties (λ d. (length y.consumed ≤ length x.consumed)
          ⊎ ((j : ℕ) × In (n, j) (consults_on_nodes (equations_of z.table) b z.depth d t i) × (length y.consumed ≤ end_of_line (all_bytes y) j)))
      of_stream k n s r named was is same x y first last =
          let last_here : (w.place r.place).contents ≡ Some y = ap (λ q. (w.place q).contents) (sym same) ∙ last in
          let had : s.consumed ≡ length x.consumed = counts s (v.place s.place).contents x (askable k s was).1 first in
          let has_now : r.consumed ≡ length y.consumed = counts r (w.place r.place).contents y (now k r is).1 last_here in
          by had has_now (drawn_of (w.place r.place).contents y
          (λ c. (r.consumed ≤ s.consumed) ⊎ ((j : ℕ) × facts.ForSomeAdded (of_run z old)
          (λ d. In (n, j) (consults_on_nodes (equations_of z.table) b z.depth d t i)) × (r.consumed ≤ end_of_line (all_bytes c) j)))
          (draws k n s r named was is) last_here)
        where
          by : s.consumed ≡ length x.consumed → r.consumed ≡ length y.consumed
              → (r.consumed ≤ s.consumed) ⊎ ((j : ℕ) × facts.ForSomeAdded (of_run z old)
              (λ d. In (n, j) (consults_on_nodes (equations_of z.table) b z.depth d t i)) × (r.consumed ≤ end_of_line (all_bytes y) j))
              → Added z.policy.empties (λ d. (length y.consumed ≤ length x.consumed)
              ⊎ ((j : ℕ) × In (n, j) (consults_on_nodes (equations_of z.table) b z.depth d t i) × (length y.consumed ≤ end_of_line (all_bytes y) j)))
          by had has_now (inl le) = at_once z.policy.empties _ (λ d. inl (omega (arith, le, had, has_now)))
          by had has_now (inr q) = record { added = q.1.added; none = q.1.none; holds = λ d le. inr (q.0, q.1.holds d le, omega (arith, q.2, has_now)) }

      -- and by its number
      of_number : (k : ℕ) → Added z.policy.empties (DrawnFrom v w t i k)
      of_number k = named (found (slice_get z.table.inputs k)) (found (slice_get z.places k))
        where
          nothing : {P : ℕ → Type 0} → ((d : ℕ) → P d) → Added z.policy.empties P
          nothing {P = P} h = at_once z.policy.empties P h

          told : (n : List ℕ) (q : ℕ) → slice_get z.table.inputs k ≡ Some n → slice_get z.places k ≡ Some q
              → ((x : Contents) × ((v.place q).contents ≡ Some x)) ⊎ ((v.place q).contents ≡ None)
              → ((y : Contents) × ((w.place q).contents ≡ Some y)) ⊎ ((w.place q).contents ≡ None)
              → Added z.policy.empties (DrawnFrom v w t i k)
          told n q e f (inr lacks) g = nothing (λ d m p is x y first last.
              absurd (none-some _ (sym (ap (λ i. (v.place i).contents) (same_Some _ _ (sym is.1 ∙ f)) ∙ lacks) ∙ first)))
          told n q e f (inl x) (inr lacks) = nothing (λ d m p is c y first last.
              absurd (none-some _ (sym (ap (λ i. (w.place i).contents) (same_Some _ _ (sym is.1 ∙ f)) ∙ lacks) ∙ last)))
          told n q e f (inl x) (inl y) =
              let s = stream_at old.streams k q (ap (λ ps. slice_get ps k) places ∙ f) in
              let r = stream_at new.streams k q (ap (λ ps. slice_get ps k) places_now ∙ f) in
              so z.policy.empties _ (DrawnFrom v w t i k)
              (λ d h m p is c g first last.
              let same_name : n ≡ m = same_Some _ _ (sym e ∙ is.0) in
              let same_place : q ≡ p = same_Some _ _ (sym f ∙ is.1) in
              let same_old : x.0 ≡ c = same_Some _ _ (sym x.1 ∙ ap (λ i. (v.place i).contents) same_place ∙ first) in
              let same_new : y.0 ≡ g = same_Some _ _ (sym y.1 ∙ ap (λ i. (w.place i).contents) same_place ∙ last) in
              subst (λ c. (length g.consumed ≤ length c.consumed)
              ⊎ ((j : ℕ) × In (m, j) (consults_on_nodes (equations_of z.table) b z.depth d t i) × (length g.consumed ≤ end_of_line (all_bytes g) j)))
              same_old
              (subst (λ g. (length g.consumed ≤ length x.0.consumed)
              ⊎ ((j : ℕ) × In (m, j) (consults_on_nodes (equations_of z.table) b z.depth d t i) × (length g.consumed ≤ end_of_line (all_bytes g) j)))
              same_new
              (subst (λ m. (length y.0.consumed ≤ length x.0.consumed)
              ⊎ ((j : ℕ) × In (m, j) (consults_on_nodes (equations_of z.table) b z.depth d t i) × (length y.0.consumed ≤ end_of_line (all_bytes y.0) j)))
              same_name h)))
              (of_stream k n s.0 r.0 e s.1 r.1 (s.2 ∙ sym r.2) x.0 y.0 (ap (λ i. (v.place i).contents) s.2 ∙ x.1) (ap (λ i. (w.place i).contents) s.2 ∙ y.1))

          named : ((n : List ℕ) × (slice_get z.table.inputs k ≡ Some n)) ⊎ (slice_get z.table.inputs k ≡ None)
              → ((q : ℕ) × (slice_get z.places k ≡ Some q)) ⊎ (slice_get z.places k ≡ None)
              → Added z.policy.empties (DrawnFrom v w t i k)
          named (inr lacks) g = nothing (λ d n q is. absurd (none-some _ (sym lacks ∙ is.0)))
          named (inl n) (inr lacks) = nothing (λ d m q is. absurd (none-some _ (sym lacks ∙ is.1)))
          named (inl n) (inl q) = told n.0 q.0 n.1 q.1 (found (v.place q.0).contents) (found (w.place q.0).contents)

      -- So one added number does for all inputs, and for all points so far.
      pub drawn_more : Added z.policy.empties (λ d. (k : ℕ) → k < length z.table.inputs → Draws z b D v k d)
          → Added z.policy.empties (λ d. (k : ℕ) → k < length z.table.inputs → Draws z b (with_point D t i) w k d)
      drawn_more so_far =
          so z.policy.empties _ _ (λ d p k lt. drawn_then t i k d (p.0 k lt) (p.1 k lt))
          (both z.policy.empties (λ d. (k : ℕ) → k < length z.table.inputs → Draws z b D v k d)
          (λ d. (k : ℕ) → k < length z.table.inputs → DrawnFrom v w t i k d) so_far
          (of_numbers z.policy.empties (DrawnFrom v w t i) (length z.table.inputs) (λ k lt. of_number k)))
