-- A check judgment by judgment, and how it ends.
use Rattle.lucid_cert.proofs.CheckCommon.{◌≡◌, ℕ, ◌+◌, ◌<◌, ◌≤◌, true, false, length, inl, inr, refl, sym, ap, ◌∙◌, subst, arith, Result, Ok, Err, cases_eq, Elements, AllDiffer, World, Inputs, most_bytes, stream_at, streams, Extends, Table, elements_read, places_of, extends_then, streams_read, read_more, Why, contexts, IsOfRoot, MayBe, Checked, LiesWithin, TellsElement, DrawsFor, ReadsFor, nothing_read, element_read, CheckFault, Wrong, NoMemory}
use Rattle.std.proofs.Common.{Bool}
use Rattle.lucid_ports.specs.Faults.{Rises, AsksNoneLate, CountsNoFaultUnless}
use Rattle.lucid_cert_rules.specs.Follows.{Follows, AllFollow}
use Rattle.lucid_cert.specs.Checked.{not_following, not_of_root, TellsPast, NoneTellsPast, HasLooked}
use Rattle.lucid_cert.specs.declared.fault.CheckFault.TheVariants.{ReadFault, TooLarge}
use Rattle.lucid_cert.proofs.Drawing.{tells_one, HaveRead, read_more_of, lay_past, lay_within, read_on}

module _ (T : Table) (w : Why) (old : Inputs) (before : World) where
  abbrev Read : ℕ → Inputs → World → Type 0
  Read n now mid = HaveRead T (contexts T w) w.judgments old before n now mid

  abbrev pub LooksAt : ℕ → (now next : Inputs) → (mid after : World) → Result Bool CheckFault → Type 0
  LooksAt n now next mid after result = ReadsFor T (contexts T w) w.judgments n now next mid after result

  has_looked : (n : ℕ) (now : Inputs) (mid : World) → n ≤ length w.judgments → Read n now mid → HasLooked T w old now before mid
  has_looked n now mid l r = record {
    drawn = read_more_of T (contexts T w) w.judgments old before n (length w.judgments) now mid l r;
    elements = r.elements;
    askable = r.askable;
    places = r.places;
    most = r.most;
    reads_only = r.reads_only;
  }

  -- there is no memory
  pub no_memory : (n : ℕ) (now : Inputs) (mid : World) → n ≤ length w.judgments → Read n now mid → mid.faults ≡ before.faults → AsksNoneLate before mid
      → Checked T w old now before mid (Err NoMemory)
  no_memory n now mid l r same late = record {
    right = tt;
    wrong = tt;
    too_large = tt;
    full = tt;
    within = (tt, tt);
    failed = λ q. absurd (cc);
    counts = inr same;
    late = late;
    looked = has_looked n now mid l r;
    drawn = tt;
  }

  -- All judgments below a number follow, and none of them tells an element past the bytes that may be read.
  pub record FollowSoFar (n : ℕ) (now : Inputs) (mid : World) : Type 0 where
    pub read : Read n now mid
    pub follow : (b : Elements) → MayBe T now b → AllFollow T b w n
    pub within : NoneTellsPast T w old before n
    pub faults : mid.faults ≡ before.faults
    pub late : AsksNoneLate before mid

  pub none_so_far : Read 0 old before → FollowSoFar 0 old before
  none_so_far r = record { read = r; follow = λ b m i l. absurd (omega (arith, l)); within = λ i k j l. absurd (omega (arith, l)); faults = refl; late = λ good. refl }

  below_or : (P : ℕ → Type 0) (n : ℕ) → ((i : ℕ) → i < n → P i) → P n → (i : ℕ) → i < n + 1 → P i
  below_or P n f p i l = elim (cases_eq i n) [ inl e ↦ subst P (sym e) p | inr e ↦ f i (omega (arith, l, e)) ]

  module _ (n : ℕ) (now next : Inputs) (mid after : World) (apart : AllDiffer (places_of (streams now))) (s : FollowSoFar n now mid) where
    -- what was read before is read still
    extends : (result : Result Bool CheckFault) → LooksAt n now next mid after result
        → Extends (elements_read T.inputs (streams now)) (elements_read T.inputs (streams next))
    extends result (nothing_read none e f own) = subst (λ (i : Inputs). Extends (elements_read T.inputs (streams now)) (elements_read T.inputs (streams i)))
        (sym e) (λ m j v h. h)
    extends result (element_read k j t r) = read_more (streams now) (streams next) k j mid after (streams_read now next k j mid after r.there r.reads) apart
        T.inputs

    followed : (result : Result Bool CheckFault) → LooksAt n now next mid after result → (b : Elements) → MayBe T next b → AllFollow T b w n
    followed result l b m = s.follow b (extends_then _ _ b (extends result l) m)

    on : (result : Result Bool CheckFault) → LooksAt n now next mid after result → Read (n + 1) next after
    on result l = read_on T (contexts T w) w.judgments old before n now next mid after apart s.read result l

    -- no judgment through this one tells an element past
    none_past : (it : Bool) → LooksAt n now next mid after (Ok it) → NoneTellsPast T w old before (n + 1)
    none_past it l i k j lt t =
        below_or (λ i. (k j : ℕ) → TellsElement T (contexts T w) w.judgments i k j → LiesWithin old before k j) n (λ i m k j. s.within i k j m) (here it l) i lt k
        j t
      where
        here : (it : Bool) → LooksAt n now next mid after (Ok it) → (k j : ℕ) → TellsElement T (contexts T w) w.judgments n k j → LiesWithin old before k j
        here it (nothing_read none e f own) k j t = absurd (none k j t)
        here it (element_read q x u r) k j t =
            let same = tells_one T (contexts T w) w.judgments n k j q x t u in
            let P : ℕ → Type 0 = λ a. LiesWithin old before a x in
            let Q : ℕ → Type 0 = λ a. LiesWithin old before k a in
            subst Q same.1 (subst P same.0 (lay_within T (contexts T w) w.judgments old before n now mid s.read q x r.within))

    no_fault : (it : Bool) → LooksAt n now next mid after (Ok it) → after.faults ≡ before.faults
    no_fault it (nothing_read none e f own) = ap (λ (x : World). x.faults) f ∙ s.faults
    no_fault it (element_read k j t r) = none r.counts ∙ s.faults
      where
        none : CountsNoFaultUnless (◌≡◌ {A = Result Bool CheckFault} (Ok it) (Err ReadFault)) mid.faults after.faults → after.faults ≡ mid.faults
        none (inl e) = absurd (cc)
        none (inr e) = e

    none_late : (result : Result Bool CheckFault) → LooksAt n now next mid after result → AsksNoneLate before after
    none_late result (nothing_read none e f own) good = ap (λ (x : World). x.late) f ∙ s.late good
    none_late result (element_read k j t r) good = r.late (s.faults ∙ good) ∙ s.late good

    -- This judgment follows as well;
    pub one_follows : LooksAt n now next mid after (Ok true) → ((b : Elements) → MayBe T next b → Follows T b w n) → FollowSoFar (n + 1) next after
    one_follows l f = record {
      read = on (Ok true) l;
      follow = λ b m. below_or (λ i. Follows T b w i) n (followed (Ok true) l b m) (f b m);
      within = none_past true l;
      faults = no_fault true l;
      late = none_late (Ok true) l;
    }

    looked : (result : Result Bool CheckFault) → LooksAt n now next mid after result → n < length w.judgments → HasLooked T w old next before after
    looked result l lt = has_looked (n + 1) next after (omega (arith, lt)) (on result l)

    -- or it doesn't, and is the first;
    pub one_is_wrong : n < length w.judgments → LooksAt n now next mid after (Ok false) → ((b : Elements) → MayBe T next b → Follows T b w n → ⊥)
        → Checked T w old next before after (Err (Wrong n))
    one_is_wrong lt l f = record {
      right = tt;
      wrong = λ b m. not_following lt (followed (Ok false) l b m) (f b m);
      too_large = tt;
      full = tt;
      within = (tt, none_past false l);
      failed = λ q. absurd (cc);
      counts = inr (no_fault false l);
      late = none_late (Ok false) l;
      looked = looked (Ok false) l lt;
      drawn = (on (Ok false) l).drawn;
    }

    -- or it is refused to look at it.
    module _ (lt : n < length w.judgments) where
      no_read : LooksAt n now next mid after (Err ReadFault) → Rises before.faults after.faults
      no_read (nothing_read none e f own) = absurd (cc)
      no_read (element_read k j t r) = subst (λ x. Rises x after.faults) s.faults (r.failed refl)

      past : (k : ℕ) → LooksAt n now next mid after (Err (TooLarge k)) → (b : Elements) → MayBe T next b → TellsPast T b w old before k
      past k (nothing_read none e f own) b m = absurd (cc)
      past k (element_read q x t r) b m =
          subst (λ i. TellsPast T b w old before i) (sym r.too_large.0) (record {
            number = n;
            index = x;
            follow = followed (Err (TooLarge k)) (element_read q x t r) b m;
            tells = t;
            past = lay_past T (contexts T w) w.judgments old before n now mid s.read q x r.too_large.1;
          })

      filled : (k : ℕ) → LooksAt n now next mid after (Err (TooLarge k)) → (stream_at next k).consumed ≡ most_bytes old
      filled k (nothing_read none e f own) = absurd (cc)
      filled k (element_read q x t r) =
          subst (λ i. (stream_at next i).consumed ≡ most_bytes old) (sym r.too_large.0) (r.too_large.2 ∙ s.read.most)

      not_counted : (e : CheckFault) → (e ≡ ReadFault → ⊥) → LooksAt n now next mid after (Err e) → after.faults ≡ before.faults
      not_counted e other (nothing_read none i f own) = ap (λ (x : World). x.faults) f ∙ s.faults
      not_counted e other (element_read k j t r) = same r.counts ∙ s.faults
        where
          fault : ◌≡◌ {A = Result Bool CheckFault} (Err e) (Err ReadFault) → e ≡ ReadFault
          fault q = cc

          same : CountsNoFaultUnless (◌≡◌ {A = Result Bool CheckFault} (Err e) (Err ReadFault)) mid.faults after.faults → after.faults ≡ mid.faults
          same (inl q) = absurd (other (fault q))
          same (inr q) = q

      never_wrong : (i : ℕ) → LooksAt n now next mid after (Err (Wrong i)) → ⊥
      never_wrong i (nothing_read none e f own) = absurd (cc)
      never_wrong i (element_read k j t r) = r.right

      pub one_refused : (e : CheckFault) → LooksAt n now next mid after (Err e) → Checked T w old next before after (Err e)
      one_refused (Wrong i) l = absurd (never_wrong i l)
      one_refused ReadFault l = record {
        right = tt;
        wrong = tt;
        too_large = tt;
        full = tt;
        within = (tt, tt);
        failed = λ q. no_read l;
        counts = inl refl;
        late = none_late (Err ReadFault) l;
        looked = looked (Err ReadFault) l lt;
        drawn = tt;
      }
      one_refused (TooLarge k) l = record {
        right = tt;
        wrong = tt;
        too_large = past k l;
        full = filled k l;
        within = (tt, tt);
        failed = λ q. absurd (cc);
        counts = inr (not_counted (TooLarge k) (λ q. absurd (cc)) l);
        late = none_late (Err (TooLarge k)) l;
        looked = looked (Err (TooLarge k)) l lt;
        drawn = tt;
      }
      one_refused NoMemory l = no_memory (n + 1) next after (omega (arith, lt)) (on (Err NoMemory) l) (not_counted NoMemory (λ q. absurd (cc)) l)
          (none_late (Err NoMemory) l)

  -- All judgments follow: the certificate is right where the last is the root's, and else the last is wrong.
  module _ (now : Inputs) (mid : World) (s : FollowSoFar (length w.judgments) now mid) (n : ℕ) (count : length w.judgments ≡ n + 1) where
    at_end : HasLooked T w old now before mid
    at_end = has_looked (length w.judgments) now mid (omega arith) s.read

    pub all_right : IsOfRoot T (contexts T w) w.judgments n → Checked T w old now before mid (Ok tt)
    all_right root = record {
      right = λ b m. record { all = s.follow b m; before = n; last_number = count; of_root = root };
      wrong = tt;
      too_large = tt;
      full = tt;
      within = (s.within, tt);
      failed = λ q. absurd (cc);
      counts = inr s.faults;
      late = s.late;
      looked = at_end;
      drawn = tt;
    }

    pub not_the_root : (IsOfRoot T (contexts T w) w.judgments n → ⊥) → Checked T w old now before mid (Err (Wrong n))
    not_the_root other = record {
      right = tt;
      wrong = λ b m. not_of_root count (s.follow b m) other;
      too_large = tt;
      full = tt;
      within = (tt, λ i k j l. s.within i k j (omega (arith, l, count)));
      failed = λ q. absurd (cc);
      counts = inr s.faults;
      late = s.late;
      looked = at_end;
      drawn = subst (λ k. DrawsFor T (contexts T w) w.judgments k old now mid) count s.read.drawn;
    }
