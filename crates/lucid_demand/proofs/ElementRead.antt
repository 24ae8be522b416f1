-- What a call for an element does to what an evaluation owns, by what the inputs say of it.
use Rattle.lucid_demand.proofs.Common.{ℕ, zero, suc, List, [], ◌∷◌, arith, inl, inr, refl, sym, ap, ◌∙◌, subst, IfErr, slice_get, Bor, Value, plain, IsOverlong, World, Rises, GivesElement, Stream, all_bytes, EngineView, AreAskable, StreamsRead, fault_of, CountsReadFaults, OnTooLarge, Evaluating, ReadsElement, DemandFault, TooDeep, ReadFault, NoMemory, IsErrOf, unwrap_or}
use Rattle.std.proofs.Common.{◌≡◌, ◌<◌, length, Some}
use Rattle.std.specs.Prelude.{IfSome, Result, Ok, Err, IfOk}
use Rattle.lucid_ports.specs.Faults.{CountsNoFaultUnless}
use Rattle.lucid_inputs.specs.declared.fault.InputFault.{InputFault}
use Rattle.lucid_inputs.specs.declared.fault.InputFault.TheVariants as input
use Rattle.lucid_inputs.specs.declared.on_demand.Inputs.{Inputs}
use Rattle.lucid_inputs.specs.Inputs.{streams, stream_at, most_bytes, Answers}
use Rattle.lucid_inputs.specs.Faults as inputs
use Rattle.lucid_inputs.specs.Streams.{FitsPlace, fresh_stream}
use Rattle.lucid_demand_steps.proofs.Reading.{streams_read}

there_at : (ss : List Stream) (k : ℕ) (other : Stream) → k < length ss → slice_get ss k ≡ Some (unwrap_or (slice_get ss k) other)
there_at [] k other l = absurd (omega (arith, l))
there_at (s ∷ ss) zero other l = refl
there_at (s ∷ ss) (suc k) other l = there_at ss k other (omega (arith, l))

-- the stream may be read on
pub may_be_read : (ins : Inputs) (ss : List Stream) (k : ℕ) (w : World) → streams ins ≡ ss → k < length ss → AreAskable ss w
    → ((stream_at ins k).place < w.reached) × FitsPlace (stream_at ins k) (w.place (stream_at ins k).place)
may_be_read ins ss k w same below ask =
    subst (λ z. AreAskable z w) (sym same) ask k (stream_at ins k) (there_at (streams ins) k (fresh_stream 0) (subst (λ z. k < length z) (sym same) below))

-- how an answer of the inputs becomes one of a demand
pub data Comes (answer : Result (Bor Value) InputFault) (result : Result Value DemandFault) : Type 0 where
  read_value : (b : Bor Value) (v : Value) → answer ≡ Ok b → result ≡ Ok v → plain v ≡ plain b.now → Comes answer result
  no_copy : (b : Bor Value) → answer ≡ Ok b → result ≡ Err NoMemory → Comes answer result
  refused_by : (f : InputFault) → answer ≡ Err f → result ≡ Err (fault_of f) → Comes answer result

module _ (first : EngineView) (ins outs : Inputs) (number index : ℕ) (before after : World) (answer : Result (Bor Value) InputFault)
    (streams_are : streams ins ≡ first.streams)
    (most_is : most_bytes ins ≡ first.most) (below : number < length first.streams) (a : Answers ins number index answer outs before after)
    (large : IfErr answer (λ e. inputs.OnTooLarge e
    (λ s. (s ≡ number) × IfSome (before.place (stream_at ins number).place).contents (λ c. IsOverlong (all_bytes c) index (most_bytes ins)))))
    (failed : IsErrOf answer input.ReadFault → Rises before.faults after.faults)
    (unless : CountsNoFaultUnless (IsErrOf answer input.ReadFault) before.faults after.faults) where
  abbrev later : EngineView
  later = record first { streams = streams outs; most = most_bytes outs }

  only : later ≡ record first { streams = streams outs }
  only = ap (λ m. record first { streams = streams outs; most = m }) (a.reads.most ∙ most_is)

  read : StreamsRead (streams ins) (streams outs) number index before after
  read = streams_read ins outs number index before after (subst (λ z. number < length z) (sym streams_are) below) a.reads

  -- the element
  gives : (result : Result Value DemandFault) → Comes answer result → IfOk result (λ v. GivesElement (stream_at outs number) index (plain v))
  gives result (read_value b v is ok same) =
      subst (λ z. IfOk z (λ x. GivesElement (stream_at outs number) index (plain x))) (sym ok)
      (subst (λ z. GivesElement (stream_at outs number) index z) (sym same)
      (subst (λ z. IfOk z (λ x. GivesElement (stream_at outs number) index (plain x.now))) is a.element))
  gives result (no_copy b ok is) = subst (λ z. IfOk z (λ x. GivesElement (stream_at outs number) index (plain x))) (sym is) tt
  gives result (refused_by f is err) = subst (λ z. IfOk z (λ x. GivesElement (stream_at outs number) index (plain x))) (sym err) tt

  -- what is said of the stream that is too large
  abbrev IsPast : ℕ → Type 0
  IsPast k = (k ≡ number) × ((stream_at outs number).consumed ≡ first.most)
      × IfSome (before.place (stream_at ins number).place).contents (λ c. IsOverlong (all_bytes c) index first.most)

  past : (f : InputFault) → answer ≡ Err f → OnTooLarge (fault_of f) IsPast
  past input.ReadFault is = tt
  past input.NoMemory is = tt
  past (input.TooLarge s) is =
      let l =
      subst
      (λ z.
      IfErr z (λ e. inputs.OnTooLarge e (λ s. (s ≡ number)
      × IfSome (before.place (stream_at ins number).place).contents (λ c. IsOverlong (all_bytes c) index (most_bytes ins))))) is large in
      let n = subst (λ z. IfErr z (λ e. inputs.OnTooLarge e (λ _. (stream_at outs number).consumed ≡ most_bytes ins))) is a.too_large in
      (l.0, n ∙ most_is, subst (λ m. IfSome (before.place (stream_at ins number).place).contents (λ c. IsOverlong (all_bytes c) index m)) most_is l.1)

  too_large : (result : Result Value DemandFault) → Comes answer result → IfErr result (λ e. OnTooLarge e IsPast)
  too_large result (read_value b v is ok same) = subst (λ z. IfErr z (λ e. OnTooLarge e IsPast)) (sym ok) tt
  too_large result (no_copy b ok is) = subst (λ z. IfErr z (λ e. OnTooLarge e IsPast)) (sym is) tt
  too_large result (refused_by f is err) = subst (λ z. IfErr z (λ e. OnTooLarge e IsPast)) (sym err) (past f is)

  read_failed : (f : InputFault) → answer ≡ Err f → fault_of f ≡ ReadFault → Rises before.faults after.faults
  read_failed input.ReadFault is e = failed is
  read_failed input.NoMemory is e = absurd (cc)
  read_failed (input.TooLarge s) is e = absurd (cc)

  never_deep : (f : InputFault) → fault_of f ≡ TooDeep → ⊥
  never_deep input.ReadFault e = absurd (cc)
  never_deep input.NoMemory e = absurd (cc)
  never_deep (input.TooLarge s) e = absurd (cc)

  same_refusal : (g h : InputFault) → ◌≡◌ {A = Result (Bor Value) InputFault} (Err g) (Err h) → g ≡ h
  same_refusal g h q = cc

  same_fault : (g h : DemandFault) → ◌≡◌ {A = Result Value DemandFault} (Err g) (Err h) → g ≡ h
  same_fault g h q = cc

  failed_so : (result : Result Value DemandFault) → Comes answer result → result ≡ Err ReadFault → Rises before.faults after.faults
  failed_so result (read_value b v is ok same) e = let f = sym ok ∙ e in absurd (cc)
  failed_so result (no_copy b ok is) e = let f = sym is ∙ e in absurd (cc)
  failed_so result (refused_by f is err) e = read_failed f is (same_fault (fault_of f) ReadFault (sym err ∙ e))

  counts_so : (result : Result Value DemandFault) → Comes answer result → CountsReadFaults result before after
  counts_so result comes = counted unless comes
    where
      counted : CountsNoFaultUnless (IsErrOf answer input.ReadFault) before.faults after.faults → Comes answer result → CountsReadFaults result before after
      counted (inr same) c = inr same
      counted (inl refused) (read_value b v is ok same) = let f = sym is ∙ refused in absurd (cc)
      counted (inl refused) (no_copy b ok is) = let f = sym ok ∙ refused in absurd (cc)
      counted (inl refused) (refused_by f is err) = inl (err ∙ ap (λ z. Err (fault_of z)) (same_refusal f input.ReadFault (sym is ∙ refused)))

  deep_so : (result : Result Value DemandFault) → Comes answer result → result ≡ Err TooDeep → ⊥
  deep_so result (read_value b v is ok same) e = let f = sym ok ∙ e in absurd (cc)
  deep_so result (no_copy b ok is) e = let f = sym is ∙ e in absurd (cc)
  deep_so result (refused_by f is err) e = never_deep f (same_fault (fault_of f) TooDeep (sym err ∙ e))

  pub element_read : (result : Result Value DemandFault) → Comes answer result → ReadsElement first later number index before after result
  element_read result comes = record {
    only = only;
    from = stream_at ins number;
    to = stream_at outs number;
    there = subst (λ z. slice_get z number ≡ Some (stream_at ins number)) streams_are
        (there_at (streams ins) number (fresh_stream 0) (subst (λ z. number < length z) (sym streams_are) below));
    now = there_at (streams outs) number (fresh_stream 0)
        (subst (λ n. number < n) (sym a.reads.count) (subst (λ z. number < length z) (sym streams_are) below));
    reads = a.reads.asked;
    others = λ k n. read.others k n ∙ ap (λ z. slice_get z k) streams_are;
    count = read.count ∙ ap length streams_are;
    bytes = a.reads.bytes;
    element = gives result comes;
    too_large = too_large result comes;
    failed = failed_so result comes;
    counts = counts_so result comes;
    not_deep = deep_so result comes;
  }

-- The same of an evaluation whose inputs were asked.
pub element_read_in : (old view : Evaluating) (ins outs : Inputs) (number index : ℕ) (before after : World) (answer : Result (Bor Value) InputFault)
    → view ≡ old → streams ins ≡ view.engine.streams
    → most_bytes ins ≡ view.engine.most → number < length old.engine.streams → Answers ins number index answer outs before after
    → IfErr answer (λ e. inputs.OnTooLarge e (λ s. (s ≡ number)
    × IfSome (before.place (stream_at ins number).place).contents (λ c. IsOverlong (all_bytes c) index (most_bytes ins))))
    → (IsErrOf answer input.ReadFault → Rises before.faults after.faults) → CountsNoFaultUnless (IsErrOf answer input.ReadFault) before.faults after.faults
    → (result : Result Value DemandFault) → Comes answer result
    → ReadsElement old.engine (record view.engine { streams = streams outs; most = most_bytes outs }) number index before after result
element_read_in old view ins outs number index before after answer same streams_are most_is below a large failed unless result comes =
    subst (λ (z : Evaluating). ReadsElement z.engine (record view.engine { streams = streams outs; most = most_bytes outs }) number index before after result)
    same
    (element_read view.engine ins outs number index before after answer streams_are most_is
    (subst (λ (z : Evaluating). number < length z.engine.streams) (sym same) below) a large failed unless result comes)
