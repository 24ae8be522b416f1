-- What a walk reads of the inputs, and what its refusals say.
use Rattle.lucid_cert.proofs.Common.{◌≡◌, ℕ, ◌<◌, length, refl, sym, ap, ◌∙◌, inl, inr, subst, Result, Ok, Err, IfErr, AllDiffer, Value, World, ReadsStream, streams, Inputs, Table, AreAskable, places_of, extends_then, read_more, streams_read, DemandFault, NoMemory, ReadFault, TooDeep, Position, Why, Made, HasRead, IsOwn, ReadsElement, ReadsFor, element_read, nothing_read}
use Rattle.lucid_ports.specs.Faults.{AsksNoneLate, CountsNoFaultUnless, Rises}
use Rattle.lucid_equations.specs.MoreElements.{Extends}
use Rattle.lucid_demand_steps.specs.Elements.{elements_read}
use Rattle.lucid_demand_steps.specs.Engine.{ReadsOnly}
use Rattle.lucid_demand_steps.proofs.History.{reads_only_itself, reads_only_then}
use Rattle.lucid_demand_steps.proofs.Reading.{StreamsRead, asked_again, read_places}
use Rattle.lucid_cert.proofs.Drawing.{its_place}

-- nothing is read yet
pub nothing_yet : (T : Table) (old : Inputs) (before : World) → AreAskable (streams old) before → HasRead T old old before before
nothing_yet T old before ask = record {
  elements = λ n j v e. e;
  askable = ask;
  reads_only = reads_only_itself (places_of (streams old)) before;
  places = refl;
  most = refl;
  count = refl;
}

-- elements that were read stay
pub stay_read : (T : Table) (now next : Inputs) (mid after : World) → AllDiffer (places_of (streams now))
    → (at : Position) (limit : ℕ) (result : Result (Unit {0}) DemandFault)
    → ReadsFor T at limit now next mid after result → Extends (elements_read T.inputs (streams now)) (elements_read T.inputs (streams next))
stay_read T now next mid after apart at limit result (nothing_read e f own) =
    subst (λ (x : Inputs). Extends (elements_read T.inputs (streams now)) (elements_read T.inputs (streams x))) (sym e) (λ n j v h. h)
stay_read T now next mid after apart at limit result (element_read k row some r) =
    read_more (streams now) (streams next) k at.time mid after (streams_read now next k at.time mid after r.there r.reads) apart T.inputs

module _ (T : Table) (old now next : Inputs) (before mid after : World) (h : HasRead T old now before mid) where
  -- a stream is read on
  reads_one : AllDiffer (places_of (streams now)) → (q x : ℕ) → q < length (streams now) → ReadsStream now q x next mid after → HasRead T old next before after
  reads_one apart q x there r =
      let read : StreamsRead (streams now) (streams next) q x mid after = streams_read now next q x mid after there r in
      record {
        elements = extends_then _ _ _ h.elements (read_more (streams now) (streams next) q x mid after read apart T.inputs);
        askable = asked_again (streams now) (streams next) q x mid after read apart h.askable;
        reads_only = reads_only_then (places_of (streams old)) before mid after h.reads_only
            (subst (λ ps. ReadsOnly ps mid after) h.places (its_place now next q x mid after there r));
        places = read_places (streams now) (streams next) q x mid after read apart ∙ h.places;
        most = r.most ∙ h.most;
        count = r.count ∙ h.count;
      }

  -- or none
  reads_none : next ≡ now → after ≡ mid → HasRead T old next before after
  reads_none e f = subst (λ x. HasRead T old next before x) (sym f) (subst (λ x. HasRead T old x before mid) (sym e) h)

  pub reads_on : AllDiffer (places_of (streams now)) → (at : Position) (limit : ℕ) (result : Result (Unit {0}) DemandFault)
      → ReadsFor T at limit now next mid after result → HasRead T old next before after
  reads_on apart at limit result (nothing_read e f own) = reads_none e f
  reads_on apart at limit result (element_read k row some r) = reads_one apart k at.time r.there r.reads

  -- nothing is asked after a fault
  pub none_late : (at : Position) (limit : ℕ) (result : Result (Unit {0}) DemandFault) → ReadsFor T at limit now next mid after result
      → mid.faults ≡ before.faults → AsksNoneLate before mid → AsksNoneLate before after
  none_late at limit result (nothing_read e f own) faults late good = ap (λ (w : World). w.late) f ∙ late good
  none_late at limit result (element_read k row some r) faults late good = r.late (faults ∙ good) ∙ late good

  -- what is refused for want of memory
  pub want_of_memory : (time : ℕ) → next ≡ now → after ≡ mid → mid.faults ≡ before.faults → AsksNoneLate before mid
      → Made T old next before after time (Err NoMemory)
  want_of_memory time e f faults late =
      let r = reads_none e f in
      record {
        made = tt;
        failed = λ q. absurd (cc);
        counts = inr (ap (λ (w : World). w.faults) f ∙ faults);
        late = λ good. ap (λ (w : World). w.late) f ∙ late good;
        elements = r.elements;
        askable = r.askable;
        places = r.places;
        most = r.most;
        reads_only = r.reads_only;
      }

  -- no fault is counted where nothing is refused,
  pub no_fault : (at : Position) (limit : ℕ) (x : Unit {0}) → ReadsFor T at limit now next mid after (Ok x) → mid.faults ≡ before.faults
      → after.faults ≡ before.faults
  no_fault at limit x (nothing_read e f own) faults = ap (λ (w : World). w.faults) f ∙ faults
  no_fault at limit x (element_read k row some r) faults = none r.counts ∙ faults
    where
      none : CountsNoFaultUnless (◌≡◌ {A = Result (Unit {0}) DemandFault} (Ok x) (Err ReadFault)) mid.faults after.faults → after.faults ≡ mid.faults
      none (inl e) = absurd (cc)
      none (inr e) = e

  -- and else by the read fault alone.
  module _ (at : Position) (limit : ℕ) (fault : DemandFault) (faults : mid.faults ≡ before.faults) (late : AsksNoneLate before mid) where
    its_failure : ReadsFor T at limit now next mid after (Err fault) → fault ≡ ReadFault → Rises before.faults after.faults
    its_failure (nothing_read e f own) q = absurd (subst IsOwn q own)
    its_failure (element_read k row some r) q = subst (λ x. Rises x after.faults) faults (r.failed (ap Err q))

    its_count : (a : ℕ) → CountsNoFaultUnless (◌≡◌ {A = Result (Unit {0}) DemandFault} (Err fault) (Err ReadFault)) mid.faults a
        → CountsNoFaultUnless (◌≡◌ {A = Result Why DemandFault} (Err fault) (Err ReadFault)) before.faults a
    its_count a (inl e) = let q : fault ≡ ReadFault = cc in inl (ap Err q)
    its_count a (inr e) = inr (e ∙ faults)

    counted : ReadsFor T at limit now next mid after (Err fault)
        → CountsNoFaultUnless (◌≡◌ {A = Result Why DemandFault} (Err fault) (Err ReadFault)) before.faults after.faults
    counted (nothing_read e f own) = inr (ap (λ (w : World). w.faults) f ∙ faults)
    counted (element_read k row some r) = its_count after.faults r.counts

    pub refused : AllDiffer (places_of (streams now)) → (time : ℕ) → ReadsFor T at limit now next mid after (Err fault)
        → Made T old next before after time (Err fault)
    refused apart time r =
        let h = reads_on apart at limit (Err fault) r in
        record {
          made = tt;
          failed = λ q. its_failure r (let e : fault ≡ ReadFault = cc in e);
          counts = counted r;
          late = none_late at limit (Err fault) r faults late;
          elements = h.elements;
          askable = h.askable;
          places = h.places;
          most = h.most;
          reads_only = h.reads_only;
        }

-- What is read for a judgment is read whether that is made or there is no memory for it.
pub read_for : (old new : Inputs) (stream index : ℕ) (before after : World) (v : Value) → ReadsElement Value old new stream index before after (Ok v)
    → (result : Result (Unit {0}) DemandFault)
    → IfErr result (λ e. e ≡ NoMemory) → ReadsElement (Unit {0}) old new stream index before after result
read_for old new stream index before after v r (Ok x) own = record {
  there = r.there;
  reads = r.reads;
  too_large = tt;
  failed = λ q. absurd (cc);
  counts = inr (none r.counts);
  late = r.late;
  deep = λ q. cc;
}
  where
    none : CountsNoFaultUnless (◌≡◌ {A = Result Value DemandFault} (Ok v) (Err ReadFault)) before.faults after.faults → after.faults ≡ before.faults
    none (inl e) = absurd (cc)
    none (inr e) = e
read_for old new stream index before after v r (Err e) own =
    subst (λ (f : DemandFault). ReadsElement (Unit {0}) old new stream index before after (Err f)) (sym own) (record {
      there = r.there;
      reads = r.reads;
      too_large = tt;
      failed = λ q. absurd (cc);
      counts = inr (none r.counts);
      late = r.late;
      deep = λ q. cc;
    })
  where
    none : CountsNoFaultUnless (◌≡◌ {A = Result Value DemandFault} (Ok v) (Err ReadFault)) before.faults after.faults → after.faults ≡ before.faults
    none (inl e) = absurd (cc)
    none (inr e) = e

pub not_read_for : (old new : Inputs) (stream index : ℕ) (before after : World) (f : DemandFault) → ReadsElement Value old new stream index before after (Err f)
    → ReadsElement (Unit {0}) old new stream index before after (Err f)
not_read_for old new stream index before after f r = record {
  there = r.there;
  reads = r.reads;
  too_large = r.too_large;
  failed = λ q. let e : f ≡ ReadFault = cc in r.failed (ap Err e);
  counts = counts r.counts;
  late = r.late;
  deep = λ q. let e : f ≡ TooDeep = cc in r.deep (ap Err e);
}
  where
    counts : CountsNoFaultUnless (◌≡◌ {A = Result Value DemandFault} (Err f) (Err ReadFault)) before.faults after.faults
        → CountsNoFaultUnless (◌≡◌ {A = Result (Unit {0}) DemandFault} (Err f) (Err ReadFault)) before.faults after.faults
    counts (inl q) = let e : f ≡ ReadFault = cc in inl (ap Err e)
    counts (inr e) = inr e
