-- The walk: from the root's judgment on, until it is made.
use Rattle.lucid_cert.proofs.Common.{◌≡◌, ℕ, ◌-◌, [], ◌∷◌, ◌++◌, length, refl, sym, ap, ◌∙◌, inr, subst, arith, Result, Ok, Err, IsErrAnd, Elements, World, streams, PlacesDiffer, Inputs, Table, AreAskable, extends_then, inputs_apart, DemandFault, NoMemory, Why, Position, MayBe, IsCertificate, Made, AreFollowing, Goes, IsMade, IsSoundMaker, Leaves, RootStands, Settles, judgments_of, table_in, HasRead, ReadsFor, ReadsNext, Maker, Making}
use Rattle.lucid_ports.specs.Faults.{AsksNoneLate}
use Rattle.lucid_cert.proofs.Going.{follow_of, root_first, root_stays}
use Rattle.lucid_cert.proofs.Reading.{no_fault, none_late, nothing_yet, reads_on, refused, stay_read, want_of_memory}

-- A walk under way: what is made follows by all elements that there may be, the root stands, no fault was counted, and nothing was
-- asked after one.
pub record Walks (T : Table) (old : Inputs) (before : World) (root : Position) (m : Maker) (now : Inputs) (mid : World) : Type 0 where
  pub table : table_in m ≡ T
  pub sound : IsSoundMaker m
  pub root_stands : RootStands root m.waiting.items (judgments_of m)
  pub follow : (b : Elements) → MayBe T now b → AreFollowing b m
  pub read : HasRead T old now before mid
  pub faults : mid.faults ≡ before.faults
  pub late : AsksNoneLate before mid

-- the refusal is that of the call
pub refused_with : (r : Result Why DemandFault) (f : DemandFault) → IsErrAnd r (λ e. e ≡ f) → (P : Result Why DemandFault → Type 0) → P (Err f) → P r
refused_with (Ok x) f h P p = absurd h
refused_with (Err e) f h P p = subst (λ z. P (Err z)) (sym h) p

-- It begins with the root's judgment.
pub walk_begins : (T : Table) (old : Inputs) (before : World) (root : Position) (none m : Maker) (next : Inputs) (after : World) (limit : ℕ) (x : Unit {0})
    → PlacesDiffer → table_in none ≡ T → judgments_of none ≡ []
    → none.waiting.items ≡ [] → AreAskable (streams old) before → Goes none m root 0
    → ((b : Elements) → MayBe (table_in none) next b → AreFollowing b none → AreFollowing b m)
    → ReadsFor (table_in none) root limit old next before after (Ok x) → Walks T old before root m next after
walk_begins T old before root none m next after limit x differ table no_judgment no_waiting ask goes follow reads =
    let r = subst (λ U. ReadsFor U root limit old next before after (Ok x)) table reads in
    let h = nothing_yet T old before ask in
    record {
      table = goes.grows.table ∙ table;
      sound = goes.sound;
      root_stands = root_first root m (subst (λ ws. Settles ws m root 0) no_waiting goes.settles);
      follow = λ b may. follow b (subst (λ U. MayBe U next b) (sym table) may) (λ i l. absurd (omega (arith, l, ap length no_judgment)));
      read = reads_on T old old next before before after h (inputs_apart differ old) root limit (Ok x) r;
      faults = no_fault T old old next before before after h root limit x r refl;
      late = none_late T old old next before before after h root limit (Ok x) r refl (λ good. refl);
    }

pub begin_refused : (T : Table) (old : Inputs) (before : World) (root : Position) (none : Maker) (next : Inputs) (after : World) (limit time : ℕ)
    (fault : DemandFault) → PlacesDiffer → table_in none ≡ T
    → AreAskable (streams old) before → ReadsFor (table_in none) root limit old next before after (Err fault) → Made T old next before after time (Err fault)
begin_refused T old before root none next after limit time fault differ table ask reads =
    refused T old old next before before after (nothing_yet T old before ask) root limit fault refl (λ good. refl) (inputs_apart differ old) time
    (subst (λ U. ReadsFor U root limit old next before after (Err fault)) table reads)

module _ (T : Table) (old : Inputs) (before : World) (root : Position) (m : Maker) (now : Inputs) (mid : World) (g : Walks T old before root m now mid)
    (differ : PlacesDiffer) (p : Maker) (left : Leaves m p) where
  pub its_table : table_in p ≡ T
  its_table = left.table ∙ g.table

  pub streams_there : length (streams old) ≡ length T.inputs → length (streams now) ≡ length (table_in p).inputs
  streams_there e = g.read.count ∙ (e ∙ ap (λ (U : Table). length U.inputs) (sym its_table))

  pub its_follow : (b : Elements) → MayBe T now b → AreFollowing b p
  its_follow b may = follow_of b p (table_in m) m.tags (judgments_of m) left.table left.known left.judgments (g.follow b may)

  -- The innermost one goes on,
  module _ (w : Making) (waiting : m.waiting.items ≡ p.waiting.items ++ w ∷ []) (next : Inputs) (after : World) where
    reads_by : (result : Result (Unit {0}) DemandFault) → (r : ReadsNext (table_in p) w now next mid after result)
        → ReadsFor T r.at (w.limit - r.references) now next mid after result
    reads_by result r = subst (λ U. ReadsFor U r.at (w.limit - r.references) now next mid after result) its_table r.reads

    pub walk_on : (new : Maker) (x : Unit {0}) → Goes p new w.at w.space → ((b : Elements) → MayBe (table_in p) next b → AreFollowing b p → AreFollowing b new)
        → ReadsNext (table_in p) w now next mid after (Ok x) → Walks T old before root new next after
    walk_on new x goes follow reads =
        let r = reads_by (Ok x) reads in
        let stay = stay_read T now next mid after (inputs_apart differ now) reads.at (w.limit - reads.references) (Ok x) r in
        record {
          table = goes.grows.table ∙ its_table;
          sound = goes.sound;
          root_stands = root_stays root p new w (judgments_of m) (subst (λ ws. RootStands root ws (judgments_of m)) waiting g.root_stands) goes.settles;
          follow = λ b may. follow b (subst (λ U. MayBe U next b) (sym its_table) may) (its_follow b (extends_then _ _ b stay may));
          read = reads_on T old now next before mid after g.read (inputs_apart differ now) reads.at (w.limit - reads.references) (Ok x) r;
          faults = no_fault T old now next before mid after g.read reads.at (w.limit - reads.references) x r g.faults;
          late = none_late T old now next before mid after g.read reads.at (w.limit - reads.references) (Ok x) r g.faults g.late;
        }

    -- or is refused.
    pub walk_refused : (time : ℕ) (fault : DemandFault) → ReadsNext (table_in p) w now next mid after (Err fault)
        → Made T old next before after time (Err fault)
    walk_refused time fault reads =
        refused T old now next before mid after g.read reads.at (w.limit - reads.references) fault g.faults g.late (inputs_apart differ now) time
        (reads_by (Err fault) reads)

  -- None waits: the root is made.
  pub root_made : m.waiting.items ≡ [] → IsMade (judgments_of p) root 0
  root_made e =
      subst (λ js. IsMade js root 0) (sym left.judgments) (subst (λ ws. RootStands root ws (judgments_of m)) e g.root_stands)

  pub walk_ends : (time : ℕ) (w : Why) → root.time ≡ time → ((b : Elements) → AreFollowing b p → IsCertificate (table_in p) b w root.time)
      → Made T old now before mid time (Ok w)
  walk_ends time w e certificate = record {
    made = λ b may. subst (λ t. IsCertificate T b w t) e (subst (λ U. IsCertificate U b w root.time) its_table (certificate b (its_follow b may)));
    failed = λ q. absurd (cc);
    counts = inr g.faults;
    late = g.late;
    elements = g.read.elements;
    askable = g.read.askable;
    places = g.read.places;
    most = g.read.most;
    reads_only = g.read.reads_only;
  }

-- There is no memory.
pub walk_breaks : (T : Table) (old : Inputs) (before : World) (root : Position) (m : Maker) (now : Inputs) (mid : World) (time : ℕ)
    → Walks T old before root m now mid → Made T old now before mid time (Err NoMemory)
walk_breaks T old before root m now mid time g = want_of_memory T old now now before mid mid g.read time refl refl g.faults g.late
