-- The steps of a run, as its code takes them.
use Rattle.lucid_session.proofs.Common.{◌≡◌, ℕ, suc, ◌+◌, ◌<◌, ◌≤◌, Bool, List, length, true, false, refl, sym, ap, ◌∙◌, subst, add-one, arith, ◌⊎◌, inl, inr, ◌++◌, true≢false, Result, Ok, Err, IsTrue, IsSome, slice_get, with_nothing, Value, eod, value_text, plain, Elements, root, count_of, empty_warehouse, IsOneForEach, World, Summary, RunFault, eqval, equations_of, Table, EngineView, IsSoundEngine, AreAskable, places_of, Demanded, most_known, DemandFault, table_stream_at, table_columns, HasEnded, IsOpen, OfSome, no_lines, Told, RunView, EndsAt, Demands, times_of, of_demand, WritesLine, Start, subject, layout, before, Has, seen, of_run, Standing, Asked, StopsAt, GivesCell, IsMarked, AreMarked, HasCells, PromisesColumns}
use Rattle.std.specs.Prelude.{◌∷◌, [], Some}
use Rattle.lucid_ports.specs.declared.run.Options.{Options}
use Rattle.lucid_ports.specs.declared.run.RunFault.TheVariants as run
use Rattle.lucid_session.specs.Cells.{ClearsMany}
use Rattle.lucid_session.specs.Sessions.{IsFresh, engine_run}
use Rattle.lucid_session.proofs.Lists.{some_is}
use Rattle.lucid_session.proofs.Going.{asked, begins, stands_on}
use Rattle.lucid_session.proofs.Subjects.{is_column, among_columns}
use Rattle.lucid_session.proofs.Ending.{promise_refused, promise_short, promise_done}
use Rattle.lucid_session.proofs.Marking.{next_space}
use Rattle.lucid_session.proofs.Writing.{Going, Came, going_on, promise_unwritten, cleared_standing}

-- An engine that may have been cleared.
module _ (e f : EngineView) (c d : ℕ) (many : ClearsMany e f c d) where
  pub few_after : length f.known ≤ most_known
  few_after = elim many [ inl h ↦ omega (arith, ap (λ x. length x.known) h.0, h.2) | inr h ↦ omega (arith, ap (λ x. length x.known) h.1) ]

  pub counts_after : d ≤ c + 1
  counts_after = elim many [ inl h ↦ omega (arith, h.1) | inr h ↦ omega (arith, h.3) ]

  pub streams_after : f.streams ≡ e.streams
  streams_after = elim many [ inl h ↦ ap (λ x. x.streams) h.0 | inr h ↦ ap (λ x. x.streams) h.1 ]

  pub cleared_after : (z : Start) (D : Elements → (time space : ℕ) → Type 0) (w : World) → Standing z D e w c → Standing z D f w d
  cleared_after z D w standing = by many
    where
      by : ClearsMany e f c d → Standing z D f w d
      by (inl h) = subst (λ x. Standing z D x w d) (sym h.0) (subst (Standing z D e w) (sym h.1) standing)
      by (inr h) = subst (Standing z D f w) (sym (h.3 ∙ add-one c)) (cleared_standing z D e f w c standing h.0 h.1 h.2)

-- The value of a column is demanded, by an engine that may have been cleared.
module _ (z : Start) (e g f : EngineView) (w v : World) (t s u c d depth : ℕ) (many : ClearsMany e g c d) (deep : z.depth ≡ depth) (at : u ≡ t)
    (standing : Standing z (before z t s) e w c)
    (there : (b : Elements) → Has z b → Demands (layout z) b t s) where
  asked_here : (r : Result Value DemandFault) → Demanded g f w v u s depth r → Asked z (before z t s) f v d t s r
  asked_here r done =
      asked z (before z t s) g f w v t s d r (cleared_after e g c d many z (before z t s) w standing)
      (subst (λ q. Demanded g f w v q s z.depth r) at (subst (λ m. Demanded g f w v u s m r) (sym deep) done))

  -- the demand is refused
  pub refused_here : (q : DemandFault) → Demanded g f w v u s depth (Err q) → (lost : ℕ) → lost ≡ f.stored.lost → (x : RunFault) → x ≡ of_demand t lost d q
      → StopsAt z f v t d x
  refused_here q done lost same x is = inl (record
      { space = s; fault = q; is = is ∙ ap (λ n. of_demand t n d q) same; asked = asked_here (Err q) done; demanded = there })

  module _ (x : Value) (done : Demanded g f w v u s depth (Ok x)) where
    pub standing_here : Standing z (before z t (s + 1)) f v d
    standing_here = next_space z f v t d s there (stands_on z (before z t s) f v d t s x (asked_here (Ok x) done))

    exact_here : (b : Elements) → Has z b → IsTrue z.policy.empties → IsSome (eqval (equations_of z.table) b z.depth t s)
    exact_here b has empties = some_is (eqval (equations_of z.table) b z.depth t s) (plain x) (((asked_here (Ok x) done).found b has).exact empties)

    -- the end of data stands there,
    pub ended_here : plain x ≡ eod → (line : List ℕ) → GivesCell z t s false line line
    ended_here end line = record { value = plain x; means = λ b has. ((asked_here (Ok x) done).found b has).value; exact = exact_here; adds = (end, refl) }

    -- or a value, whose text is added
    pub shown_here : (plain x ≡ eod → ⊥) → (line more : List ℕ) → more ≡ line ++ value_text (plain x) → GivesCell z t s true line more
    shown_here goes_on line more is = record {
      value = plain x;
      means = λ b has. ((asked_here (Ok x) done).found b has).value;
      exact = exact_here;
      adds = (goes_on, is);
    }

    pub short_here : StopsAt z f v t d run.NoMemory
    short_here = inr (record { space = s + 1; is = refl; standing = standing_here })

-- A run begins: at no point was anything demanded, no line is written, and all columns are open.
module _ (z : Start) (e : EngineView) (is : e ≡ of_run z e) (sound : IsSoundEngine e) (askable : AreAskable e.streams z.before)
    (places : places_of e.streams ≡ z.places) (known : e.known ≡ root ∷ []) (stored : e.stored ≡ empty_warehouse) where
  pub begins_there : Going z e z.before z.out_before 0 0
  begins_there = record {
    standing = begins z (before z 0 0) e is sound askable places known stored
        (λ b t s i. elim i.0 [ inl lt ↦ absurd (omega (arith, lt)) | inr at ↦ absurd (omega (arith, at.1)) ]);
    no_write_failed = refl;
    late = λ good. refl;
    lines = λ b has. record { bytes = []; output = no_lines; written = with_nothing z.out_before.bytes; exact = λ empties u lt. absurd (omega (arith, lt)) };
  }

pub all_open : (z : Start) (b : Elements) (marks : List Bool) → ((j : ℕ) (mark : Bool) → slice_get marks j ≡ Some mark → mark ≡ true) → AreMarked z b 0 0 marks
all_open z b marks opened = record {
  done = λ j mark e lt. absurd (omega (arith, lt));
  left = λ j mark e le. subst (λ m. IsMarked (table_stream_at z.table j) b 0 m) (sym (opened j mark e)) (λ u lt means. absurd (omega (arith, lt)));
}

-- what the cells of a time say, where it is known whether a column goes on
pub cells_told : (z : Start) (t : ℕ) (marks : List Bool) (line : List ℕ) (goes_on told : Bool) → goes_on ≡ told
    → ((b : Elements) → Has z b → AreMarked z b (t + 1) 0 marks × HasCells z b t z.columns line goes_on) → (b : Elements) → Has z b
    → HasCells z b t z.columns line told
cells_told z t marks line goes_on told is cells b has = subst (HasCells z b t z.columns line) is (cells b has).1

-- the limit's approximation is defined at the open columns, under a policy that empties
defined_there : (z : Start) (b : Elements) (t : ℕ) (line : List ℕ) (goes_on : Bool) → HasCells z b t z.columns line goes_on → IsTrue z.policy.empties
    → (subject z).defined b z.depth t
defined_there z b t line goes_on cells empties x i opened =
    let r = is_column z.table z.columns x i in
    subst (λ y. IsSome (y.value b z.depth t)) (sym r.2) (cells.exact empties r.0 r.1 (subst (λ y. IsOpen y b t) r.2 opened))

-- The demands of a time were made, or stopped.
module _ (z : Start) (e f : EngineView) (w v : World) (o : Told) (t c d : ℕ) (going : Going z e w o t c) (early : t < z.count) where
  -- the run ends there
  pub stopped_there : (q : RunFault) → StopsAt z f v t d q → PromisesColumns z.table z.columns (seen z v o) (Err q)
  stopped_there q (inl r) =
      subst (λ x. PromisesColumns z.table z.columns (seen z v o) (Err x)) (sym r.is)
      (promise_refused z f v o t r.space d going.no_write_failed going.late r.fault r.asked r.demanded going.lines early)
  stopped_there q (inr r) =
      subst (λ x. PromisesColumns z.table z.columns (seen z v o) (Err x)) (sym r.is)
      (promise_short z f v o t r.space d going.no_write_failed going.late r.standing going.lines early)

  module _ (standing : Standing z (before z (t + 1) 0) f v d) (line : List ℕ) where
    -- all columns have ended
    module _ (cells : (b : Elements) → Has z b → HasCells z b t z.columns line false) where
      pub ended_there : (g : EngineView) (n : ℕ) → ((g ≡ f) × (n ≡ d)) ⊎ ClearsMany f g d n → IsOneForEach g.stored → (s : Summary)
          → s ≡ record { lines = t; ended = true; held = count_of g.stored; lost = g.stored.lost; cleared = n }
          → PromisesColumns z.table z.columns (seen z v o) (Ok s)
      ended_there g n many each s is =
          let ended : s.ended ≡ true = ap (λ y. y.ended) is in
          let times : times_of s ≡ suc t = ap times_of is in
          promise_done z g v o t (suc t) n (subst (λ q. Standing z (before z q 0) g v n) (add-one t) (standing_then many)) each going.no_write_failed
          going.late going.lines s
          (subst (λ y. s ≡ record { lines = t; ended = y; held = count_of g.stored; lost = g.stored.lost; cleared = n }) (sym ended) is)
          (omega (arith, early)) (omega (arith, early)) (omega arith) times
          (λ b has. subst (λ y. EndsAt (subject z) b (seen z v o) y t) (sym ended) (early, all_ended b has))
          (λ b has empties is. all_defined b has empties)
        where
          standing_then : ((g ≡ f) × (n ≡ d)) ⊎ ClearsMany f g d n → Standing z (before z (t + 1) 0) g v n
          standing_then (inl h) = subst (λ x. Standing z (before z (t + 1) 0) x v n) (sym h.0) (subst (Standing z (before z (t + 1) 0) f v) (sym h.1) standing)
          standing_then (inr h) = cleared_after f g d n h z (before z (t + 1) 0) v standing

          all_ended : (b : Elements) → Has z b → (subject z).ends b t
          all_ended b has x i = let r = is_column z.table z.columns x i in subst (λ y. HasEnded y b t) (sym r.2) ((cells b has).some r.0 r.1)

          all_defined : (b : Elements) → Has z b → IsTrue z.policy.empties → (subject z).defined b z.depth t
          all_defined b has = defined_there z b t line false (cells b has)

    -- a line stands there
    module _ (cells : (b : Elements) → Has z b → HasCells z b t z.columns line true) where
      came : Came z f v o t d (line ++ 10 ∷ [])
      came = record {
        standing = subst (λ q. Standing z (before z q 0) f v d) (add-one t) standing;
        no_write_failed = going.no_write_failed;
        late = going.late;
        lines = going.lines;
        stands = λ b has. let h = cells b has in (h.cells, h.are, some_goes h.some, ap (λ x. x ++ 10 ∷ []) h.joined);
        exact = λ b has. defined_there z b t line true (cells b has);
      }
        where
          some_goes : {b : Elements} → (j : ℕ) × (j < z.columns) × (HasEnded (table_stream_at z.table j) b t → ⊥)
              → OfSome (table_columns z.table z.columns) (λ x. HasEnded x b t → ⊥)
          some_goes going = (table_stream_at z.table going.0, among_columns z.table z.columns going.0 going.1, going.2)

      -- that isn't written whole,
      pub unwritten_there : (p : Told) (q : RunFault) → WritesLine (line ++ 10 ∷ []) o p (Err q) → PromisesColumns z.table z.columns (seen z v p) (Err q)
      unwritten_there p q writes = promise_unwritten z f v o p t d (line ++ 10 ∷ []) came q writes early

      -- or it is, and the engine may be cleared
      pub written_there : (p : Told) → WritesLine (line ++ 10 ∷ []) o p (Ok tt) → (g : EngineView) (n : ℕ) → ClearsMany f g d n → Going z g v p (t + 1) n
      written_there p writes g n many =
          let written = going_on z f v o p t d (line ++ 10 ∷ []) came writes in
          subst (λ y. Going z g v p y n) (sym (add-one t)) (record {
            standing = cleared_after f g d n many z (before z (suc t) 0) v written.standing;
            no_write_failed = written.no_write_failed;
            late = written.late;
            lines = written.lines;
          })

-- the count is reached
pub counted_there : (z : Start) (e : EngineView) (w : World) (o : Told) (t c : ℕ) → Going z e w o t c → t ≡ z.count → IsOneForEach e.stored → (s : Summary)
    → s ≡ record { lines = z.count; ended = false; held = count_of e.stored; lost = e.stored.lost; cleared = c }
    → PromisesColumns z.table z.columns (seen z w o) (Ok s)
counted_there z e w o t c going all each s is =
    let ended : s.ended ≡ false = ap (λ y. y.ended) is in
    let times : times_of s ≡ z.count = ap times_of is in
    promise_done z e w o t t c going.standing each going.no_write_failed going.late going.lines s
    (is ∙ (λ i. record { lines = sym all i; ended = sym ended i; held = count_of e.stored; lost = e.stored.lost; cleared = c }))
    (omega (arith, all)) (omega (arith, all)) (omega arith) (times ∙ sym all)
    (λ b has. subst (λ y. EndsAt (subject z) b (seen z w o) y t) (sym ended) all)
    (λ b has empties is. absurd (true≢false (sym is ∙ ended)))

-- What is said of an engine is said of what it is made as.
pub fresh_there : (e x : EngineView) (w : World) → IsSoundEngine e → e ≡ x → AreAskable x.streams w → x.known ≡ root ∷ [] → x.stored ≡ empty_warehouse → IsFresh e w
fresh_there e x w sound is askable known stored = record {
  sound = sound;
  known = ap (λ y. y.known) is ∙ known;
  stored = ap (λ y. y.stored) is ∙ stored;
  askable = subst (λ (y : EngineView). AreAskable y.streams w) (sym is) askable;
}

-- So what its run promises is promised of it as it is made.
pub run_there : (options : Options) (e x : EngineView) (w v : World) (o p : Told) (result : Result Summary RunFault) → e ≡ x
    → (n : ℕ) → PromisesColumns e.table n (engine_run options e w v o p) result → PromisesColumns x.table n (engine_run options x w v o p) result
run_there options e x w v o p result is n = subst (λ (y : EngineView). PromisesColumns y.table n (engine_run options y w v o p) result) is

-- What is promised of so many columns is promised of as many.
pub columns_there : (T : Table) (n k : ℕ) (r : RunView) (result : Result Summary RunFault) → n ≡ k → PromisesColumns T n r result → PromisesColumns T k r result
columns_there T n k r result same = subst (λ m. PromisesColumns T m r result) same
