-- A task that may be asked for, for a part or as the root: it may be where more contexts are known, where a key was looked up and where the
-- point moved on; and it has its value at once, or a row, or is refused.
use Rattle.lucid_demand.proofs.Common.{ℕ, suc, inl, inr, List, [], Option, None, refl, sym, ap, ◌∙◌, subst, arith, IsErrAnd, Value, plain, In, Elements, Context, IsKnown, IsOneForOne, KeepsKnown, Key, Task, TaskRow, Got, Stored, IsTouched, Noted, World, Table, PlainTask, DatonAt, plain_task, plain_key, rank, moved, RefersTo, passed, passed_contexts, StandsFor, EngineView, known_elements, holding, MayHave, Demand, stays, IsEntered, IsWanted, Remembers, Waits, at_it, at_another, task_as_tags_grow, all_rows_as_tags_grow, stands-itself, passed-stands, too_deep-is_right, owns_enters, cost_of, GoesDown, Evaluating, Stepped, cost, CanAsk, Enters, SetsPart, IsFor, MayAskFor, MayAskNow, MayRefer, AsksIn, HoldsNothing, Owns, DemandIn, OnTooLarge, IsTurned, DemandFault, TooDeep, ReadFault, NoMemory, OnOk}
use Rattle.std.proofs.Common.{◌≡◌, ◌<◌, ◌≤◌, ◌⊎◌, Some}
use Rattle.std.specs.Prelude.{IfSome, Result, Ok, Err, length, option_map}
use Rattle.lucid_tasks.specs.declared.Part.{Part}
use Rattle.lucid_tasks.specs.Rows as rows
use Rattle.lucid_tasks.specs.Rows.{row_at}
use Rattle.lucid_demand_steps.specs.Tasks.{key_list, AreRowsKnown}
use Rattle.lucid_demand_steps.specs.Demands.{table_of, Answers}
use Rattle.lucid_demand_steps.specs.Decisions.{LooksTooDeep, IsConstant}
use Rattle.lucid_demand_steps.proofs.Standing.{stands-then, standing-answers}
use Rattle.lucid_demand_steps.proofs.NewRows.{standing-is_wanted}
use Rattle.lucid_demand_steps.proofs.Answering.{constant-answers}
use Rattle.lucid_demand_steps.proofs.Acting.{cost_as_tags_grow, asks_goes_down, gives_goes_down, begins_waiting}
use Rattle.lucid_demand_steps.specs.Parts.{IsTask}
use Rattle.lucid_demand.specs.Naming.{MayHaveRow}
use Rattle.lucid_demand.proofs.GrownTags.{entered_by_root, way_is_entered, waits_grow, nothing_grown}
use Rattle.lucid_demand.proofs.SettledRows.{changed_row, on_going}
use Rattle.lucid_demand.proofs.TouchedKeys.{held_as_before, owns_touched, waits_touched}
use Rattle.lucid_demand.proofs.Turning.{owns_turned, waits_turned, answers_turned, emptied_turn, turned_cost}

-- ---- what a task is asked for, where something changed

-- where more contexts are known, which the root enters,
for_grown : (d : Demand) (e : Evaluating) (w : World) (known : List Context) → KeepsKnown e.engine.known known → IsOneForOne known
    → ((b : Elements) → MayHave e.engine b → (c : Context) → In c known → In c e.engine.known ⊎ IsEntered d b c)
    → (part : Option Part) (x : PlainTask) (n : ℕ) → IsFor d e w part x n
    → IsFor d (record { engine = record e.engine { known = known }; rows = e.rows }) w part x n
for_grown d e w known keeps one entered None x n f = f
for_grown d e w known keeps one entered (Some part) x n f = record {
  waits = waits_grow d e.engine w e.rows known keeps one entered f.waits;
  parent = f.parent;
  there = all_rows_as_tags_grow e.engine.known known e.rows keeps f.waits.known part.slot ∙ f.there;
  free = f.free;
  few = f.few;
  task = f.task;
  is_part = f.is_part;
  stands = f.stands;
  least_rank = f.least_rank;
}

-- where a key was looked up,
for_touched : (d : Demand) (e : Evaluating) (w : World) (stored : Stored) (key : Key) → IsTouched e.engine.stored stored key
    → (part : Option Part) (x : PlainTask) (n : ℕ) → IsFor d e w part x n
    → IsFor d (record { engine = record e.engine { stored = stored }; rows = e.rows }) w part x n
for_touched d e w stored key touched None x n f = f
for_touched d e w stored key touched (Some part) x n f = record {
  waits = waits_touched d e.engine w stored key f.waits.going.owns touched e.rows f.waits;
  parent = f.parent;
  there = f.there;
  free = f.free;
  few = f.few;
  task = f.task;
  is_part = f.is_part;
  stands = f.stands;
  least_rank = f.least_rank;
}

-- where the policy had its turn,
for_turned : (d : Demand) (e : Evaluating) (w : World) (now : EngineView) → IsTurned e.engine now → (part : Option Part) (x : PlainTask) (n : ℕ)
    → IsFor d e w part x n
    → IsFor d (record { engine = record e.engine { stored = now.stored; noted = now.noted }; rows = e.rows }) w part x n
for_turned d e w now turned None x n f = f
for_turned d e w now turned (Some part) x n f = record {
  waits = subst (λ z. Waits d z w e.rows) turned.only (waits_turned d e.engine now w f.waits.going.owns turned e.rows f.waits);
  parent = f.parent;
  there = f.there;
  free = f.free;
  few = f.few;
  task = f.task;
  is_part = f.is_part;
  stands = f.stands;
  least_rank = f.least_rank;
}

-- and by a task that stands for it, at the same rank or a lower one.
for_moved : (d : Demand) (e : Evaluating) (w : World) (part : Option Part) (x y : PlainTask) (n m : ℕ) → StandsFor (table_of d) [] y x → m ≤ n
    → IsFor d e w part x n → IsFor d e w part y m
for_moved d e w None x y n m s le f = (f.0, stands-then (table_of d) [] [] y x d.root s f.1)
for_moved d e w (Some part) x y n m s le f = record {
  waits = f.waits;
  parent = f.parent;
  there = f.there;
  free = f.free;
  few = f.few;
  task = f.task;
  is_part = f.is_part;
  stands = stands-then (table_of d) [] [] y x f.task s f.stands;
  least_rank = omega (arith, le, f.least_rank);
}

-- the tags of the rows are known
rows_known : (d : Demand) (e : Evaluating) (w : World) (part : Option Part) (x : PlainTask) (n : ℕ) → IsFor d e w part x n → AreRowsKnown e.engine.known e.rows
rows_known d e w None x n f = subst (λ rs. AreRowsKnown e.engine.known rs) (sym f.0) (λ q r at. absurd (cc))
rows_known d e w (Some part) x n f = f.waits.known

module _ (d : Demand) (e : Evaluating) (w : World) (part : Option Part) (x : Task) (n : ℕ) (m : MayAskFor d e w part x n) where
  abbrev task : PlainTask
  task = plain_task e.engine.known x

  -- It may be asked for where contexts became known that the root enters,
  pub may_ask_grown : (known : List Context) → KeepsKnown e.engine.known known → IsOneForOne known
      → ((b : Elements) → MayHave e.engine b → (c : Context) → In c known → In c e.engine.known ⊎ IsEntered d b c)
      → MayAskFor d (record { engine = record e.engine { known = known }; rows = e.rows }) w part x n
  may_ask_grown known keeps one entered = record {
    demand = m.demand;
    owns = owns_enters d e.engine w m.owns known keeps one entered;
    nothing = nothing_grown d e.engine known keeps m.owns.keys m.nothing;
    wanted = λ b z. subst (λ y. IsWanted d b y) (sym same) (m.wanted b z);
    tag = keeps.known x.tag m.tag;
    is_for = subst (λ y. IsFor d (record { engine = record e.engine { known = known }; rows = e.rows }) w part y n) (sym same)
        (for_grown d e w known keeps one entered part task n m.is_for);
  }
    where
      same : plain_task known x ≡ task
      same = task_as_tags_grow e.engine.known known x keeps m.tag

  -- as those that it enters itself;
  pub may_ask_entered : (known : List Context) → KeepsKnown e.engine.known known → IsOneForOne known
      → ((c : Context) → In c known → In c e.engine.known ⊎ Enters (table_of d) task c)
      → MayAskFor d (record { engine = record e.engine { known = known }; rows = e.rows }) w part x n
  may_ask_entered known keeps one entered = may_ask_grown known keeps one (λ b z c i. onward b z c (entered c i))
    where
      onward : (b : Elements) → MayHave e.engine b → (c : Context) → In c e.engine.known ⊎ Enters (table_of d) task c → In c e.engine.known ⊎ IsEntered d b c
      onward b z c (inl i) = inl i
      onward b z c (inr f) = inr (entered_by_root d b task c ((m.wanted b z).seen) (λ k. f b x.depth k))

  pub costs_grown : (known : List Context) → KeepsKnown e.engine.known known → cost_of d known e.rows ≡ cost d e
  costs_grown known keeps = cost_as_tags_grow d e.engine.known known e.rows keeps (rows_known d e w part task n m.is_for)

  -- and where a key was looked up.
  pub may_ask_touched : (stored : Stored) (key : Key) → IsTouched e.engine.stored stored key
      → MayAskFor d (record { engine = record e.engine { stored = stored }; rows = e.rows }) w part x n
  may_ask_touched stored key touched = record {
    demand = m.demand;
    owns = owns_touched d e.engine w stored key m.owns touched;
    nothing = λ empties k s. held_as_before d e.engine w stored key m.owns touched (k, s) ∙ m.nothing empties k s;
    wanted = m.wanted;
    tag = m.tag;
    is_for = for_touched d e w stored key touched part task n m.is_for;
  }

  -- where the policy had its turn,
  pub may_ask_turned : (now : EngineView) → IsTurned e.engine now
      → MayAskFor d (record { engine = record e.engine { stored = now.stored; noted = now.noted }; rows = e.rows }) w part x n
  may_ask_turned now turned = record {
    demand = m.demand;
    owns = subst (λ z. Owns d z w) turned.only (owns_turned d e.engine now w m.owns turned);
    nothing = subst (λ z. HoldsNothing d z) turned.only ((emptied_turn d e.engine now w m.owns turned).nothing);
    wanted = m.wanted;
    tag = m.tag;
    is_for = for_turned d e w now turned part task n m.is_for;
  }

  -- and as those on the way of its moves,
  pub may_ask_on_way : (known : List Context) → KeepsKnown e.engine.known known → IsOneForOne known
      → ((c : Context) → In c known → In c e.engine.known ⊎ In c (passed_contexts (table_of d) (suc x.node) task))
      → MayAskFor d (record { engine = record e.engine { known = known }; rows = e.rows }) w part x n
  may_ask_on_way known keeps one entered = may_ask_grown known keeps one (λ b z c i. elim (entered c i) [
    | inl o ↦ inl o
    | inr j ↦ way_is_entered d b e.engine.known x c m.demand.in_range m.tag ((m.wanted b z).seen) (suc x.node) j
  ])

-- and so may the task after all its moves, which doesn't move the point.
module _ (d : Demand) (e : Evaluating) (w : World) (part : Option Part) (x : Task) (m : MayAskNow d e w part x) (y : Task)
    (is : plain_task e.engine.known y ≡ passed (table_of d) (plain_task e.engine.known x))
    (tag : IsKnown e.engine.known y.tag) where
  stood : StandsFor (table_of d) [] (passed (table_of d) (plain_task e.engine.known x)) (plain_task e.engine.known x)
      × (moved (table_of d) (passed (table_of d) (plain_task e.engine.known x)) ≡ None)
      × IsTask (table_of d) (passed (table_of d) (plain_task e.engine.known x)) × ((passed (table_of d) (plain_task e.engine.known x)).limit ≡ x.depth)
  stood = passed-stands (table_of d) m.demand.in_range (plain_task e.engine.known x) ((m.wanted (known_elements e.engine) (λ k j v h. h)).there)

  stands : StandsFor (table_of d) [] (plain_task e.engine.known y) (plain_task e.engine.known x)
  stands = subst (λ z. StandsFor (table_of d) [] z (plain_task e.engine.known x)) (sym is) stood.0

  pub moved_is_still : moved (table_of d) (plain_task e.engine.known y) ≡ None
  moved_is_still = ap (moved (table_of d)) is ∙ stood.1

  pub may_ask_moved : MayAskNow d e w part y
  may_ask_moved = record {
    demand = m.demand;
    owns = m.owns;
    nothing = m.nothing;
    wanted = λ b z. standing-is_wanted d b [] (plain_task e.engine.known y) (plain_task e.engine.known x) (λ k i. absurd i) stands
        (subst (λ q. IsTask (table_of d) q) (sym is) stood.2) (m.wanted b z);
    tag = tag;
    is_for = for_moved d e w part (plain_task e.engine.known x) (plain_task e.engine.known y) (suc (rank (table_of d) (plain_task e.engine.known x)))
        (suc (rank (table_of d) (plain_task e.engine.known y))) stands
        (omega (arith, stands.rank)) m.is_for;
  }

-- What may be asked for may be as a reference.
pub refers_now : (d : Demand) (e : Evaluating) (w : World) (part : Option Part) (x : Task) → MayAskNow d e w part x → MayRefer d e w part x
refers_now d e w part x m = record {
  demand = m.demand;
  owns = m.owns;
  nothing = m.nothing;
  wanted = m.wanted;
  tag = m.tag;
  is_for = for_moved d e w part (plain_task e.engine.known x) (plain_task e.engine.known x) (suc (rank (table_of d) (plain_task e.engine.known x)))
      (rank (table_of d) (plain_task e.engine.known x))
      (stands-itself (table_of d) (plain_task e.engine.known x)) (omega arith) m.is_for;
}

-- ---- what asking does

-- by the datons on the way of one of two steps
stands_on : (T : Table) (o : Option DatonAt) (x y z : PlainTask) → StandsFor T (key_list o) x y → StandsFor T [] y z → StandsFor T (key_list o) x z
stands_on T None x y z p q = stands-then T [] [] x y z p q
stands_on T (Some k) x y z p q = stands-then T (key_list (Some k)) [] x y z p q

-- A value that answers the task is given, and the policy has its turn, whatever was held before it.
module _ (d : Demand) (old now : Evaluating) (w : World) (part : Option Part) (x : Task) (n : ℕ) (owns : Owns d now.engine w)
    (is_for : IsFor d now w part (plain_task now.engine.known x) n) (same : cost d now ≡ cost d old) (v : Value)
    (answers : (b : Elements) → MayHave now.engine b → Answers d b (holding now.engine) now.engine.stored.lost (plain_task now.engine.known x) (plain v)) where
  -- it answers what the task is asked for
  stood_answers : (y : PlainTask) → StandsFor (table_of d) [] (plain_task now.engine.known x) y → (b : Elements) → MayHave now.engine b
      → Answers d b (holding now.engine) now.engine.stored.lost y (plain v)
  stood_answers y s b z = standing-answers d b (holding now.engine) now.engine.stored.lost [] (plain_task now.engine.known x) y (plain v) s
      (λ a c k i. absurd i) (answers b z)

  pub given_turned : (rs : List (Option TaskRow)) → rows.Gives now.rows rs part v → (new : Evaluating) → IsTurned now.engine new.engine → new.rows ≡ rs
      → AsksIn d old new w part (Ok (rows.returned part v))
  given_turned rs gives new t last = go part is_for gives
    where
      go : (p : Option Part) → IsFor d now w p (plain_task now.engine.known x) n → rows.Gives now.rows rs p v
          → AsksIn d old new w p (Ok (rows.returned p v))
      go None f g = record {
        owns = owns_turned d now.engine new.engine w owns t;
        goes_on = tt;
        answers = λ b z. answers_turned d now.engine new.engine w owns t b d.root (plain v)
            (stood_answers d.root f.1 b (subst (λ (e : EngineView). MayHave e b) t.only z));
        nothing = tt;
        deep = λ e. absurd (cc);
        refused = tt;
      }
      go (Some p) f g = record {
        owns = owns_turned d now.engine new.engine w owns t;
        goes_on = (
          subst (λ z. Waits d new.engine w z) (sym last) (waits_turned d now.engine new.engine w owns t rs down.waits),
          subst (λ k. k < cost d old) (sym (turned_cost d (record { engine = now.engine; rows = rs }) new t last))
              (subst (λ k. cost_of d now.engine.known rs < k) same down.less),
        );
        answers = tt;
        nothing = (emptied_turn d now.engine new.engine w owns t).nothing;
        deep = λ e. absurd (cc);
        refused = tt;
      }
        where
          down : GoesDown d now.engine w now.rows rs
          down = gives_goes_down d now.engine w now.rows rs f.waits p f.parent v f.there f.free f.few
              (λ b z. record { task = f.task; is = f.is_part; answers = stood_answers f.task f.stands b z }) g

module _ (d : Demand) (old now : Evaluating) (w : World) (part : Option Part) (x : Task) (n : ℕ) (m : MayAskFor d now w part x n)
    (same : cost d now ≡ cost d old) where
  abbrev its : PlainTask
  its = plain_task now.engine.known x

  -- A value that answers the task is given.
  pub asked_given : (new : List (Option TaskRow)) (v : Value)
      → ((b : Elements) → MayHave now.engine b → Answers d b (holding now.engine) now.engine.stored.lost its (plain v))
      → rows.Gives now.rows new part v → AsksIn d old (record { engine = now.engine; rows = new }) w part (Ok (rows.returned part v))
  asked_given new v answers = go part m.is_for
    where
      onward : (y : PlainTask) → StandsFor (table_of d) [] its y → (b : Elements) → MayHave now.engine b
          → Answers d b (holding now.engine) now.engine.stored.lost y (plain v)
      onward y s b z = standing-answers d b (holding now.engine) now.engine.stored.lost [] its y (plain v) s (λ a c k i. absurd i) (answers b z)

      go : (p : Option Part) → IsFor d now w p its n → rows.Gives now.rows new p v
          → AsksIn d old (record { engine = now.engine; rows = new }) w p (Ok (rows.returned p v))
      go None f gives = record { owns = m.owns; goes_on = tt; answers = λ b z. onward d.root f.1 b z; nothing = tt; deep = λ e. absurd (cc); refused = tt }
      go (Some p) f gives = record {
        owns = m.owns;
        goes_on = (down.waits, subst (λ k. cost_of d now.engine.known new < k) same down.less);
        answers = tt;
        nothing = m.nothing;
        deep = λ e. absurd (cc);
        refused = tt;
      }
        where
          down : GoesDown d now.engine w now.rows new
          down = gives_goes_down d now.engine w now.rows new f.waits p f.parent v f.there f.free f.few
              (λ b z. record { task = f.task; is = f.is_part; answers = onward f.task f.stands b z }) gives

  -- A row is made, of a task that stands for it.
  pub asked_row : (new : List (Option TaskRow)) (slot : ℕ) (y : Task) (key : Option Key)
      → StandsFor (table_of d) (key_list (option_map (plain_key now.engine.known) key)) (plain_task now.engine.known y) its
      → moved (table_of d) (plain_task now.engine.known y) ≡ None → rank (table_of d) (plain_task now.engine.known y) < n → IsKnown now.engine.known y.tag
      → IfSome key (λ k. IsKnown now.engine.known k.tag)
      → ((b : Elements) → MayHave now.engine b → IsWanted d b (plain_task now.engine.known y))
      → ((b : Elements) → MayHave now.engine b → (k : DatonAt) → option_map (plain_key now.engine.known) key ≡ Some k
      → Remembers d b (plain_task now.engine.known y) k)
      → rows.IsPast now.rows slot → rows.Asks now.rows new part slot y key → AsksIn d old (record { engine = now.engine; rows = new }) w part (Ok None)
  asked_row new slot y key stands still low tag key_tag wanted remembers past = go part m.is_for
    where
      daton : Option DatonAt
      daton = option_map (plain_key now.engine.known) key

      onward : (z : PlainTask) → StandsFor (table_of d) [] its z → StandsFor (table_of d) (key_list daton) (plain_task now.engine.known y) z
      onward z s = stands_on (table_of d) daton (plain_task now.engine.known y) its z stands s

      went : (p : Option Part) → Waits d now.engine w new → IfSome p (λ q. cost_of d now.engine.known new < cost d old)
          → AsksIn d old (record { engine = now.engine; rows = new }) w p (Ok None)
      went p waits less = record { owns = m.owns; goes_on = (waits, less); answers = tt; nothing = m.nothing; deep = λ e. absurd (cc); refused = tt }

      go : (p : Option Part) → IsFor d now w p its n → rows.Asks now.rows new p slot y key
          → AsksIn d old (record { engine = now.engine; rows = new }) w p (Ok None)
      go None f asks =
          went None (begins_waiting d now.engine w new slot y key m.owns (onward d.root f.1) still tag key_tag wanted remembers
          (subst (λ rs. rows.Asks rs new None slot y key) f.0 asks)) tt
      go (Some p) f asks = went (Some p) down.waits (subst (λ k. cost_of d now.engine.known new < k) same down.less)
        where
          down : GoesDown d now.engine w now.rows new
          down = asks_goes_down d now.engine w now.rows new f.waits p slot f.parent y key f.there f.free f.few
              (record { part = f.task; is_part = f.is_part; stands = onward f.task f.stands; lower = omega (arith, low, f.least_rank); still = still }) tag
              key_tag wanted remembers past asks

  -- It is refused for want of memory,
  pub asked_refused : (new : List (Option TaskRow)) → AsksIn d old (record { engine = now.engine; rows = new }) w part (Err NoMemory)
  asked_refused new = record { owns = m.owns; goes_on = tt; answers = tt; nothing = tt; deep = λ e. absurd (cc); refused = inr refl }

  -- or as too deep.
  pub asked_too_deep : LooksTooDeep (table_of d) its → ((k : DatonAt) → RefersTo (table_of d) its k → stays d k.0 k.1 ≡ None)
      → AsksIn d old now w part (Err TooDeep)
  asked_too_deep why lacks = record {
    owns = m.owns;
    goes_on = tt;
    answers = tt;
    nothing = tt;
    deep = λ e b z. too_deep-is_right d b its (m.wanted b z) why lacks;
    refused = inl refl;
  }

-- What asking gave stays so where the policy had its turn then.
pub asked_turned : (d : Demand) (old mid new : Evaluating) (w : World) (part : Option Part) (o : Option Value) → AsksIn d old mid w part (Ok o)
    → IsTurned mid.engine new.engine → new.rows ≡ mid.rows
    → AsksIn d old new w part (Ok o)
asked_turned d old mid new w part None a t same = record {
  owns = owns_turned d mid.engine new.engine w a.owns t;
  goes_on = (
    subst (λ rs. Waits d new.engine w rs) (sym same) (waits_turned d mid.engine new.engine w a.owns t mid.rows a.goes_on.0),
    less part a.goes_on.1,
  );
  answers = tt;
  nothing = (emptied_turn d mid.engine new.engine w a.owns t).nothing;
  deep = λ e. absurd (cc);
  refused = tt;
}
  where
    less : (p : Option Part) → IfSome p (λ q. cost d mid < cost d old) → IfSome p (λ q. cost d new < cost d old)
    less None l = tt
    less (Some q) l = subst (λ k. k < cost d old) (sym (turned_cost d mid new t same)) l
asked_turned d old mid new w part (Some v) a t same = record {
  owns = owns_turned d mid.engine new.engine w a.owns t;
  goes_on = tt;
  answers = λ b z. answers_turned d mid.engine new.engine w a.owns t b d.root (plain v)
      (a.answers b (subst (λ (e : EngineView). MayHave e b) t.only z));
  nothing = tt;
  deep = λ e. absurd (cc);
  refused = tt;
}

-- What asking gave from what costs as much.
pub asked_from : (d : Demand) (old mid new : Evaluating) (w : World) (part : Option Part) (result : Result (Option Value) DemandFault) → cost d mid ≡ cost d old
    → AsksIn d mid new w part result
    → AsksIn d old new w part result
asked_from d old mid new w part result same a = record {
  owns = a.owns;
  goes_on = on_going result _ _ (λ p. (p.0, less part p.1)) a.goes_on;
  answers = a.answers;
  nothing = a.nothing;
  deep = a.deep;
  refused = a.refused;
}
  where
    less : (p : Option Part) → IfSome p (λ q. cost d new < cost d mid) → IfSome p (λ q. cost d new < cost d old)
    less None l = tt
    less (Some q) l = subst (λ k. cost d new < k) same l

-- want of memory and too little depth are neither an element that is too large nor a fault of reading
pub not_too_large : (f : DemandFault) (P : ℕ → Type 0) → (f ≡ TooDeep) ⊎ (f ≡ NoMemory) → OnTooLarge f P
not_too_large f P (inl e) = subst (λ z. OnTooLarge z P) (sym e) tt
not_too_large f P (inr e) = subst (λ z. OnTooLarge z P) (sym e) tt

pub not_failed : (f : DemandFault) → (f ≡ TooDeep) ⊎ (f ≡ NoMemory) → f ≡ ReadFault → ⊥
not_failed f (inl e) g = let both : TooDeep ≡ ReadFault = sym e ∙ g in absurd (cc)
not_failed f (inr e) g = let both : NoMemory ≡ ReadFault = sym e ∙ g in absurd (cc)

-- What asking for a part gave is a step.
pub asked_steps : (d : Demand) (old new : Evaluating) (w : World) (part : Part) (result : Result (Option Value) DemandFault)
    → AsksIn d old new w (Some part) result → Stepped d old new w w result
asked_steps d old new w part (Ok None) a = record {
  owns = a.owns;
  goes_on = a.goes_on;
  answers = tt;
  deep = λ e. absurd (cc);
  too_large = tt;
  failed = λ e. absurd (cc);
}
asked_steps d old new w part (Ok (Some v)) a = record {
  owns = a.owns;
  goes_on = tt;
  answers = a.answers;
  deep = λ e. absurd (cc);
  too_large = tt;
  failed = λ e. absurd (cc);
}
asked_steps d old new w part (Err f) a = record {
  owns = a.owns;
  goes_on = tt;
  answers = tt;
  deep = a.deep;
  too_large = not_too_large f _ a.refused;
  failed = λ g. absurd (not_failed f a.refused (let same : f ≡ ReadFault = cc in same));
}

-- ---- what a call leaves

-- What moving a task on leaves of the known contexts.
pub record EntersWay (T : Table) (old new : List Context) (x : Task) : Type 0 where
  pub keeps : KeepsKnown old new
  pub contexts : IsOneForOne old → IsOneForOne new
  pub entered : (c : Context) → In c new → In c old ⊎ In c (passed_contexts T (suc x.node) (plain_task old x))

-- A task is asked for, of what is seen so, and moved on.
module _ (o old : Evaluating) (view : o ≡ old) (part : Option Part) (x : Task) (known : List Context) (way : EntersWay o.engine.table o.engine.known known x)
    (i : DemandIn)
    (may : MayAskNow i.demand old i.world part x) where
  abbrev after : List (Option TaskRow) → Evaluating
  after rs = record { engine = record o.engine { known = known }; rows = rs }

  abbrev n : ℕ
  n = suc (rank (table_of i.demand) (plain_task o.engine.known x))

  may_here : MayAskNow i.demand o i.world part x
  may_here = subst (λ z. MayAskNow i.demand z i.world part x) (sym view) may

  same_table : o.engine.table ≡ table_of i.demand
  same_table = may_here.owns.since.goes_on.table

  may_after : MayAskNow i.demand (after o.rows) i.world part x
  may_after = may_ask_on_way i.demand o i.world part x n may_here known way.keeps (way.contexts may_here.owns.contexts)
      (subst (λ T. (c : Context) → In c known → In c o.engine.known ⊎ In c (passed_contexts T (suc x.node) (plain_task o.engine.known x))) same_table
      way.entered)

  same_cost : cost i.demand (after o.rows) ≡ cost i.demand old
  same_cost = costs_grown i.demand o i.world part x n may_here known way.keeps ∙ ap (cost i.demand) view

  -- It is refused for want of memory.
  pub ask_refused : (rs : List (Option TaskRow)) (res : Result (Option Value) DemandFault) → res ≡ Err NoMemory
      → AsksIn i.demand old (after rs) i.world part res
  ask_refused rs res is = subst (λ r. AsksIn i.demand old (after rs) i.world part r) (sym is)
      (asked_refused i.demand old (after o.rows) i.world part x n may_after same_cost rs)

  module _ (y : Task) (ends : plain_task known y ≡ passed o.engine.table (plain_task o.engine.known x)) (tag : IsKnown known y.tag) where
    last : plain_task known y ≡ passed (table_of i.demand) (plain_task known x)
    last = subst (λ T. plain_task known y ≡ passed T (plain_task o.engine.known x)) same_table ends
        ∙ ap (passed (table_of i.demand)) (sym (task_as_tags_grow o.engine.known known x way.keeps may_here.tag))

    may_last : MayAskNow i.demand (after o.rows) i.world part y
    may_last = may_ask_moved i.demand (after o.rows) i.world part x may_after y last tag

    abbrev m : ℕ
    m = suc (rank (table_of i.demand) (plain_task known y))

    -- The constant that is left of it is given.
    pub ask_given : (rs : List (Option TaskRow)) (v : Value) → IsConstant o.engine.table (plain_task known y) (plain v) → rows.Gives o.rows rs part v
        → (r : Option Value) → r ≡ rows.returned part v
        → AsksIn i.demand old (after rs) i.world part (Ok r)
    ask_given rs v constant gives r told = subst (λ z. AsksIn i.demand old (after rs) i.world part (Ok z)) (sym told)
        (asked_given i.demand old (after o.rows) i.world part y m may_last same_cost rs v
        (λ b z. constant-answers i.demand b (holding (after o.rows).engine) o.engine.stored.lost (plain_task known y) (plain v)
        (subst (λ T. IsConstant T (plain_task known y) (plain v)) same_table constant)) gives)

    -- The reference that is left of it is asked for.
    pub ask_referred : (new : Evaluating) (res : Result (Option Value) DemandFault)
        → (MayRefer i.demand (after o.rows) i.world part y → AsksIn i.demand (after o.rows) new i.world part res)
        → AsksIn i.demand old new i.world part res
    ask_referred new res asks = asked_from i.demand old (after o.rows) new i.world part res same_cost
        (asks (refers_now i.demand (after o.rows) i.world part y may_last))

    -- The operator that is left of it is asked for.
    pub ask_operated : (new : Evaluating) (res : Result (Option Value) DemandFault)
        → (MayHaveRow i.demand (after o.rows) i.world part y y None → AsksIn i.demand (after o.rows) new i.world part res)
        → AsksIn i.demand old new i.world part res
    ask_operated new res asks = asked_from i.demand old (after o.rows) new i.world part res same_cost (asks (record {
      least = m;
      may = may_last;
      stands = stands-itself (table_of i.demand) (plain_task known y);
      still = moved_is_still i.demand (after o.rows) i.world part x may_after y last tag;
      lower = omega arith;
      tag = tag;
      key_tag = tt;
      wanted = may_last.wanted;
      remembers = λ b z. tt;
    }))

    -- Any other task has a row.
    pub ask_asked : (rs : List (Option TaskRow)) (slot : ℕ) → rows.IsPast o.rows slot → rows.Asks o.rows rs part slot y None → (r : Option Value) → r ≡ None
        → AsksIn i.demand old (after rs) i.world part (Ok r)
    ask_asked rs slot past asks r stays = subst (λ z. AsksIn i.demand old (after rs) i.world part (Ok z)) (sym stays)
        (asked_row i.demand old (after o.rows) i.world part y m may_last same_cost rs slot y None (stands-itself (table_of i.demand) (plain_task known y))
        (moved_is_still i.demand (after o.rows) i.world part x may_after y last tag) (omega arith) tag tt may_last.wanted (λ b z k e. absurd (cc)) past asks)

-- ---- what is set

-- an engine of which only these are others than another's
pub only_set : (a b : EngineView) (known : List Context) (stored : Stored) (noted : Noted) → a ≡ record b { known = known; stored = stored; noted = noted }
    → a ≡ record b { known = a.known; stored = a.stored; noted = a.noted }
only_set a b known stored noted e = e ∙ sym (λ i. record b { known = (e i).known; stored = (e i).stored; noted = (e i).noted })

-- the same where more contexts are known of what is seen so
pub only_known : (o old : Evaluating) (view : o ≡ old) (known : List Context)
    → record o.engine { known = known } ≡ record old.engine { known = known; stored = o.engine.stored; noted = o.engine.noted }
only_known o old view known = only_set (record o.engine { known = known }) old.engine known old.engine.stored old.engine.noted
    (ap (λ (e : Evaluating). record e.engine { known = known }) view)

-- What is given or asked for a part is set of its row, and no more.
module _ (old new : Evaluating) (inner : List (Option TaskRow)) (same : inner ≡ old.rows)
    (only : new.engine ≡ record old.engine { known = new.engine.known; stored = new.engine.stored; noted = new.engine.noted })
    (keeps : KeepsKnown old.engine.known new.engine.known) where
  pub given_sets : (part : Option Part) (v : Value) → rows.Gives inner new.rows part v → IfSome part (SetsPart old new)
  given_sets None v gives = tt
  given_sets (Some part) v gives = record {
    state = Got v;
    row = changed_row old.rows new.rows part.slot (rows.with_part part.index (Got v)) (subst (λ rs. rows.Gives rs new.rows (Some part) v) same gives);
    others = λ q there ne.
        gives q ∙ at_another q part.slot (option_map (rows.with_part part.index (Got v)) (row_at inner q)) (row_at inner q) ne ∙ ap (λ rs. row_at rs q) same;
    only = only;
    keeps = keeps;
  }

  pub asked_sets : (part : Option Part) (slot : ℕ) (y : Task) (key : Option Key) → IfSome part (rows.IsIdlePart old.rows) → rows.IsPast inner slot
      → rows.Asks inner new.rows part slot y key → IfSome part (SetsPart old new)
  asked_sets None slot y key there past asks = tt
  asked_sets (Some part) slot y key there past asks = record {
    state = rows.Asked slot;
    row =
        let low : part.slot < slot = past part.slot (subst (λ rs. rows.IsRow rs part.slot) (sym same) there.row) in
        asks part.slot ∙ at_another part.slot slot (Some (rows.fresh y (Some part) key)) _ (λ e. absurd (omega (arith, low, e)))
        ∙ at_it part.slot part.slot (option_map (rows.with_part part.index (rows.Asked slot)) (row_at inner part.slot)) (row_at inner part.slot) refl
        ∙ ap (λ rs. option_map (rows.with_part part.index (rows.Asked slot)) (row_at rs part.slot)) same;
    others = λ q there ne.
        asks q ∙ at_another q slot (Some (rows.fresh y (Some part) key)) _
        (λ e. let low = past q (subst (λ rs. rows.IsRow rs q) (sym same) there) in absurd (omega (arith, low, e)))
        ∙ at_another q part.slot (option_map (rows.with_part part.index (rows.Asked slot)) (row_at inner q)) (row_at inner q) ne
        ∙ ap (λ rs. row_at rs q) same;
    only = only;
    keeps = keeps;
  }

-- The rows are those that they were, and of the engine no more is another than what is known, held and noted.
pub record Passes (old now : Evaluating) : Type 0 where
  pub rows_stay : now.rows ≡ old.rows
  pub only : now.engine ≡ record old.engine { known = now.engine.known; stored = now.engine.stored; noted = now.engine.noted }
  pub keeps : KeepsKnown old.engine.known now.engine.known

pub passes_then : (old mid new : Evaluating) → Passes old mid → Passes mid new → Passes old new
passes_then old mid new p q = record {
  rows_stay = q.rows_stay ∙ p.rows_stay;
  only = q.only ∙ ap (λ (e : EngineView). record e { known = new.engine.known; stored = new.engine.stored; noted = new.engine.noted }) p.only;
  keeps = record {
    known = λ tag h. q.keeps.known tag (p.keeps.known tag h);
    same = λ tag h. q.keeps.same tag (p.keeps.known tag h) ∙ p.keeps.same tag h;
  };
}

-- Only more contexts are known.
pub passes_known : (old now : Evaluating) → now.rows ≡ old.rows → now.engine ≡ record old.engine { known = now.engine.known }
    → KeepsKnown old.engine.known now.engine.known → Passes old now
passes_known old now same only keeps = record {
  rows_stay = same;
  only = only_set now.engine old.engine now.engine.known old.engine.stored old.engine.noted only;
  keeps = keeps;
}

-- What is set of a part then was set.
pub sets_then : (old mid new : Evaluating) → Passes old mid → (part : Option Part) → IfSome part (SetsPart mid new) → IfSome part (SetsPart old new)
sets_then old mid new p None s = tt
sets_then old mid new p (Some part) s = record {
  state = s.state;
  row = s.row ∙ ap (λ rs. option_map (rows.with_part part.index s.state) (row_at rs part.slot)) p.rows_stay;
  others = λ q there ne. s.others q (subst (λ rs. rows.IsRow rs q) (sym p.rows_stay) there) ne ∙ ap (λ rs. row_at rs q) p.rows_stay;
  only = s.only ∙ ap (λ (e : EngineView). record e { known = new.engine.known; stored = new.engine.stored; noted = new.engine.noted }) p.only;
  keeps = record {
    known = λ tag h. s.keeps.known tag (p.keeps.known tag h);
    same = λ tag h. s.keeps.same tag (p.keeps.known tag h) ∙ p.keeps.same tag h;
  };
}

-- Where the asking is for a part, there is no answer yet: what was there stays,
pub open_still : (part : Option Part) (a : Option Value) → a ≡ None → IfSome part (λ p. a ≡ None)
open_still None a e = tt
open_still (Some p) a e = e

-- and what is given is the part's.
pub open_given : (part : Option Part) (v : Value) (a : Option Value) → a ≡ rows.returned part v → IfSome part (λ p. a ≡ None)
open_given None v a e = tt
open_given (Some p) v a e = e

-- An idle part is one where the rows are seen so.
pub idle_seen : (o now : Evaluating) (part : Option Part) → o ≡ now → IfSome part (rows.IsIdlePart now.rows) → IfSome part (rows.IsIdlePart o.rows)
idle_seen o now part view idle = subst (λ (e : Evaluating). IfSome part (rows.IsIdlePart e.rows)) (sym view) idle

-- What a task moves on to can be asked for where that can.
pub can_ask_last : (o old : Evaluating) (view : o ≡ old) (part : Option Part) (x : Task) → CanAsk old part x → (known : List Context) (y : Task)
    → y.node < length o.engine.table.nodes → IsKnown known y.tag
    → CanAsk (record { engine = record o.engine { known = known }; rows = o.rows }) part y
can_ask_last o old view part x can known y there tag = record { part_idle = idle_seen o old part view can.part_idle; there = there; known = tag }

-- a refusal says nothing of what is done where there is none
pub no_ok : {A E : Type 0} (r : Result A E) (Q : E → Type 0) (P : Type 0) → IsErrAnd r Q → OnOk r P
no_ok (Ok v) Q P h = absurd h
no_ok (Err e) Q P h = tt

-- what follows from what is so where nothing is refused
pub on_ok : {A E : Type 0} (r : Result A E) (P Q : Type 0) → (P → Q) → OnOk r P → OnOk r Q
on_ok (Ok v) P Q f p = f p
on_ok (Err e) P Q f p = tt

-- What was set once a task had moved on was set.
pub last_sets : (o old : Evaluating) (view : o ≡ old) (known : List Context) → KeepsKnown o.engine.known known → (new : Evaluating) (part : Option Part)
    → IfSome part (SetsPart (record { engine = record o.engine { known = known }; rows = o.rows }) new) → IfSome part (SetsPart old new)
last_sets o old view known keeps new None sets = tt
last_sets o old view known keeps new (Some part) sets = subst (λ z. SetsPart z new part) view (record {
  state = sets.state;
  row = sets.row;
  others = sets.others;
  only = sets.only;
  keeps = record { known = λ tag k. sets.keeps.known tag (keeps.known tag k); same = λ tag k. sets.keeps.same tag (keeps.known tag k) ∙ keeps.same tag k };
})
