-- An operator's row asks for its arguments one after another.
use Rattle.lucid_demand.proofs.Common.{cases_lt, ℕ, zero, suc, ◌+◌, inl, inr, List, [], ◌∷◌, Option, None, refl, sym, ap, ◌∙◌, subst, arith, Bor, is_some, option_copied, IsSome, IsTrue, slice_get, slice_index_or, option_and_then, list_all, same_Some, Value, PlainValue, plain, Op, arity, IsKnown, KeepsKnown, Task, TaskRow, Idle, Got, got_of, is_ready, World, Node, Table, idle, state_at, plain_task, plain_row, IsPart, EngineView, Demand, Waits, Evaluating, Stepped, cost, DemandIn, MayAct, value_of, argument_by, CanAsk, CanAskAll, SetsPart, HoldsNothing, MayAskNow, AsksIn, DemandFault, le_refl}
use Rattle.std.proofs.Common.{◌≡◌, ◌<◌, ◌≤◌, ◌⊎◌, length, Some, true, false}
use Rattle.std.specs.Prelude.{Result, Ok, Err, option_map}
use Rattle.lucid_tasks.specs.Rows as rows
use Rattle.lucid_tasks.specs.Rows.{row_at, state_of, IsRow, Asked}
use Rattle.lucid_equations.specs.Rows as table
use Rattle.lucid_equations.specs.declared.rows.Node.TheVariants as node
use Rattle.lucid_equations.specs.Rows.{parts}
use Rattle.lucid_demand_steps.specs.Demands.{table_of}
use Rattle.lucid_demand_steps.proofs.Seeing.{plain_at}
use Rattle.lucid_demand_steps.proofs.Coming.{arguments_may_be_asked}
use Rattle.lucid_demand_steps.specs.Tasks.{plain_state}
use Rattle.lucid_demand_steps.specs.declared.decision.Decision.TheVariants as decision
use Rattle.lucid_demand_steps.proofs.OperatorParts.{operator_node, operator_part}
use Rattle.lucid_demand.proofs.SettledRows.{ready_is_there, argument_value}
use Rattle.lucid_demand.proofs.Beginning.{stepped_from_less}
use Rattle.lucid_demand.proofs.AskedParts.{asked_steps}
use Rattle.lucid_demand.proofs.MayAsk.{part_may_be_asked}
use Rattle.lucid_demand.proofs.TakenParts.{other_part}
use Rattle.lucid_demand.proofs.GoneRows.{goes_on_step}

-- a part that is free and has no value is idle
free_idle : (s : rows.PartState) → rows.is_free s ≡ true → rows.got_value s ≡ None → s ≡ Idle
free_idle Idle f n = refl
free_idle (Asked slot) f n = absurd (cc)
free_idle (Got v) f n = absurd (cc)

-- each part of a ready row is free
free_at : (ps : List rows.PartState) (i : ℕ) → list_all rows.is_free ps ≡ true → rows.is_free (slice_index_or ps i Idle) ≡ true
free_at [] i h = refl
free_at (Idle ∷ ps) zero h = refl
free_at (Idle ∷ ps) (suc i) h = free_at ps i h
free_at (Asked s ∷ ps) i h = absurd (cc)
free_at (Got v ∷ ps) zero h = refl
free_at (Got v ∷ ps) (suc i) h = free_at ps i h

absent : (o : Option PlainValue) → o ≡ None → IsSome o → ⊥
absent None e h = absurd (cc)
absent (Some v) e h = absurd (cc)

-- where an argument has no value, its part has none
no_value : (T : Table) (o : Option Node) (p : Option Value) → argument_by T o (option_map plain p) ≡ None → p ≡ None
no_value T o None h = refl
no_value T o (Some v) h = absurd (cc)

-- In a demand the rows wait on, and some part was asked or given, or nothing was done and each argument before this one has a value.
pub record AskedIn (d : Demand) (old now : Evaluating) (w : World) (slot : ℕ) (args : List ℕ) (index : ℕ) : Type 0 where
  pub waits : Waits d now.engine w now.rows
  pub nothing : HoldsNothing d now.engine
  pub some : (cost d now < cost d old) ⊎ ((now ≡ old) × ((i n : ℕ) → i < index → slice_get args i ≡ Some n → IsSome (value_of old slot i n)))

-- The parts before this one were asked, given or had; from it on they are as they were.
pub record AskedBelow (old now : Evaluating) (slot : ℕ) (op : Op) (args : List ℕ) (task : Task) (index : ℕ) : Type 0 where
  pub row : TaskRow
  pub there : row_at now.rows slot ≡ Some row
  pub first : TaskRow
  pub first_there : row_at old.rows slot ≡ Some first
  pub is_task : first.task ≡ task
  pub same_task : row.task ≡ first.task
  pub rest : (i : ℕ) → index ≤ i → rows.state_at i row ≡ rows.state_at i first
  pub only : now.engine ≡ record old.engine { known = now.engine.known; stored = now.engine.stored; noted = now.engine.noted }
  pub keeps : KeepsKnown old.engine.known now.engine.known
  pub in_demand : (i : DemandIn) → MayAct i.demand old i.world slot (decision.AskAll op args) → AskedIn i.demand old now i.world slot args index

-- before the first part
pub asks_begin : (old : Evaluating) (slot : ℕ) (op : Op) (args : List ℕ) (task : Task) → IsTrue (is_ready (row_at old.rows slot))
    → option_map (λ row. row.task) (row_at old.rows slot) ≡ Some task
    → AskedBelow old old slot op args task 0
asks_begin old slot op args task ready told = record {
  row = its.0;
  there = its.1;
  first = its.0;
  first_there = its.1;
  is_task = (let both : Some its.0.task ≡ Some task = sym (ap (option_map (λ (row : TaskRow). row.task)) its.1) ∙ told in cc);
  same_task = refl;
  rest = λ i l. refl;
  only = refl;
  keeps = record { known = λ tag k. k; same = λ tag k. refl };
  in_demand = λ i act. record { waits = act.step.waits; nothing = act.step.emptied.nothing; some = inr (refl, λ k n l e. absurd (omega (arith, l))) };
}
  where
    its : (r : TaskRow) × (row_at old.rows slot ≡ Some r)
    its = ready_is_there old.rows slot ready

module _ (old now : Evaluating) (slot : ℕ) (op : Op) (args : List ℕ) (task : Task) (index : ℕ) (b : AskedBelow old now slot op args task index)
    (ready : IsTrue (is_ready (row_at old.rows slot))) where
  -- the row is there
  pub asking_row : IsRow now.rows slot
  asking_row = subst (λ o. IsSome o) (sym b.there) refl

  first_free : list_all rows.is_free b.first.parts ≡ true
  first_free = subst (λ o. IsTrue (is_ready o)) b.first_there ready

  -- the argument is one of the table's nodes
  pub argument_node : (n : ℕ) → CanAskAll old slot op args → index < arity op → slice_get args index ≡ Some n → n < length now.engine.table.nodes
  argument_node n can low arg = subst (λ (e : EngineView). n < length e.table.nodes) (sym b.only) (can.there index n low arg)

  -- an argument that has a value
  pub argument_is_there : (n : ℕ) → slice_get args index ≡ Some n → IsSome (value_of now slot index n) → AskedBelow old now slot op args task (index + 1)
  argument_is_there n arg there = record {
    row = b.row;
    there = b.there;
    first = b.first;
    first_there = b.first_there;
    is_task = b.is_task;
    same_task = b.same_task;
    rest = λ i l. b.rest i (omega (arith, l));
    only = b.only;
    keeps = b.keeps;
    in_demand = λ i act. on i act (b.in_demand i act);
  }
    where
      below : now ≡ old → ((i m : ℕ) → i < index → slice_get args i ≡ Some m → IsSome (value_of old slot i m)) → (i m : ℕ) → i < index + 1
          → slice_get args i ≡ Some m → IsSome (value_of old slot i m)
      below same f i m l e = by (cases_lt i index)
        where
          by : (i < index) ⊎ (index ≤ i) → IsSome (value_of old slot i m)
          by (inl lt) = f i m lt e
          by (inr le) =
              let it : index ≡ i = omega (arith, l, le) in
              let its : n ≡ m = same_Some n m (sym arg ∙ ap (slice_get args) it ∙ e) in
              subst (λ k. IsSome (value_of old slot i k)) its
              (subst (λ k. IsSome (value_of old slot k n)) it (subst (λ z. IsSome (value_of z slot index n)) same there))

      on : (i : DemandIn) → MayAct i.demand old i.world slot (decision.AskAll op args) → AskedIn i.demand old now i.world slot args index
          → AskedIn i.demand old now i.world slot args (index + 1)
      on i act a = record { waits = a.waits; nothing = a.nothing; some = elim a.some [ inl less ↦ inl less | inr same ↦ inr (same.0, below same.0 same.1) ] }

  -- The part of an argument that has no value is idle, and may be asked.
  module _ (n : ℕ) (none : value_of now slot index n ≡ None) where
    part_is_free : rows.state_at index b.row ≡ Idle
    part_is_free = free_idle (rows.state_at index b.row)
        (subst (λ s. rows.is_free s ≡ true) (sym (b.rest index (le_refl index))) (free_at b.first.parts index first_free))
        (sym (ap (λ o. option_and_then rows.got_value (option_map (rows.state_at index) o)) b.there)
        ∙ no_value now.engine.table (table.row_at now.engine.table n) (got_of now.rows (record { slot = slot; index = index })) none)

    pub part_is_idle : state_of now.rows (record { slot = slot; index = index }) ≡ Some Idle
    part_is_idle = ap (option_map (rows.state_at index)) b.there ∙ ap Some part_is_free

    pub can_ask_argument : CanAskAll old slot op args → index < arity op → arity op ≤ 3 → slice_get args index ≡ Some n
        → CanAsk now (Some (record { slot = slot; index = index })) (record task { node = n })
    can_ask_argument can low few arg = record {
      part_idle = record { row = asking_row; index = omega (arith, low, few); idle = part_is_idle };
      there = argument_node n can low arg;
      known = b.keeps.known task.tag (subst (λ (x : Task). IsKnown old.engine.known x.tag) b.is_task (can.known b.first b.first_there));
    }

    module _ (low : index < arity op) (few : arity op ≤ 3) (arg : slice_get args index ≡ Some n) (i : DemandIn)
        (act : MayAct i.demand old i.world slot (decision.AskAll op args)) where
      plain_free : state_at (plain_row now.engine.known b.row).parts index ≡ idle
      plain_free = plain_at b.row.parts index ∙ ap plain_state part_is_free

      operator : table.row_at (table_of i.demand) b.row.task.node ≡ Some (node.Apply op args)
      operator = subst (λ (x : Task). table.row_at (table_of i.demand) x.node ≡ Some (node.Apply op args)) (sym b.same_task)
          ((act.justified b.first b.first_there).0)

      -- The argument may be asked for.
      pub may_ask_argument : MayAskNow i.demand now i.world (Some (record { slot = slot; index = index })) (record task { node = n })
      may_ask_argument =
          part_may_be_asked i.demand now i.world act.step.demand (b.in_demand i act).waits (b.in_demand i act).nothing (record { slot = slot; index = index })
          b.row b.there (record task { node = n }) (
            arguments_may_be_asked (table_of i.demand) (plain_row now.engine.known b.row) op (arity op)
                (operator_node (table_of i.demand) b.row.task.node op args act.step.demand.in_range operator).0 index
                (operator_node (table_of i.demand) b.row.task.node op args act.step.demand.in_range operator).1 low few plain_free,
            subst (λ (x : Task). IsPart (table_of i.demand) (plain_row now.engine.known b.row) index (plain_task now.engine.known (record x { node = n })))
                (b.same_task ∙ b.is_task)
                (operator_part (table_of i.demand) (plain_row now.engine.known b.row) op args index n act.step.demand.in_range operator low arg),
            subst (λ (x : Task). IsKnown now.engine.known x.tag) (b.same_task ∙ b.is_task) (((b.in_demand i act).waits.known slot b.row b.there).task),
          )

    -- The part was asked or given: the next may be.
    pub part_is_next : (new : Evaluating) → SetsPart now new (record { slot = slot; index = index }) → index < arity op → arity op ≤ 3
        → slice_get args index ≡ Some n
        → (result : Result (Option Value) DemandFault) → result ≡ Ok None
        → ((i : DemandIn) → MayAskNow i.demand now i.world (Some (record { slot = slot; index = index })) (record task { node = n })
        → AsksIn i.demand now new i.world (Some (record { slot = slot; index = index })) result)
        → AskedBelow old new slot op args task (index + 1)
    part_is_next new sets low few arg result ok goes = record {
      row = rows.with_part index sets.state b.row;
      there = sets.row ∙ ap (option_map (rows.with_part index sets.state)) b.there;
      first = b.first;
      first_there = b.first_there;
      is_task = b.is_task;
      same_task = b.same_task;
      rest = λ i l. other_part b.row.parts index i sets.state (λ e. absurd (omega (arith, e, l))) ∙ b.rest i (omega (arith, l));
      only = sets.only ∙ ap (λ (e : EngineView). record e { known = new.engine.known; stored = new.engine.stored; noted = new.engine.noted }) b.only;
      keeps = record {
        known = λ tag k. sets.keeps.known tag (b.keeps.known tag k);
        same = λ tag k. sets.keeps.same tag (b.keeps.known tag k) ∙ b.keeps.same tag k;
      };
      in_demand = λ i act. on i (subst (λ z. AsksIn i.demand now new i.world (Some (record { slot = slot; index = index })) z) ok
          (goes i (may_ask_argument low few arg i act))) (b.in_demand i act);
    }
      where
        on : (i : DemandIn) → AsksIn i.demand now new i.world (Some (record { slot = slot; index = index })) (Ok None)
            → AskedIn i.demand old now i.world slot args index → AskedIn i.demand old new i.world slot args (index + 1)
        on i asked its = record { waits = asked.goes_on.0; nothing = asked.nothing; some = inl (less its.some) }
          where
            less : (cost i.demand now < cost i.demand old)
                ⊎ ((now ≡ old) × ((k m : ℕ) → k < index → slice_get args k ≡ Some m → IsSome (value_of old slot k m))) → cost i.demand new < cost i.demand old
            less (inl l) = omega (arith, l, asked.goes_on.1)
            less (inr same) = subst (λ e. cost i.demand new < cost i.demand e) same.0 asked.goes_on.1

    -- It is refused.
    pub asks_refused : (new : Evaluating) → index < arity op → arity op ≤ 3 → slice_get args index ≡ Some n → (f : DemandFault)
        → ((i : DemandIn) → MayAskNow i.demand now i.world (Some (record { slot = slot; index = index })) (record task { node = n })
        → AsksIn i.demand now new i.world (Some (record { slot = slot; index = index })) (Err f))
        → (i : DemandIn) → MayAct i.demand old i.world slot (decision.AskAll op args) → Stepped i.demand old new i.world i.world (Err f)
    asks_refused new low few arg f asks i act =
        stepped_from_less i.demand old now new i.world i.world (Err f) (no_more (b.in_demand i act).some)
        (asked_steps i.demand now new i.world (record { slot = slot; index = index }) (Err f) (asks i (may_ask_argument low few arg i act)))
      where
        no_more : (cost i.demand now < cost i.demand old) ⊎ ((now ≡ old) × ((k m : ℕ) → k < index → slice_get args k ≡ Some m → IsSome (value_of old slot k m)))
            → cost i.demand now ≤ cost i.demand old
        no_more (inl l) = omega (arith, l)
        no_more (inr same) = subst (λ e. cost i.demand now ≤ cost i.demand e) same.0 (le_refl (cost i.demand now))

  -- After the last part some was asked or given, since one argument had no value.
  pub asks_end : arity op ≤ index → (i : DemandIn) → MayAct i.demand old i.world slot (decision.AskAll op args)
      → Stepped i.demand old now i.world i.world (Ok None)
  asks_end all i act = goes_on_step i.demand old now i.world a.waits (elim a.some [ inl less ↦ less | inr same ↦ absurd (one_had_none same.1) ])
    where
      a : AskedIn i.demand old now i.world slot args index
      a = b.in_demand i act

      one_had_none : ((k n : ℕ) → k < index → slice_get args k ≡ Some n → IsSome (value_of old slot k n)) → ⊥
      one_had_none f =
          let j = (act.justified b.first b.first_there).1 in
          let low : j.0 < arity op = j.1 in
          let none : value_of old slot j.0 j.2.0 ≡ None = sym (argument_value i.demand old i.world slot act.step b.first b.first_there j.0 j.2.0) ∙ j.2.2 in
          absent (value_of old slot j.0 j.2.0) none (f j.0 j.2.0 (omega (arith, low, all)) j.2.1)

-- What is told of an argument's value: there is none,
pub told_none : (now : Evaluating) (slot index n : ℕ) (r : Option (Bor Value)) → option_map plain (option_copied r) ≡ value_of now slot index n
    → is_some r ≡ false → value_of now slot index n ≡ None
told_none now slot index n None e h = sym e
told_none now slot index n (Some v) e h = absurd (cc)

-- or there is one.
pub told_some : (now : Evaluating) (slot index n : ℕ) (r : Option (Bor Value)) → option_map plain (option_copied r) ≡ value_of now slot index n
    → is_some r ≡ true → IsSome (value_of now slot index n)
told_some now slot index n None e h = absurd (cc)
told_some now slot index n (Some v) e h = subst (λ o. IsSome o) e refl
