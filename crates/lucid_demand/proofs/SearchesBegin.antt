-- Where a ready row stands may be noted, and it may begin at a noted position.
use Rattle.lucid_demand.proofs.Common.{ℕ, List, Option, None, refl, sym, ap, ◌∙◌, subst, arith, IsTrue, is_some, option_and_then, none-some, plain, Elements, Noted, Cursor, Task, TaskRow, got_of, is_ready, row, Node, Table, waits_for_none, value_of_part, plain_row, known_elements, holding, MayHave, RowFacts, Owns, Waits, plain_ready, plain_got, plain_of_row, changed_there, cost_of, Evaluating, MayStep, cost, DemandIn}
use Rattle.std.proofs.Common.{◌≡◌, ◌≤◌, true, false, Some}
use Rattle.std.specs.Prelude.{option_map}
use Rattle.lucid_tree.specs.Rests.{CanStandAt}
use Rattle.lucid_search.specs.Noted.{IsBest, NotesOrMisses}
use Rattle.lucid_tasks.specs.Rows as rows
use Rattle.lucid_tasks.specs.Rows.{row_at}
use Rattle.lucid_equations.specs.Rows.{node_at, node_by}
use Rattle.lucid_demand_steps.specs.Tasks.{all_idle}
use Rattle.lucid_demand_steps.specs.Demands.{table_of}
use Rattle.lucid_demand_steps.specs.Changes.{at_cursor}
use Rattle.lucid_demand_steps.proofs.Idling.{search-is_all_idle}
use Rattle.lucid_demand_steps.proofs.Searching.{begun-facts}
use Rattle.lucid_demand_steps.proofs.Owning.{owns_notes}
use Rattle.lucid_demand_steps.proofs.Acting.{begins_goes_on}
use Rattle.lucid_demand_steps.specs.Searches.{search_for, noted_of, greatest_key}
use Rattle.lucid_demand_steps.specs.declared.searches.Search.{Search}
use Rattle.lucid_demand_steps.proofs.SearchForms.{SearchesBy, searches_by}
use Rattle.lucid_demand.specs.Searching.{StandsFirst}
use Rattle.lucid_demand.proofs.SettledRows.{ready_is_there}

-- A ready row of a node that searches.
module _ (i : DemandIn) (e : Evaluating) (slot : ℕ) (step : MayStep i.demand e i.world slot) (r : TaskRow) (at : row_at e.rows slot ≡ Some r) (n : Node)
    (node : node_at e.engine.table r.task.node ≡ node_by e.engine.table n) (s : Search) (is : search_for n r.task.time ≡ Some s) where
  by : SearchesBy (table_of i.demand) n r.task.time s
  by = searches_by (table_of i.demand) n r.task.time s is

  form_is : node_at (table_of i.demand) r.task.node ≡ row by.form by.nodes
  form_is = subst (λ (T : Table). node_at T r.task.node ≡ node_by T n) step.waits.going.owns.since.goes_on.table node ∙ by.is

  facts : (b : Elements) → MayHave e.engine b → RowFacts i.demand b (holding e.engine) e.engine.stored.lost (plain_row e.engine.known r)
  facts b m = step.waits.going.work.each slot (plain_row e.engine.known r) (plain_of_row e.engine.known e.rows slot r at) b m

  -- Where it stands is noted: what is owned stays right.
  owns_here : (noted : Noted) → NotesOrMisses e.engine.noted noted r.task.node r.task.tag (noted_of s r.cursor).0 (noted_of s r.cursor).1
      → Owns i.demand (record e.engine { noted = noted }) i.world
  owns_here noted notes =
      owns_notes i.demand e.engine i.world step.waits.going.owns step.demand noted (plain_row e.engine.known r) r.task.tag by.form by.nodes facts form_is
      by.search
      (step.waits.known slot r at).task refl refl
      (subst (λ (p : ℕ × ℕ). NotesOrMisses e.engine.noted noted r.task.node r.task.tag p.0 p.1) (by.pair r.cursor) notes)

  -- It begins at a noted position where nothing of it was asked or got.
  module _ (c : Cursor) (best : IsBest e.engine.noted r.task.node r.task.tag (greatest_key s) (noted_of s c)) (at_start : r.cursor.time ≡ 0)
      (no_subject : got_of e.rows (record { slot = slot; index = 0 }) ≡ None) (no_stream : got_of e.rows (record { slot = slot; index = 1 }) ≡ None) where
    not_emptying : IsTrue i.demand.first.empties → ⊥
    not_emptying z = none-some ((noted_of s c).1) (sym (step.emptied.unnoted z r.task.node r.task.tag ((noted_of s c).0)) ∙ best.noted)

    facts_there : (b : Elements) → MayHave e.engine b → RowFacts i.demand b (holding e.engine) e.engine.stored.lost (at_cursor c (plain_row e.engine.known r))
    facts_there b m =
        subst (λ z. RowFacts i.demand b (holding e.engine) e.engine.stored.lost (at_cursor z (plain_row e.engine.known r))) (by.back c)
        (begun-facts i.demand b e.engine.known (holding e.engine) e.engine.stored.lost e.engine.noted (plain_row e.engine.known r) by.form by.nodes r.task.tag
        (noted_of s c).0 (noted_of s c).1
        (step.waits.going.owns.stock.stock b m) not_emptying (facts b m) form_is by.search refl refl best.noted
        (subst (λ z. CanStandAt by.form z.time z.count r.task.time) (sym (by.back c)) (by.begins c best.low)))

    ready : waits_for_none (plain_row e.engine.known r) ≡ true
    ready = sym (plain_ready e.engine.known r) ∙ ap is_ready (sym at) ∙ step.ready

    valueless : (index : ℕ) → got_of e.rows (record { slot = slot; index = index }) ≡ None → value_of_part (plain_row e.engine.known r) index ≡ None
    valueless index none =
        sym (ap (λ o. option_and_then (λ p. value_of_part p index) o) (plain_of_row e.engine.known e.rows slot r at))
        ∙ sym (plain_got e.engine.known e.rows slot index) ∙ ap (option_map plain) none

    nothing_got : (plain_row e.engine.known r).parts ≡ all_idle
    nothing_got =
        search-is_all_idle i.demand (known_elements e.engine) (holding e.engine) e.engine.stored.lost (plain_row e.engine.known r) by.form by.nodes
        (facts (known_elements e.engine) (λ name j v h. h))
        form_is by.search ready (valueless 0 no_subject) (valueless 1 no_stream)

    -- It may take its step from there, at no more cost.
    begun : (new : List (Option TaskRow)) → rows.ChangesOnly e.rows new slot (rows.with_cursor c)
        → MayStep i.demand (record { engine = e.engine; rows = new }) i.world slot
        × (cost_of i.demand e.engine.known new ≤ cost_of i.demand e.engine.known e.rows)
    begun new changes = (
      record {
        demand = step.demand;
        waits = both.0;
        emptied = step.emptied;
        within = step.within;
        ready = ap is_ready (changed_there e.rows new slot (rows.with_cursor c) r changes at) ∙ ap is_ready (sym at) ∙ step.ready;
      },
      both.1,
    )
      where
        both : Waits i.demand e.engine i.world new × (cost_of i.demand e.engine.known new ≤ cost_of i.demand e.engine.known e.rows)
        both = begins_goes_on i.demand e.engine i.world e.rows new step.waits slot r c at nothing_got (omega (arith, at_start)) facts_there changes

-- a part without a value, as a call tells
pub no_value : {A B : Type 0} (f : A → B) (o : Option A) (p : Option B) → option_map f o ≡ p → false ≡ is_some o → p ≡ None
no_value f None p e n = sym e
no_value f (Some x) p e n = absurd (cc)

-- a field of the row in a slot
one_field : {A : Type 0} (f : TaskRow → A) (o : Option TaskRow) (r : TaskRow) (x : A) → o ≡ Some r → option_map f o ≡ Some x → x ≡ f r
one_field f o r x at e = let z : Some (f r) ≡ Some x = sym (ap (option_map f) at) ∙ e in cc

-- The same by what each call gives: the row's task, the task's node, its search, and what is noted or found.
module _ (now inside : Evaluating) (slot : ℕ) (task : Task) (n : Node) (s : Search) (same : inside ≡ now)
    (task_is : option_map (λ row. row.task) (row_at inside.rows slot) ≡ Some task)
    (node : node_at inside.engine.table task.node ≡ node_by inside.engine.table n)
    (is : search_for n task.time ≡ Some s) (i : DemandIn) (step : MayStep i.demand now i.world slot) where
  stepping : MayStep i.demand inside i.world slot
  stepping = subst (λ z. MayStep i.demand z i.world slot) (sym same) step

  its : (r : TaskRow) × (row_at inside.rows slot ≡ Some r)
  its = ready_is_there inside.rows slot stepping.ready

  same_task : task ≡ (its.0).task
  same_task = one_field (λ row. row.task) (row_at inside.rows slot) its.0 task its.1 task_is

  its_node : node_at inside.engine.table (its.0).task.node ≡ node_by inside.engine.table n
  its_node = subst (λ (x : Task). node_at inside.engine.table x.node ≡ node_by inside.engine.table n) same_task node

  its_search : search_for n (its.0).task.time ≡ Some s
  its_search = subst (λ (x : Task). search_for n x.time ≡ Some s) same_task is

  pub noted_right : (cursor : Cursor) → option_map (λ row. row.cursor) (row_at inside.rows slot) ≡ Some cursor → (noted : Noted) → NotesOrMisses inside.engine.noted noted task.node task.tag (noted_of s cursor).0 (noted_of s cursor).1
      → Owns i.demand (record inside.engine { noted = noted }) i.world
  noted_right cursor cursor_is noted notes =
      let same_cursor : cursor ≡ (its.0).cursor = one_field (λ row. row.cursor) (row_at inside.rows slot) its.0 cursor its.1 cursor_is in
      owns_here i inside slot stepping its.0 its.1 n its_node s its_search noted
      (subst (λ (c : Cursor). NotesOrMisses inside.engine.noted noted (its.0).task.node (its.0).task.tag (noted_of s c).0 (noted_of s c).1) same_cursor
      (subst (λ (x : Task). NotesOrMisses inside.engine.noted noted x.node x.tag (noted_of s cursor).0 (noted_of s cursor).1) same_task notes))

  pub begun_there : (c : Cursor) (new : List (Option TaskRow)) → IsBest inside.engine.noted task.node task.tag (greatest_key s) (noted_of s c) → StandsFirst now.rows slot
      → got_of inside.rows (record { slot = slot; index = 0 }) ≡ None → got_of inside.rows (record { slot = slot; index = 1 }) ≡ None
      → rows.ChangesOnly inside.rows new slot (rows.with_cursor c)
      → MayStep i.demand (record { engine = inside.engine; rows = new }) i.world slot
      × (cost i.demand (record { engine = inside.engine; rows = new }) ≤ cost i.demand now)
  begun_there c new best start no_subject no_stream changes =
      let both = begun i inside slot stepping its.0 its.1 n its_node s its_search c
      (subst (λ (x : Task). IsBest inside.engine.noted x.node x.tag (greatest_key s) (noted_of s c)) same_task best)
      (start its.0 (subst (λ (z : Evaluating). row_at z.rows slot ≡ Some its.0) same its.1)) no_subject no_stream new changes in
      (both.0, subst (λ z. cost i.demand (record { engine = inside.engine; rows = new }) ≤ cost i.demand z) same both.1)
