-- Each change of the rows that have tags keeps what is true of a demand's loop, and leaves less that can be paid for.
use Rattle.lucid_demand_steps.proofs.Common.{◌≡◌, ℕ, ◌+◌, ◌<◌, ◌≤◌, List, [], Option, Some, None, refl, sym, ap, ◌∙◌, subst, arith, IsTrue, IsSome, IfSome, list_all, length-map, PlainValue, Value, plain, Elements, Context, IsKnown, KeepsKnown, Key, World, Part, Task, Cursor, TaskRow, Extends, PlainTask, PlainRow, DatonAt, idle, got, is_free, state_at, all_idle, key_list, waits_for_none, plain_task, plain_key, plain_state, plain_row, plain_rows, AreRowsKnown, moved, StandsFor, EngineView, known_elements, holding, Demand, table_of, Answers, RowFacts, PartAnswers, IsWanted, Remembers, Serves, Work, with_part, at_cursor, SetsRow, ChangesRow, AsksRow, SettlesRow, AsksFor, MayMove, looked_on, total, Owns}
use Rattle.std.proofs.Common.{Bool, true, false}
use Rattle.std.specs.Prelude.{length, option_map}
use Rattle.lucid_tasks.specs.Rows as rows
use Rattle.lucid_tasks.specs.Rows.{row_at}
use Rattle.lucid_tasks.proofs.RowLemmas.{row_below}
use Rattle.lucid_demand_steps.specs.Going.{Waits}
use Rattle.lucid_demand_steps.proofs.Slots.{at_it}
use Rattle.lucid_demand_steps.proofs.Steps.{changes_is_set}
use Rattle.lucid_demand_steps.proofs.Idling.{search-is_idle}
use Rattle.lucid_demand_steps.proofs.NewRows.{new_row-facts}
use Rattle.lucid_demand_steps.proofs.FirstRow.{work_begins}
use Rattle.lucid_demand_steps.proofs.Searching.{moved-facts}
use Rattle.lucid_demand_steps.proofs.Changing.{plain_asks, plain_gives, plain_settles, plain_begins}
use Rattle.lucid_demand_steps.proofs.Taking.{plain_moves}
use Rattle.lucid_demand_steps.proofs.Listing.{row_of_plain, plain_of_row, plain_past, none_past}
use Rattle.lucid_demand_steps.proofs.Knowing.{known_asks, known_gives, known_settles, known_moves, known_takes, all_rows_as_tags_grow}
use Rattle.lucid_demand_steps.proofs.Falling.{giving_falls, moving_falls, beginning_raises_nothing}
use Rattle.lucid_demand_steps.proofs.Totals.{total_same, total_past, total_asks, total_settles, total_changes, total_begins}
use Rattle.lucid_demand_steps.proofs.Working.{work_moves, ready_is_no_parent}
use Rattle.lucid_demand_steps.proofs.Setting.{past_is_none, work_gives, work_asks}
use Rattle.lucid_demand_steps.proofs.Settling.{work_settles, root_settles}

-- what the rows of a list can still cost
abbrev pub cost_of : Demand → List Context → List (Option TaskRow) → ℕ
cost_of d known rs = total (table_of d) d.root.limit (plain_rows known rs) (length rs)

-- it is that of each number of slots that is past the list
cost_past : (d : Demand) (known : List Context) (rs : List (Option TaskRow)) (n : ℕ) → length rs ≤ n
    → total (table_of d) d.root.limit (plain_rows known rs) n ≡ cost_of d known rs
cost_past d known rs n l = total_past (table_of d) d.root.limit (plain_rows known rs) (length rs) n (none_past known rs) l

-- and stays where more contexts become known
pub cost_as_tags_grow : (d : Demand) (old new : List Context) (rs : List (Option TaskRow)) → KeepsKnown old new → AreRowsKnown old rs
    → cost_of d new rs ≡ cost_of d old rs
cost_as_tags_grow d old new rs keeps known =
    total_same (table_of d) d.root.limit (plain_rows old rs) (plain_rows new rs) (length rs) (λ q l. all_rows_as_tags_grow old new rs keeps known q)

-- The loop's invariant holds of the new rows, which can cost less than the old.
pub record GoesDown (d : Demand) (now : EngineView) (w : World) (old new : List (Option TaskRow)) : Type 0 where
  pub waits : Waits d now w new
  pub less : cost_of d now.known new < cost_of d now.known old

module _ (d : Demand) (now : EngineView) (w : World) (old new : List (Option TaskRow)) (waits : Waits d now w old) where
  -- the facts of a row
  pub facts_of : (slot : ℕ) (r : TaskRow) → row_at old slot ≡ Some r → (b : Elements) → Extends (known_elements now) b
      → RowFacts d b (holding now) now.stored.lost (plain_row now.known r)
  facts_of slot r at = waits.going.work.each slot (plain_row now.known r) (plain_of_row now.known old slot r at)

  facts_now : (slot : ℕ) (r : TaskRow) → row_at old slot ≡ Some r → RowFacts d (known_elements now) (holding now) now.stored.lost (plain_row now.known r)
  facts_now slot r at = facts_of slot r at (known_elements now) (λ n j v e. e)

  onward : Work d (known_elements now) (holding now) now.stored.lost (plain_rows now.known new) → AreRowsKnown now.known new → Waits d now w new
  onward work known = record { going = record { work = work; owns = waits.going.owns }; known = known }

  -- less below every slot that is past both lists is less
  falls : ((n : ℕ) → length old ≤ n → length new ≤ n
      → total (table_of d) d.root.limit (plain_rows now.known new) n < total (table_of d) d.root.limit (plain_rows now.known old)
      n) → cost_of d now.known new < cost_of d now.known old
  falls less =
      let n = length old + length new in
      let was = cost_past d now.known old n (omega arith) in
      let is = cost_past d now.known new n (omega arith) in
      let fall = less n (omega arith) (omega arith) in
      omega (arith, was, is, fall)

  -- a slot that has a row is one of the list's, and the row has three parts
  slot_below : (slot : ℕ) (p : PlainRow) → plain_rows now.known old slot ≡ Some p → slot < length old
  slot_below slot p at = let r = row_of_plain now.known old slot p at in row_below old slot r.0 r.1

  three_parts : (slot : ℕ) (p : PlainRow) → plain_rows now.known old slot ≡ Some p → length p.parts ≡ 3
  three_parts slot p at = (waits.going.work.each slot p at (known_elements now) (λ n j v e. e)).three

  -- a part is asked, by a task that stands for it
  pub asks_goes_down : (part : Part) (slot : ℕ) (parent : PlainRow) (x : Task) (key : Option Key) → plain_rows now.known old part.slot ≡ Some parent
      → state_at parent.parts part.index ≡ idle
      → part.index < 3 → AsksFor (table_of d) parent part.index (plain_task now.known x) (option_map (plain_key now.known) key)
      → IsKnown now.known x.tag → IfSome key (λ k. IsKnown now.known k.tag)
      → ((b : Elements) → Extends (known_elements now) b → IsWanted d b (plain_task now.known x))
      → ((b : Elements) → Extends (known_elements now) b → (k : DatonAt) → option_map (plain_key now.known) key ≡ Some k
      → Remembers d b (plain_task now.known x) k)
      → rows.IsPast old slot → rows.Asks old new (Some part) slot x key → GoesDown d now w old new
  asks_goes_down part slot parent x key there free few asks known key_known wanted remembers past changes = record {
    waits = onward (work_asks d (known_elements now) (holding now) now.stored.lost (plain_rows now.known old) (plain_rows now.known new) part slot parent task
        daton waits.going.work there free few asks
        (λ b z. new_row-facts d b (holding now) now.stored.lost task (Some part) daton (wanted b z) asks.still (remembers b z))
        (plain_past now.known old slot past) plain_changes)
        (known_asks now.known old new (Some part) slot x key known key_known changes waits.known);
    less = falls (λ n l m. total_asks (table_of d) d.root.limit (plain_rows now.known old) (plain_rows now.known new) part slot n parent task daton there
        (past_is_none (plain_rows now.known old) slot (plain_past now.known old slot past)) free
        (subst (λ k. part.index < k) (sym (three_parts part.slot parent there)) few) asks.lower
        ((wanted (known_elements now) (λ a j v e. e)).limit) plain_changes (omega (arith, l, slot_below part.slot parent there))
        (omega (arith, m, row_below new slot (rows.fresh x (Some part) key) new_there)));
  }
    where
      task : PlainTask
      task = plain_task now.known x

      daton : Option DatonAt
      daton = option_map (plain_key now.known) key

      plain_changes : AsksRow (plain_rows now.known old) (plain_rows now.known new) (Some part) slot task daton
      plain_changes = plain_asks now.known old new (Some part) slot x key changes

      new_there : row_at new slot ≡ Some (rows.fresh x (Some part) key)
      new_there = changes slot ∙ at_it slot slot (Some (rows.fresh x (Some part) key)) _ refl

  -- a part gets a value without a row
  pub gives_goes_down : (part : Part) (parent : PlainRow) (v : Value) → plain_rows now.known old part.slot ≡ Some parent
      → state_at parent.parts part.index ≡ idle → part.index < 3
      → ((b : Elements) → Extends (known_elements now) b → PartAnswers d b (holding now) now.stored.lost parent part.index (plain v))
      → rows.Gives old new (Some part) v → GoesDown d now w old new
  gives_goes_down part parent v there free few answers changes = record {
    waits = onward (work_gives d (known_elements now) (holding now) now.stored.lost (plain_rows now.known old) (plain_rows now.known new) part.slot part.index
        parent (plain v)
        waits.going.work there free few answers given) (known_gives now.known old new part.slot part.index v changes waits.known);
    less = falls (λ n l m. total_changes (table_of d) d.root.limit (plain_rows now.known old) (plain_rows now.known new) part.slot n parent
        (with_part part.index (got (plain v)) parent) there
        (giving_falls (table_of d) d.root.limit parent part.index (plain v) free (subst (λ k. part.index < k) (sym (three_parts part.slot parent there)) few))
        (changes_is_set (plain_rows now.known old) (plain_rows now.known new) part.slot (with_part part.index (got (plain v))) parent there given)
        (omega (arith, l, slot_below part.slot parent there)));
  }
    where
      given : ChangesRow (plain_rows now.known old) (plain_rows now.known new) part.slot (with_part part.index (got (plain v)))
      given = plain_gives now.known old new part v changes

  -- a ready row settles for a part of another
  pub settles_goes_down : (slot : ℕ) (r : TaskRow) (part : Part) (v : Value) → row_at old slot ≡ Some r → waits_for_none (plain_row now.known r) ≡ true
      → r.parent ≡ Some part
      → ((b : Elements) → Extends (known_elements now) b → Answers d b (holding now) now.stored.lost (plain_task now.known r.task) (plain v))
      → (IsTrue d.first.keeps → now.stored.lost ≡ 0 → (k : DatonAt) → (plain_row now.known r).key ≡ Some k → IsSome (holding now k.0 k.1))
      → rows.Settles old new slot v → GoesDown d now w old new
  settles_goes_down slot r part v at ready up answers kept changes = record {
    waits = onward (work_settles d (known_elements now) (holding now) now.stored.lost (plain_rows now.known old) (plain_rows now.known new) slot
        (plain_row now.known r) part (plain v)
        waits.going.work there ready up answers kept settled) (known_settles now.known old new slot v changes waits.known);
    less = falls (λ n l m. total_settles (table_of d) d.root.limit (plain_rows now.known old) (plain_rows now.known new) slot n (plain_row now.known r)
        serves.parent part (plain v) there up
        (λ e. absurd (omega (arith, e, older))) serves.there serves.asked_it settled (omega (arith, l, row_below old slot r at))
        (omega (arith, l, older, row_below old slot r at)));
  }
    where
      there : plain_rows now.known old slot ≡ Some (plain_row now.known r)
      there = plain_of_row now.known old slot r at

      serves : Serves d (plain_rows now.known old) slot (plain_row now.known r) part
      serves = (waits.going.work.links slot (plain_row now.known r) there).serves part up

      older : part.slot < slot
      older = serves.older

      settled : SettlesRow (plain_rows now.known old) (plain_rows now.known new) slot (plain_row now.known r) (plain v)
      settled = plain_settles now.known old new slot r v at changes

  -- a row without a parent settles: its value answers the root
  pub root_is_answered : (slot : ℕ) (r : TaskRow) (v : PlainValue) → row_at old slot ≡ Some r → r.parent ≡ None → (b : Elements)
      → Extends (known_elements now) b
      → Answers d b (holding now) now.stored.lost (plain_task now.known r.task) v
      → (IsTrue d.first.keeps → now.stored.lost ≡ 0 → (k : DatonAt) → (plain_row now.known r).key ≡ Some k → IsSome (holding now k.0 k.1))
      → Answers d b (holding now) now.stored.lost d.root v
  root_is_answered slot r v at up =
      root_settles d (known_elements now) (holding now) now.stored.lost (plain_rows now.known old) slot (plain_row now.known r) v waits.going.work
      (plain_of_row now.known old slot r at) up

  -- a search goes on
  pub moves_goes_down : (one two : List (Option TaskRow)) (slot : ℕ) (r : TaskRow) (c : Cursor) (truth_seen : Bool) → row_at old slot ≡ Some r
      → waits_for_none (plain_row now.known r) ≡ true
      → MayMove (table_of d) (plain_row now.known r) truth_seen → c ≡ looked_on r.cursor truth_seen → rows.ChangesOnly old one slot (rows.taken 1)
      → rows.ChangesOnly one two slot (rows.taken 0)
      → rows.ChangesOnly two new slot (rows.with_cursor c) → GoesDown d now w old new
  moves_goes_down one two slot r c truth_seen at ready may is first second cursor = record {
    waits = onward (work_moves d (known_elements now) (holding now) now.stored.lost (plain_rows now.known old) (plain_rows now.known new) slot row c
        waits.going.work there
        (ready_is_no_parent d (known_elements now) (holding now) now.stored.lost (plain_rows now.known old) waits.going.work slot row there ready)
        (λ b x. subst (λ z. RowFacts d b (holding now) now.stored.lost (at_cursor z row)) (sym is)
        (moved-facts d b (holding now) now.stored.lost row truth_seen (facts_of slot r at b x) may)) sets)
        (known_moves now.known two new slot c cursor (known_takes now.known one two slot 0 second (known_takes now.known old one slot 1 first waits.known)));
    less = falls (λ n l m. total_changes (table_of d) d.root.limit (plain_rows now.known old) (plain_rows now.known new) slot n row (at_cursor c row) there
        (moving_falls (table_of d) d.root.limit row c three may.before (subst (λ z. r.cursor.time < z.time) (sym is) (later truth_seen))) sets
        (omega (arith, l, row_below old slot r at)));
  }
    where
      row : PlainRow
      row = plain_row now.known r

      there : plain_rows now.known old slot ≡ Some row
      there = plain_of_row now.known old slot r at

      three : length row.parts ≡ 3
      three = (facts_now slot r at).three

      later : (seen : Bool) → r.cursor.time < (looked_on r.cursor seen).time
      later true = omega arith
      later false = omega arith

      sets : SetsRow (plain_rows now.known old) (plain_rows now.known new) slot (Some (at_cursor c row))
      sets =
          plain_moves now.known old one two new slot r c at (sym (length-map r.parts plain_state) ∙ three) ready
          (search-is_idle d (known_elements now) (holding now) now.stored.lost row may.form may.nodes (facts_now slot r at) may.is may.search ready) first
          second cursor

  -- a search that looked at nothing begins at a later cursor: the rows can cost no more
  pub begins_goes_on : (slot : ℕ) (r : TaskRow) (c : Cursor) → row_at old slot ≡ Some r → (plain_row now.known r).parts ≡ all_idle → r.cursor.time ≤ c.time
      → ((b : Elements) → Extends (known_elements now) b → RowFacts d b (holding now) now.stored.lost (at_cursor c (plain_row now.known r)))
      → rows.ChangesOnly old new slot (rows.with_cursor c)
      → Waits d now w new × (cost_of d now.known new ≤ cost_of d now.known old)
  begins_goes_on slot r c at free later facts changes = (
    onward (work_moves d (known_elements now) (holding now) now.stored.lost (plain_rows now.known old) (plain_rows now.known new) slot row c waits.going.work
        there
        (ready_is_no_parent d (known_elements now) (holding now) now.stored.lost (plain_rows now.known old) waits.going.work slot row there
        (ap (λ ps. list_all is_free ps) free))
        facts sets) (known_moves now.known old new slot c changes waits.known),
    no_more (total_begins (table_of d) d.root.limit (plain_rows now.known old) (plain_rows now.known new) slot both row
        (at_cursor c row) there (beginning_raises_nothing (table_of d) d.root.limit row c free later) sets (omega (arith, row_below old slot r at))),
  )
    where
      row : PlainRow
      row = plain_row now.known r

      there : plain_rows now.known old slot ≡ Some row
      there = plain_of_row now.known old slot r at

      sets : SetsRow (plain_rows now.known old) (plain_rows now.known new) slot (Some (at_cursor c row))
      sets = plain_begins now.known old new slot r c at free changes

      both : ℕ
      both = length old + length new

      no_more : total (table_of d) d.root.limit (plain_rows now.known new) both ≤ total (table_of d) d.root.limit (plain_rows now.known old) both
          → cost_of d now.known new ≤ cost_of d now.known old
      no_more l =
          let was = cost_past d now.known old both (omega arith) in
          let is = cost_past d now.known new both (omega arith) in
          omega (arith, was, is, l)

-- The demand's first row stands.
pub begins_waiting : (d : Demand) (now : EngineView) (w : World) (new : List (Option TaskRow)) (slot : ℕ) (x : Task) (key : Option Key) → Owns d now w
    → StandsFor (table_of d) (key_list (option_map (plain_key now.known) key)) (plain_task now.known x) d.root
    → moved (table_of d) (plain_task now.known x) ≡ None
    → IsKnown now.known x.tag → IfSome key (λ k. IsKnown now.known k.tag)
    → ((b : Elements) → Extends (known_elements now) b → IsWanted d b (plain_task now.known x))
    → ((b : Elements) → Extends (known_elements now) b → (k : DatonAt) → option_map (plain_key now.known) key ≡ Some k
    → Remembers d b (plain_task now.known x) k)
    → rows.Asks [] new None slot x key → Waits d now w new
begins_waiting d now w new slot x key owns stands still known key_known wanted remembers changes = record {
  going = record {
    work = work_begins d (known_elements now) (holding now) now.stored.lost (plain_rows now.known new) slot (plain_task now.known x)
        (option_map (plain_key now.known) key) stands
        (λ b z. new_row-facts d b (holding now) now.stored.lost (plain_task now.known x) None (option_map (plain_key now.known) key) (wanted b z) still
        (remembers b z))
        (plain_asks now.known [] new None slot x key changes);
    owns = owns;
  };
  known = known_asks now.known [] new None slot x key known key_known changes (λ q r at. absurd (cc));
}
