-- A search's facts where it goes on, and where it begins at a noted position.
use Rattle.lucid_demand_steps.proofs.Common.{◌≡◌, ℕ, zero, suc, ◌<◌, ◌≤◌, max, ◌⊎◌, inl, inr, List, Option, Some, refl, sym, ap, ◌∙◌, subst, arith, IsTrue, cases_lt, PlainValue, truth, Head, whenever, Elements, nothing_held, CanStandAt, Look, count-keeps, Context, space_of, Tag, Noted, number_at, Cursor, PlainNode, row, PlainNodes, Equations, node_val, equations_of, node_at, Table, PlainTask, PlainRow, all_idle, state_at, value_in, node_of, part_number, look_of_row, look_task, IsPart, part_by_look, part_by_reference, Holding, is_search, cursor_noted, Counted, NeedsHeld, NotedRight, Demand, table_of, Answers, RowFacts, PartAnswers, SearchFacts, StockFacts, MayMove, looked_on, at_cursor}
use Rattle.std.specs.Prelude.{Bool, true, false, option_map}
use Rattle.lucid_tree.specs.Rests.{count_on, count_below}
use Rattle.lucid_tree.proofs.SearchesLead.{counted_on}
use Rattle.lucid_tags.specs.Known.{context_of}
use Rattle.lucid_equations.proofs.NodeGrowth.{node_hval-up}
use Rattle.lucid_demand_steps.proofs.Idling.{one-form}

-- True values counted below a time are no more than the time.
pub count-is_few : (f : ℕ → Option PlainValue) (t n : ℕ) → count_below f t ≡ Some n → n ≤ t
count-is_few f zero n e = let z : 0 ≡ n = cc in omega (arith, z)
count-is_few f (suc t) n e =
    let c = counted_on (count_below f t) (f t) n e in
    let few : c.before ≤ t = count-is_few f t c.before c.had in
    elim c.now [ inl q ↦ omega (arith, q.1, few) | inr q ↦ omega (arith, q.1, few) ]

-- no part of three idle ones has a value
pub nothing_got : (i : ℕ) (v : PlainValue) → value_in (state_at all_idle i) ≡ Some v → ⊥
nothing_got (suc (suc (suc i))) v e = cc
nothing_got i v e = cc

-- A row at another cursor, with nothing got, has its facts where its search has those of the cursor.
pub at_cursor-facts : (d : Demand) (b : Elements) (h : Holding) (lost : ℕ) (r : PlainRow) (c : Cursor) → RowFacts d b h lost r
    → ((f : Head) (es : PlainNodes) (stream : ℕ) → node_of (table_of d) r.task ≡ row f es → is_search f ≡ true
    → part_number (table_of d) r.task.node 1 ≡ Some stream
    → SearchFacts d b h lost (at_cursor c r) f stream)
    → RowFacts d b h lost (at_cursor c r)
at_cursor-facts d b h lost r c f search = record {
  there = f.there;
  three = refl;
  limit = f.limit;
  still = f.still;
  needed = f.needed;
  seen = f.seen;
  search = search;
  got_parts = λ i v e. absurd (nothing_got i v e);
  remembers = f.remembers;
}

-- the look at a search's stream
record LooksAtCursor (r : PlainRow) (l : Look) : Type 0 where
  part : l.part ≡ 1
  time : l.time ≡ r.cursor.time
  space : l.space ≡ r.task.space

stream_look : (f : Head) (r : PlainRow) (l : Look) → is_search f ≡ true → look_of_row f r 1 ≡ Some l → LooksAtCursor r l
stream_look whenever r l s e = record { part = cc; time = cc; space = cc }
stream_look f r l s e = record { part = cc; time = cc; space = cc }

-- the task of a part at a point
abbrev part_task : PlainRow → (node time space : ℕ) → PlainTask
part_task r n t s = record { node = n; context = r.task.context; time = t; space = s; limit = r.task.limit }

-- that of a search's stream at its cursor
abbrev stream_task : PlainRow → (stream : ℕ) → PlainTask
stream_task r stream = part_task r stream r.cursor.time r.task.space

task_of_look : (T : Table) (r : PlainRow) (l : Look) (stream : ℕ) (x : PlainTask) → LooksAtCursor r l → part_number T r.task.node 1 ≡ Some stream
    → look_task T r.task l ≡ Some x → x ≡ stream_task r stream
task_of_look T r l stream x q p e =
    let n : part_number T r.task.node l.part ≡ Some stream = ap (λ i. part_number T r.task.node i) q.part ∙ p in
    let here : Some x ≡ Some (part_task r stream l.time l.space) = sym e ∙ ap (λ o. option_map (λ k. part_task r k l.time l.space) o) n in
    let same : x ≡ part_task r stream l.time l.space = cc in
    same ∙ ap (λ t. part_task r stream t l.space) q.time ∙ ap (λ i. part_task r stream r.cursor.time i) q.space

stream_part : (T : Table) (r : PlainRow) (f : Head) (es : PlainNodes) (stream j : ℕ) (x : PlainTask) → node_of T r.task ≡ row f es → is_search f ≡ true
    → part_number T r.task.node 1 ≡ Some stream → j ≡ 1 → IsPart T r j x → x ≡ stream_task r stream
stream_part T r f es stream j x e s p one (part_by_look {f = g} {es = gs} {l = l} i n q t) =
    task_of_look T r l stream x
    (stream_look g r l (subst (λ z. is_search z ≡ true) (one-form f g es gs (sym e ∙ n)) s) (subst (λ k. look_of_row g r k ≡ Some l) one q)) p t
stream_part T r f es stream j x e s p one (part_by_reference k o) = absurd (cc)

-- a count that goes on by a truth
on_by_truth : (o : Option ℕ) (v : Option PlainValue) (c : Cursor) (seen : Bool) → o ≡ Some c.count → v ≡ Some (truth seen)
    → count_on o v ≡ Some (looked_on c seen).count
on_by_truth o v c true p q = rw (p, q) refl
on_by_truth o v c false p q = rw (p, q) refl

one_on : (c : Cursor) (seen : Bool) → (looked_on c seen).time ≡ suc c.time
one_on c true = refl
one_on c false = refl

counted_further : (f : ℕ → Option PlainValue) (c : Cursor) (seen : Bool) → count_below f c.time ≡ Some c.count → f c.time ≡ Some (truth seen)
    → count_below f (looked_on c seen).time ≡ Some (looked_on c seen).count
counted_further f c seen p q = subst (λ t. count_below f t ≡ Some (looked_on c seen).count) (sym (one_on c seen))
    (on_by_truth (count_below f c.time) (f c.time) c seen p q)

-- one more truth is counted by the greater of two limits
counted_more : (p : Equations) (b : Elements) (e : PlainNode) (c : Context) (s : ℕ) (at : Cursor) (seen : Bool) → Counted p b e c s at.time at.count
    → (m : ℕ) → node_val p b m e c at.time s ≡ Some (truth seen) → Counted p b e c s (looked_on at seen).time (looked_on at seen).count
counted_more p b e c s at seen counted m value = (
  max counted.0 m,
  counted_further (λ u. node_val p b (max counted.0 m) e c u s) at seen
      (count-keeps (λ u. node_val p b counted.0 e c u s) (λ u. node_val p b (max counted.0 m) e c u s)
      (λ u v q. node_hval-up p (nothing_held b) counted.0 (max counted.0 m) (omega arith) e c u s v q) at.time at.count counted.1)
      (node_hval-up p (nothing_held b) m (max counted.0 m) (omega arith) e c at.time s (truth seen) value),
)

-- A search that goes on has its facts: one more look is counted.
pub moved-facts : (d : Demand) (b : Elements) (h : Holding) (lost : ℕ) (r : PlainRow) (seen : Bool) → RowFacts d b h lost r → MayMove (table_of d) r seen
    → RowFacts d b h lost (at_cursor (looked_on r.cursor seen) r)
moved-facts d b h lost r seen facts may = at_cursor-facts d b h lost r (looked_on r.cursor seen) facts on
  where
    part : PartAnswers d b h lost r 1 (truth seen)
    part = facts.got_parts 1 (truth seen) may.value

    on : (f : Head) (es : PlainNodes) (stream : ℕ) → node_of (table_of d) r.task ≡ row f es → is_search f ≡ true
        → part_number (table_of d) r.task.node 1 ≡ Some stream
        → SearchFacts d b h lost (at_cursor (looked_on r.cursor seen) r) f stream
    on f es stream e s p = record {
      counted = counted_more (equations_of (table_of d)) b (node_at (table_of d) stream) r.task.context r.task.space r.cursor seen old.counted answers.means.0
          answers.means.1;
      exact = λ empties. counted_further (λ u. node_val (equations_of (table_of d)) b r.task.limit (node_at (table_of d) stream) r.task.context u r.task.space)
          r.cursor seen
          (old.exact empties) (answers.exact empties);
      kept = λ keeps none u lt. kept keeps none u (elim (cases_lt u r.cursor.time) [
        | inl l ↦ inl l
        | inr l ↦ inr (let le : u < suc r.cursor.time = subst (λ t. u < t) (one_on r.cursor seen) lt in let z : u ≡ r.cursor.time = omega (arith, l, le) in z)
      ]);
      within = subst (λ g. CanStandAt g (looked_on r.cursor seen).time (looked_on r.cursor seen).count r.task.time) same
          (may.within (subst (λ g. CanStandAt g r.cursor.time r.cursor.count r.task.time) (sym same) old.within));
    }
      where
        old : SearchFacts d b h lost r f stream
        old = facts.search f es stream e s p

        same : may.form ≡ f
        same = one-form may.form f may.nodes es (sym may.is ∙ e)

        answers : Answers d b h lost (stream_task r stream) (truth seen)
        answers = subst (λ x. Answers d b h lost x (truth seen)) (stream_part (table_of d) r f es stream 1 part.task e s p refl part.is) part.answers

        kept : IsTrue d.first.keeps → lost ≡ 0 → (u : ℕ) → (u < r.cursor.time) ⊎ (u ≡ r.cursor.time)
            → NeedsHeld (equations_of (table_of d)) b h (node_at (table_of d) stream) r.task.context u r.task.space
        kept keeps none u (inl lt) = old.kept keeps none u lt
        kept keeps none u (inr z) = subst (λ t. NeedsHeld (equations_of (table_of d)) b h (node_at (table_of d) stream) r.task.context t r.task.space) (sym z)
            (answers.kept keeps none)

-- A search that begins where one stood has its facts, past its own limit too. Under a policy that empties none is noted.
pub begun-facts : (d : Demand) (b : Elements) (known : List Context) (h : Holding) (lost : ℕ) (noted : Noted) (r : PlainRow) (f : Head) (es : PlainNodes)
    (tag : Tag) (key number : ℕ)
    → StockFacts d b known h lost noted → (IsTrue d.first.empties → ⊥) → RowFacts d b h lost r → node_of (table_of d) r.task ≡ row f es → is_search f ≡ true
    → context_of known tag ≡ r.task.context → space_of tag ≡ r.task.space → number_at noted r.task.node tag key ≡ Some number
    → CanStandAt f (cursor_noted f key number).time (cursor_noted f key number).count r.task.time
    → RowFacts d b h lost (at_cursor (cursor_noted f key number) r)
begun-facts d b known h lost noted r f es tag key number stock not_emptying facts e s c sp n within =
    at_cursor-facts d b h lost r (cursor_noted f key number) facts on
  where
    on : (g : Head) (gs : PlainNodes) (stream : ℕ) → node_of (table_of d) r.task ≡ row g gs → is_search g ≡ true
        → part_number (table_of d) r.task.node 1 ≡ Some stream
        → SearchFacts d b h lost (at_cursor (cursor_noted f key number) r) g stream
    on g gs stream q t p = record {
      counted = there;
      exact = λ empties. absurd (not_emptying empties);
      kept = λ keeps none u lt. subst (λ x. NeedsHeld (equations_of (table_of d)) b h (node_at (table_of d) stream) r.task.context u x) sp
          (subst (λ x. NeedsHeld (equations_of (table_of d)) b h (node_at (table_of d) stream) x u (space_of tag)) c
          (stock.noted_closed keeps none r.task.node tag key number n f es e stream p u lt));
      within = subst (λ x. CanStandAt x (cursor_noted f key number).time (cursor_noted f key number).count r.task.time) (one-form f g es gs (sym e ∙ q)) within;
    }
      where
        x : NotedRight (table_of d) b known r.task.node tag key number
        x = stock.noted_right r.task.node tag key number n

        same_form : x.form ≡ f
        same_form = one-form x.form f x.nodes es (sym x.is ∙ e)

        same_stream : x.stream ≡ stream
        same_stream = let z : Some x.stream ≡ Some stream = sym x.part ∙ p in cc

        there : Counted (equations_of (table_of d)) b (node_at (table_of d) stream) r.task.context r.task.space (cursor_noted f key number).time
            (cursor_noted f key number).count
        there =
            subst (λ y. Counted (equations_of (table_of d)) b (node_at (table_of d) stream) r.task.context y (cursor_noted f key number).time
            (cursor_noted f key number).count) sp
            (subst (λ y. Counted (equations_of (table_of d)) b (node_at (table_of d) stream) y (space_of tag) (cursor_noted f key number).time
            (cursor_noted f key number).count) c
            (subst (λ y. Counted (equations_of (table_of d)) b (node_at (table_of d) y) (context_of known tag) (space_of tag) (cursor_noted f key number).time
            (cursor_noted f key number).count) same_stream
            (subst (λ y. Counted (equations_of (table_of d)) b (node_at (table_of d) x.stream) (context_of known tag) (space_of tag)
            (cursor_noted y key number).time (cursor_noted y key number).count) same_form
            x.counted)))
