-- What a row asks for may be asked, and a row that stands at nothing is refused rightly.
use Rattle.lucid_demand_steps.proofs.Common.{◌≡◌, ℕ, ◌+◌, ◌<◌, ◌≤◌, max, Some, refl, sym, ap, ◌∙◌, subst, arith, IsTrue, PlainValue, Head, In, Inside, Look, Plan, nothing, plan, Reads, ReadsAtSome, LeadsTo, Elements, nothing_held, leads-maps, reader-up, row, PlainNodes, node_hval, node_visits, equations_of, reads_parts, visits_parts, parts-keep, PlainTask, PlainRow, node_of, rank, IsPart, Holding, given, hval_of, visits_of, task_visits, IsDefined, HoldsRight, ForSomeAdded, Demand, table_of, stays, IsSeen, LookAnswers, RowFacts, IsWanted, ComesTo, MayAsk, IsDemand}
use Rattle.std.specs.Prelude.{Bool, true, false}
use Rattle.lucid_tree.specs.Rows.{looks, run}
use Rattle.lucid_tree.specs.PlanLaws.{NeverDiffers}
use Rattle.lucid_tree.proofs.RestsDefined.{nothing_left, next_defined}
use Rattle.lucid_equations.proofs.ByStep.{parts-agree, next-visited, next-visited_on}
use Rattle.lucid_demand_steps.proofs.Looking.{LooksAt, looks_at, look_value, look_visits, look_keeps_limit, look_is_there, look_ranks_lower}
use Rattle.lucid_demand_steps.proofs.Leading.{row_came, part_is_of_its_look}
use Rattle.lucid_demand_steps.proofs.Giving.{answer_means, answer_is_exact}
use Rattle.lucid_demand_steps.proofs.MoreRead.{right_is_meant}

both_ways : {e : Bool} → e ≡ false → e ≡ true → ⊥
both_ways off on = let z : false ≡ true = sym off ∙ on in absurd (cc)

-- What is visited by a task that the root sees, the root sees.
pub seen_through : (d : Demand) (b : Elements) (x y : PlainTask)
    → ForSomeAdded d.first (λ e. Inside (task_visits (table_of d) b e x) (task_visits (table_of d) b e y)) → IsSeen d b y → IsSeen d b x
seen_through d b x y by seen = record {
  added = max by.added seen.added;
  none = λ t. let one : by.added ≡ 0 = by.none t in let other : seen.added ≡ 0 = seen.none t in omega (arith, one, other);
  holds = λ e le z i. seen.holds e (omega (arith, le)) z (by.holds e (omega (arith, le)) z i);
}

module _ (d : Demand) (b : Elements) (h : Holding) (lost : ℕ) (r : PlainRow) (demand : IsDemand d) (right : HoldsRight (equations_of (table_of d)) b (stays d))
    (facts : RowFacts d b h lost r) where
  -- what a form of this row reads of its parts with what stays held never differs from what they mean
  agrees : (es : PlainNodes) → NeverDiffers (λ n. reads_parts (equations_of (table_of d)) (nothing_held b) n es r.task.context)
      (reads_parts (equations_of (table_of d)) (given b (stays d)) r.task.limit es r.task.context)
  agrees es = parts-agree (equations_of (table_of d)) (given b (stays d)) (right_is_meant (equations_of (table_of d)) b (stays d) right) r.task.limit es
      r.task.context

  -- where the values of its parts lead the row, what the parts mean leads its plan
  meant_way : (q : Plan) (s : ComesTo (table_of d) r q)
      → LeadsTo (ReadsAtSome (λ n. reads_parts (equations_of (table_of d)) (nothing_held b) n s.nodes r.task.context))
      (plan r.task.limit s.form r.task.time r.task.space) q
  meant_way q s =
      leads-maps (LookAnswers d b h lost r.task) (ReadsAtSome (λ n. reads_parts (equations_of (table_of d)) (nothing_held b) n s.nodes r.task.context))
      (answer_means d b h lost demand r.task s.form s.nodes s.is) (plan r.task.limit s.form r.task.time r.task.space) q (row_came d b h lost r demand facts q s)

  -- where the row's own approximation is defined with what stays held, its plan has the value
  own_value : (f : Head) (es : PlainNodes) → node_of (table_of d) r.task ≡ row f es → (own : IsDefined (table_of d) b (stays d) r.task)
      → run (plan r.task.limit f r.task.time r.task.space) (reads_parts (equations_of (table_of d)) (given b (stays d)) r.task.limit es r.task.context) ≡ Some
      own.0
  own_value f es e own = sym (ap (λ n. node_hval (equations_of (table_of d)) (given b (stays d)) r.task.limit n r.task.context r.task.time r.task.space) e)
      ∙ own.1

  -- A row that stands at nothing is refused rightly: the root's approximation is undefined with what stays held.
  pub nothing_is_right : ComesTo (table_of d) r nothing → IsDefined (table_of d) b (stays d) d.root → ⊥
  nothing_is_right s root =
      let own = facts.needed root in
      nothing_left (ReadsAtSome (λ n. reads_parts (equations_of (table_of d)) (nothing_held b) n s.nodes r.task.context))
      (reads_parts (equations_of (table_of d)) (given b (stays d)) r.task.limit s.nodes r.task.context)
      (agrees s.nodes) (plan r.task.limit s.form r.task.time r.task.space) own.0 (meant_way nothing s) (own_value s.form s.nodes s.is own)

  module _ (i : ℕ) (may : MayAsk (table_of d) r i) (x : PlainTask) (part : IsPart (table_of d) r i x) where
    at : LooksAt (table_of d) r.task may.look x
    at = looks_at (table_of d) r.task may.look x (part_is_of_its_look (table_of d) r may.at.form may.at.nodes may.at.is i may.look x part may.is)

    -- the part's approximation is defined where the row's is
    asked_is_needed : IsDefined (table_of d) b (stays d) d.root → IsDefined (table_of d) b (stays d) x
    asked_is_needed root =
        let own = facts.needed root in
        let read = reads_parts (equations_of (table_of d)) (given b (stays d)) r.task.limit may.at.nodes r.task.context in
        let meant : Look → PlainValue → Type 0 = ReadsAtSome (λ n. reads_parts (equations_of (table_of d)) (nothing_held b) n may.at.nodes r.task.context) in
        let v = next_defined meant read (agrees may.at.nodes) (plan r.task.limit may.at.form r.task.time r.task.space) may.stands_next may.go_on own.0
        (meant_way (looks may.stands_next may.go_on) may.at) (own_value may.at.form may.at.nodes may.at.is own) may.look may.next in (
          v.0,
          ap (λ m. hval_of (table_of d) b (stays d) m x) (look_keeps_limit (table_of d) demand.in_range r.task may.look x at)
              ∙ sym (look_value (table_of d) demand.in_range r.task may.look x at may.at.form may.at.nodes may.at.is (given b (stays d)) r.task.limit) ∙ v.1,
        )

    -- what its look visits, it visits, and the row
    inside_row : (e : ℕ)
        → Inside (visits_parts (equations_of (table_of d)) b r.task.limit e may.at.nodes r.task.context may.look.part may.look.time may.look.space)
        (node_visits (equations_of (table_of d)) b r.task.limit e (row may.at.form may.at.nodes) r.task.context r.task.time r.task.space)
        → Inside (task_visits (table_of d) b e x) (task_visits (table_of d) b e r.task)
    inside_row e inside z i =
        let own : In z (visits_of (table_of d) b r.task.limit e x) =
        subst (λ m. In z (visits_of (table_of d) b m e x)) (look_keeps_limit (table_of d) demand.in_range r.task may.look x at) i in
        let looked =
        subst (λ zs. In z zs) (sym (look_visits (table_of d) demand.in_range r.task may.look x at may.at.form may.at.nodes may.at.is b r.task.limit e))
        own in
        subst (λ n. In z (node_visits (equations_of (table_of d)) b r.task.limit e n r.task.context r.task.time r.task.space)) (sym may.at.is) (inside z looked)

    -- under a policy that empties, with each added number
    exact_way : IsTrue d.first.empties → (e : ℕ) → LeadsTo
        (Reads (reads_parts (equations_of (table_of d)) (nothing_held b) (r.task.limit + e) may.at.nodes r.task.context))
        (plan r.task.limit may.at.form r.task.time r.task.space) (looks may.stands_next may.go_on)
    exact_way empties e =
        leads-maps (LookAnswers d b h lost r.task) (Reads
        (reads_parts (equations_of (table_of d)) (nothing_held b) (r.task.limit + e) may.at.nodes r.task.context))
        (λ l w a. reader-up (λ n. reads_parts (equations_of (table_of d)) (nothing_held b) n may.at.nodes r.task.context)
        (parts-keep (equations_of (table_of d)) (nothing_held b) may.at.nodes r.task.context) r.task.limit (r.task.limit + e) (omega arith) l.part l.time
        l.space w
        (answer_is_exact d b h lost demand r.task may.at.form may.at.nodes may.at.is empties l w a)) (plan r.task.limit may.at.form r.task.time
        r.task.space) (looks may.stands_next may.go_on) (row_came d b h lost r demand facts (looks may.stands_next may.go_on) may.at)

    -- What the part visits, the row visits.
    asked_is_seen_by_row : ForSomeAdded d.first (λ e. Inside (task_visits (table_of d) b e x) (task_visits (table_of d) b e r.task))
    asked_is_seen_by_row = go d.first.empties refl
      where
        go : (empties : Bool) → d.first.empties ≡ empties
            → ForSomeAdded d.first (λ e. Inside (task_visits (table_of d) b e x) (task_visits (table_of d) b e r.task))
        go true on = record {
          added = 0;
          none = λ t. refl;
          holds = λ e le. inside_row e (next-visited (equations_of (table_of d)) b r.task.limit may.at.form may.at.nodes r.task.context r.task.time r.task.space
              e may.stands_next may.go_on (exact_way on e) may.look may.next);
        }
        go false off =
            let on = next-visited_on (equations_of (table_of d)) b r.task.limit may.at.form may.at.nodes r.task.context r.task.time r.task.space may.stands_next
            may.go_on (meant_way (looks may.stands_next may.go_on) may.at) in
            record { added = on.0; none = λ t. absurd (both_ways off t); holds = λ e le. inside_row e (on.1 e le may.look may.next) }

    -- What a row may ask for may be asked for, and costs less than the row.
    pub asked_is_lower : rank (table_of d) x < rank (table_of d) r.task
    asked_is_lower = look_ranks_lower (table_of d) demand.in_range r.task may.look x at

    pub asked_is_wanted : IsWanted d b x
    asked_is_wanted =
        record {
          there = look_is_there (table_of d) demand.in_range r.task may.look x at facts.there;
          limit = subst (λ m. m ≤ d.root.limit) (sym (look_keeps_limit (table_of d) demand.in_range r.task may.look x at)) facts.limit;
          needed = asked_is_needed;
          seen = seen_through d b x r.task asked_is_seen_by_row facts.seen;
        }
