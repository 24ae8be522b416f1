-- What a row's plan gives answers its task.
use Rattle.lucid_demand_steps.proofs.Common.{◌≡◌, ℕ, Some, sym, ap, ◌∙◌, subst, IsTrue, is_some, PlainValue, Head, Look, gives, plan, Reads, ReadsAtSome, LeadsTo, Elements, nothing_held, leads-maps, leads-runs, row, PlainNodes, node_val, NodeMeans, IsNeeded, equations_of, reads_parts, PlainTask, PlainRow, value_of_part, node_of, IsReference, IsPart, part_by_look, part_by_reference, Holding, TaskMeans, NeedsHeld, Demand, table_of, LookAnswers, Answers, RowFacts, IsDemand}
use Rattle.lucid_demand_steps.specs.Stands.{task_val}
use Rattle.lucid_demand_steps.specs.Decisions.{GivesByPlan}
use Rattle.lucid_demand_steps.proofs.Ways.{NeedsPass, ways_give_meanings, needs_are_of_the_way}
use Rattle.lucid_demand_steps.proofs.Looking.{looks_at, look_value, look_needs, look_keeps_limit}
use Rattle.lucid_demand_steps.proofs.Leading.{row_came}

module _ (d : Demand) (b : Elements) (h : Holding) (lost : ℕ) (demand : IsDemand d) (x : PlainTask) (f : Head) (es : PlainNodes)
    (e : node_of (table_of d) x ≡ row f es) where
  -- What an answer to a look says of the look's part: it means the value,
  pub answer_means : (l : Look) (w : PlainValue) → LookAnswers d b h lost x l w
      → ReadsAtSome (λ n. reads_parts (equations_of (table_of d)) (nothing_held b) n es x.context) l w
  answer_means l w a =
      let at = looks_at (table_of d) x l a.task a.is in
      (a.answers.means.0, look_value (table_of d) demand.in_range x l a.task at f es e (nothing_held b) a.answers.means.0 ∙ a.answers.means.1)

  -- under a policy that empties, by the limit of the row itself,
  pub answer_is_exact : IsTrue d.first.empties → (l : Look) (w : PlainValue) → LookAnswers d b h lost x l w
      → Reads (reads_parts (equations_of (table_of d)) (nothing_held b) x.limit es x.context) l w
  answer_is_exact empties l w a =
      let at = looks_at (table_of d) x l a.task a.is in
      look_value (table_of d) demand.in_range x l a.task at f es e (nothing_held b) x.limit
      ∙ ap (λ m. node_val (equations_of (table_of d)) b m (node_of (table_of d) a.task) a.task.context a.task.time a.task.space)
      (sym (look_keeps_limit (table_of d) demand.in_range x l a.task at))
      ∙ a.answers.exact empties

  -- and under one that keeps, and with nothing lost, what the part needs is held.
  pub answer_holds : IsTrue d.first.keeps → lost ≡ 0 → (l : Look) (w : PlainValue) → LookAnswers d b h lost x l w
      → NeedsPass (equations_of (table_of d)) b es x.context (λ k. is_some (h k.0 k.1)) l
  answer_holds keeps none l w a part there k needed =
      a.answers.kept keeps none k (look_needs (table_of d) demand.in_range x l a.task (looks_at (table_of d) x l a.task a.is) f es e b part there k needed)

module _ (d : Demand) (b : Elements) (h : Holding) (lost : ℕ) (r : PlainRow) where
  -- What a row's plan gives answers the row's task.
  pub plan_answers : IsDemand d → RowFacts d b h lost r → (v : PlainValue) → GivesByPlan (table_of d) r v → Answers d b h lost r.task v
  plan_answers demand facts v s = record { means = means; exact = exact; kept = kept }
    where
      way : LeadsTo (LookAnswers d b h lost r.task) (plan r.task.limit s.form r.task.time r.task.space) (gives v)
      way = row_came d b h lost r demand facts (gives v) s

      means : TaskMeans (table_of d) b r.task v
      means =
          subst (λ n. NodeMeans (equations_of (table_of d)) b n r.task.context r.task.time r.task.space v) (sym s.is)
          (ways_give_meanings (equations_of (table_of d)) b r.task.limit s.form s.nodes r.task.context r.task.time r.task.space v
          (leads-maps (LookAnswers d b h lost r.task) (ReadsAtSome (λ n. reads_parts (equations_of (table_of d)) (nothing_held b) n s.nodes r.task.context))
          (answer_means d b h lost demand r.task s.form s.nodes s.is) (plan r.task.limit s.form r.task.time r.task.space) (gives v) way))

      exact : IsTrue d.first.empties → task_val (table_of d) b r.task ≡ Some v
      exact empties =
          ap (λ n. node_val (equations_of (table_of d)) b r.task.limit n r.task.context r.task.time r.task.space) s.is
          ∙ leads-runs (reads_parts (equations_of (table_of d)) (nothing_held b) r.task.limit s.nodes r.task.context)
          (plan r.task.limit s.form r.task.time r.task.space) (gives v)
          (leads-maps (LookAnswers d b h lost r.task) (Reads (reads_parts (equations_of (table_of d)) (nothing_held b) r.task.limit s.nodes r.task.context))
          (answer_is_exact d b h lost demand r.task s.form s.nodes s.is empties) (plan r.task.limit s.form r.task.time r.task.space) (gives v) way)

      kept : IsTrue d.first.keeps → lost ≡ 0 → NeedsHeld (equations_of (table_of d)) b h (node_of (table_of d) r.task) r.task.context r.task.time r.task.space
      kept keeps none k needed =
          needs_are_of_the_way (equations_of (table_of d)) b r.task.limit s.form s.nodes r.task.context r.task.time r.task.space v (λ q. is_some (h q.0 q.1))
          (leads-maps (LookAnswers d b h lost r.task) (λ l w.
          ReadsAtSome (λ n. reads_parts (equations_of (table_of d)) (nothing_held b) n s.nodes r.task.context) l w
          × NeedsPass (equations_of (table_of d)) b s.nodes r.task.context (λ q. is_some (h q.0 q.1)) l)
          (λ l w a. (
            answer_means d b h lost demand r.task s.form s.nodes s.is l w a,
            answer_holds d b h lost demand r.task s.form s.nodes s.is keeps none l w
                a,
          )) (plan r.task.limit s.form r.task.time r.task.space) (gives v) way)
          k (subst (λ n. IsNeeded (equations_of (table_of d)) b n r.task.context r.task.time r.task.space k) s.is needed)

  -- The task of a reference's part is the reference.
  its_own : (i : ℕ) (x : PlainTask) → IsPart (table_of d) r i x → IsReference (node_of (table_of d) r.task) → x ≡ r.task
  its_own i x (part_by_look {f = f} {es = es} {l = l} k e q t) reference = absurd (subst (λ z. IsReference z) e reference)
  its_own i x (part_by_reference k o) reference = o

  -- So its value answers the reference.
  pub reference_answers : RowFacts d b h lost r → IsReference (node_of (table_of d) r.task) → (v : PlainValue) → value_of_part r 0 ≡ Some v
      → Answers d b h lost r.task v
  reference_answers facts reference v has = let a = facts.got_parts 0 v has in subst (λ x. Answers d b h lost x v) (its_own 0 a.task a.is reference) a.answers
