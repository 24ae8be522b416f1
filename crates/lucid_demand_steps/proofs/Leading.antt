-- A row's parts answer the looks of its form's plan, and lead it from the plan's start to where its search stands, and on.
use Rattle.lucid_demand_steps.proofs.Common.{◌≡◌, ℕ, ◌<◌, Option, Some, inl, inr, refl, sym, ap, ◌∙◌, subst, PlainValue, truth, Head, whenever, const, Look, Plan, plan, LeadsTo, at_start, rest_at, Elements, leads-maps, counted_truth, row, PlainNodes, no_nodes, node_val, node_at, equations_of, Table, row-node, node-meant_once, PlainTask, PlainRow, node_of, part_number, look_of_row, look_task, IsReference, IsPart, part_by_look, part_by_reference, Holding, is_search, Demand, table_of, LookAnswers, Answers, RowFacts, PartAnswers, SearchFacts, ComesTo, IsDemand}
use Rattle.std.specs.Prelude.{Bool, true, false, option_map}
use Rattle.lucid_tree.proofs.Ways.{leads-join}
use Rattle.lucid_tree.proofs.SearchesLead.{search_leads, least_of, test_look}
use Rattle.lucid_equations.specs.declared.rows.Node.TheVariants.{Const}
use Rattle.lucid_demand_steps.specs.Decisions.{LookHas, LooksAtConstant}
use Rattle.lucid_demand_steps.proofs.Answering.{constant-answers}
use Rattle.lucid_demand_steps.proofs.Coming.{rest_of}
use Rattle.lucid_demand_steps.proofs.Noting.{stream_of_search}
use Rattle.lucid_demand_steps.proofs.Idling.{one-form}

same_look : (o : Option Look) (l k : Look) → o ≡ Some l → o ≡ Some k → k ≡ l
same_look o l k e h = cc

-- The task of a form's part is that of the look which the part answers.
pub part_is_of_its_look : (T : Table) (r : PlainRow) (f : Head) (es : PlainNodes) → node_of T r.task ≡ row f es → (index : ℕ) (l : Look) (y : PlainTask)
    → IsPart T r index y → look_of_row f r index ≡ Some l → look_task T r.task l ≡ Some y
part_is_of_its_look T r f es e index l y (part_by_look {f = g} {es = gs} {l = k} i n q t) w =
    let same : g ≡ f = one-form g f gs es (sym n ∙ e) in
    let look : k ≡ l = same_look (look_of_row f r index) l k w (subst (λ u. look_of_row u r index ≡ Some k) same q) in
    subst (λ u. look_task T r.task u ≡ Some y) look t
part_is_of_its_look T r f es e index l y (part_by_reference i o) w = absurd (subst (λ n. IsReference n) e i)

-- a form that doesn't search stands at its plan
rest_is_plan : (f : Head) → is_search f ≡ false → (m j n t s : ℕ) → rest_at f m j n t s ≡ plan m f t s
rest_is_plan whenever e m j n t s = cc
rest_is_plan f e m j n t s = cc

module _ (d : Demand) (b : Elements) (h : Holding) (lost : ℕ) (r : PlainRow) where
  -- a constant answers the look at it
  constant_is_answered : IsDemand d → (l : Look) (v : PlainValue) → LooksAtConstant (table_of d) r.task l v → LookAnswers d b h lost r.task l v
  constant_is_answered demand l v at = record {
    task = record r.task { node = at.part; time = l.time; space = l.space };
    is = ap (option_map (λ n. record r.task { node = n; time = l.time; space = l.space })) at.number;
    answers = constant-answers d b h lost (record r.task { node = at.part; time = l.time; space = l.space }) v
        (row-node (table_of d) demand.in_range at.part (Const at.constant) at.is ∙ ap (λ w. row (const w) no_nodes) at.value);
  }

  -- what the row's parts have as answers to looks answers the looks' tasks
  pub looks_are_answered : IsDemand d → RowFacts d b h lost r → (f : Head) (es : PlainNodes) → node_of (table_of d) r.task ≡ row f es
      → (l : Look) (v : PlainValue)
      → LookHas (table_of d) f r l v → LookAnswers d b h lost r.task l v
  looks_are_answered demand facts f es e l v (inr constant) = constant_is_answered demand l v constant
  looks_are_answered demand facts f es e l v (inl has) = go (facts.got_parts has.index v has.value)
    where
      go : PartAnswers d b h lost r has.index v → LookAnswers d b h lost r.task l v
      go a = record { task = a.task; is = part_is_of_its_look (table_of d) r f es e has.index l a.task a.is has.look; answers = a.answers }

  -- what was looked at answers the looks at it
  looked_answers : (f : Head) (k : ℕ) (s : SearchFacts d b h lost r f k) → part_number (table_of d) r.task.node 1 ≡ Some k → (least u : ℕ) (holds : Bool)
      → u < r.cursor.time
      → node_val (equations_of (table_of d)) b s.counted.0 (node_at (table_of d) k) r.task.context u r.task.space ≡ Some (truth holds)
      → LookAnswers d b h lost r.task (test_look u r.task.space least) (truth holds)
  looked_answers f k s number least u holds low value =
      record { task = stream; is = ap (option_map (λ n. record r.task { node = n; time = u })) number; answers = answer }
    where
      stream : PlainTask
      stream = record r.task { node = k; time = u }

      at : (m : ℕ) → Option PlainValue
      at m = node_val (equations_of (table_of d)) b m (node_at (table_of d) k) r.task.context u r.task.space

      own : (holds' : Bool) → at r.task.limit ≡ Some (truth holds') → at r.task.limit ≡ Some (truth holds)
      own holds' e =
          e ∙ ap Some (node-meant_once (equations_of (table_of d)) b (node_at (table_of d) k) r.task.context u r.task.space (truth holds') (truth holds)
          (r.task.limit, e) (s.counted.0, value))

      answer : Answers d b h lost stream (truth holds)
      answer = record {
        means = (s.counted.0, value);
        exact = λ empties. let own_truth = counted_truth
            (λ t. node_val (equations_of (table_of d)) b r.task.limit (node_at (table_of d) k) r.task.context t r.task.space) r.cursor.time r.cursor.count
            (s.exact empties) u low in own own_truth.0 own_truth.1;
        kept = λ keeps none. s.kept keeps none u low;
      }

  -- The row's search came by looks that are answered to where it stands.
  pub row_leads : IsDemand d → RowFacts d b h lost r → (f : Head) (es : PlainNodes) → node_of (table_of d) r.task ≡ row f es
      → LeadsTo (LookAnswers d b h lost r.task) (plan r.task.limit f r.task.time r.task.space) (rest_of f r)
  row_leads demand facts f es e = go (is_search f) refl
    where
      go : (found : Bool) → is_search f ≡ found → LeadsTo (LookAnswers d b h lost r.task) (plan r.task.limit f r.task.time r.task.space) (rest_of f r)
      go true searches =
          let k = stream_of_search (table_of d) demand.in_range r.task facts.there f es e searches in
          let s = facts.search f es k.0 e searches k.1 in
          search_leads (LookAnswers d b h lost r.task) (λ u.
          node_val (equations_of (table_of d)) b s.counted.0 (node_at (table_of d) k.0) r.task.context u r.task.space) f
          r.task.limit r.cursor.time r.cursor.count r.task.time r.task.space
          (λ u holds low value. looked_answers f k.0 s k.1 (least_of f r.task.time u) u holds low value) s.within s.counted.1
      go false stays =
          subst (λ q. LeadsTo (LookAnswers d b h lost r.task) (plan r.task.limit f r.task.time r.task.space) q)
          (sym (rest_is_plan f stays r.task.limit r.cursor.time r.cursor.count r.task.time r.task.space)) at_start

  -- So wherever the values of its parts lead the row, looks that are answered led it from the start of its plan.
  pub row_came : IsDemand d → RowFacts d b h lost r → (q : Plan) (s : ComesTo (table_of d) r q)
      → LeadsTo (LookAnswers d b h lost r.task) (plan r.task.limit s.form r.task.time r.task.space) q
  row_came demand facts q s =
      leads-join (LookAnswers d b h lost r.task) (plan r.task.limit s.form r.task.time r.task.space) (rest_of s.form r) q
      (row_leads demand facts s.form s.nodes s.is)
      (leads-maps (LookHas (table_of d) s.form r) (LookAnswers d b h lost r.task) (looks_are_answered demand facts s.form s.nodes s.is) (rest_of s.form r) q
      s.along)
