-- A look that stands next in the plan of a wanted task: its part is wanted where the limit takes the look, and else it is too deep; and with a
-- value that the part means the plan goes on.
use Rattle.lucid_cert.proofs.Common.{◌≡◌, ℕ, ◌+◌, ◌<◌, ◌≤◌, max, true, List, [], ◌∷◌, ◌++◌, Option, Some, None, sym, ap, ◌∙◌, subst, arith, nat_le, nat_tests, same_Some, PlainValue, Head, In, Inside, Elements, plan, run, Reader, Reads, points_of, PlainNode, row, node_val, NodeMeans, node_visits, IsInRange, equations_of, row_at, Node, Table, row-node, PlainTask, node_of, look_task, visits_of, task_val, task_visits, HasHead, IsForm, by_then, least_of, rest_plan, CanGoOn, Stands, AreFedAlike, Rest, plain_look, IsWanted, gone_on, HasCome}
use Rattle.lucid_tree.specs.Levels.{nothing_held}
use Rattle.lucid_tree.specs.Rows.{Look}
use Rattle.lucid_tree.specs.Rests.{ReadsAtSome}
use Rattle.lucid_tree.proofs.RunsMeant.{plan-up, reader-up}
use Rattle.lucid_tree.proofs.Settled.{takes_plan}
use Rattle.lucid_equations.specs.Parts.{reads_parts, visits_parts}
use Rattle.lucid_equations.proofs.ByStep.{parts-keep}
use Rattle.lucid_equations.proofs.FormNeeds.{look-visited}
use Rattle.lucid_demand_steps.proofs.Looking.{LooksAt, looks_at, look_value, look_visits, look_keeps_limit}
use Rattle.lucid_cert_rules.specs.declared.rest.Look.{Look as NextLook}
use Rattle.lucid_cert_rules.specs.declared.rest.Rest.TheVariants as rest
use Rattle.lucid_cert_rules.proofs.GivenBy.{of_form}
use Rattle.lucid_cert.proofs.Using.{earlier_by}
use Rattle.lucid_cert.specs.Wanted.{begun}
use Rattle.lucid_cert.proofs.Wanting.{none_where}
use Rattle.lucid_cert.proofs.ComingBy.{taken_by, runs_fed, fed_within, next_has, next_looked}

-- A form's plan has begun.
pub has_begun : (T : Table) → IsInRange T → (b : Elements) (x : PlainTask) (n : Node) (r : Rest) → row_at T x.node ≡ Some n → IsForm n
    → ((f : Head) → HasHead T n f → (m most : ℕ) → x.time + most ≤ m → AreFedAlike most (plan m f x.time x.space) (rest_plan m [] r)) → Stands 0 r
    → HasCome T b x r
has_begun T range b x n r there form begins stands =
    let f = of_form T n form in
    record { head = f.head; nodes = f.nodes; is = row-node T range x.node n there ∙ f.is; values = []; comes = begun r (begins f.head f.has) stands }

module _ (T : Table) (range : IsInRange T) (b : Elements) (x : PlainTask) (l : NextLook) (h : HasCome T b x (rest.Look l)) where
  abbrev reads : (limit : ℕ) → Reader (Option PlainValue)
  reads n = reads_parts (equations_of T) (nothing_held b) n h.nodes x.context

  abbrev value_of : Look → ℕ → Option PlainValue
  value_of = taken_by x.limit (reads x.limit)

  reads_on : (n k : ℕ) → n ≤ k → (q : Look) (v : PlainValue) → Reads (reads n) q v → Reads (reads k) q v
  reads_on n k le q v e = reader-up reads (parts-keep (equations_of T) (nothing_held b) h.nodes x.context) n k le q.part q.time q.space v e

  agree : (q : Look) (v w : PlainValue) (u : ℕ) → ReadsAtSome reads q v → value_of q u ≡ Some w → v ≡ w
  agree q v w u m e =
      let p = earlier_by (nat_le q.least x.limit) (reads x.limit q.part q.time q.space) w e in
      let n : ℕ = max m.0 x.limit in
      same_Some v w (sym (reads_on m.0 n (omega arith) q v m.1) ∙ reads_on x.limit n (omega arith) q w p.1)

  -- where the form's approximation is defined, so is that of the part, and the limit takes the look
  next_of_own : (v : PlainValue) → task_val T b x ≡ Some v
      → (nat_le (least_of l.then l.time) x.limit ≡ true) × (w : PlainValue) × (reads x.limit l.part l.time l.space ≡ Some w)
  next_of_own v e =
      let runs : run (plan x.limit h.head x.time x.space) (reads x.limit) ≡ Some v =
      sym (ap (λ (n : PlainNode). node_val (equations_of T) b x.limit n x.context x.time x.space) h.is) ∙ e in
      let by = runs_fed x.limit (reads x.limit) (plan x.limit h.head x.time x.space) (takes_plan x.limit h.head x.time x.space) v runs in
      let next = next_has (ReadsAtSome reads) (λ m. plan m h.head x.time x.space) x.time value_of agree v x.limit by.0
      (λ n le. fed_within value_of (plan x.limit h.head x.time x.space) (plan n h.head x.time x.space) (plan-up x.limit n le h.head x.time x.space) by.0 v by.1)
      h.values l h.comes in
      let p = earlier_by (nat_le (least_of l.then l.time) x.limit) (reads x.limit l.part l.time l.space) next.1 next.2 in
      (p.0, next.1, p.1)

  -- With a value that the part means the plan goes on.
  pub has_come_on : (y : PlainTask) (v : PlainValue) (r : Rest) → look_task T x (plain_look l) ≡ Some y
      → NodeMeans (equations_of T) b (node_of T y) y.context y.time y.space v
      → ((m k most : ℕ) (vs : List PlainValue) → CanGoOn k l → k + 1 + most ≤ m
      → AreFedAlike most (by_then m vs l.then l.part l.time l.space v) (rest_plan m (vs ++ v ∷ []) r))
      → ((k : ℕ) → CanGoOn k l → Stands (k + 1) r) → HasCome T b x r
  has_come_on y v r is means goes stands = record {
    head = h.head;
    nodes = h.nodes;
    is = h.is;
    values = h.values ++ v ∷ [];
    comes = gone_on h.values l v r h.comes
        (means.0, look_value T range x (plain_look l) y (looks_at T x (plain_look l) y is) h.head h.nodes h.is (nothing_held b) means.0 ∙ means.1) goes stands;
  }

  module _ (root : PlainTask) (w : IsWanted T b root x) where
    -- A look that the limit doesn't take is too deep:
    pub look_too_deep : x.limit < least_of l.then l.time → task_val T b root ≡ None
    look_too_deep high = none_where (task_val T b root) (λ v e.
        let own = w.needed v e in
        let next = next_of_own own.0 own.1 in
        let taken : nat_le (least_of l.then l.time) x.limit ≡ true = next.0 in
        let low : least_of l.then l.time ≤ x.limit = grind (arith, nat_tests) in absurd (omega (arith, low, high)))

    -- and the part of one that it takes is wanted.
    module _ (low : least_of l.then l.time ≤ x.limit) (y : PlainTask) (is : look_task T x (plain_look l) ≡ Some y) where
      abbrev at : LooksAt T x (plain_look l) y
      at = looks_at T x (plain_look l) y is

      part_needed : (v : PlainValue) → task_val T b root ≡ Some v → (u : PlainValue) × (task_val T b y ≡ Some u)
      part_needed v e =
          let own = w.needed v e in
          let next = next_of_own own.0 own.1 in
          let value : node_val (equations_of T) b x.limit (node_of T y) y.context y.time y.space ≡ Some next.1 =
          sym (look_value T range x (plain_look l) y at h.head h.nodes h.is (nothing_held b) x.limit) ∙ next.2 in (
            next.1,
            ap (λ (n : ℕ). node_val (equations_of T) b n (node_of T y) y.context y.time y.space) (look_keeps_limit T range x (plain_look l) y at)
                ∙ value,
          )

      looked : (least : ℕ) × ((n : ℕ) → least ≤ n → In (l.part, l.time, l.space) (points_of x.limit (plan n h.head x.time x.space) (reads n)))
      looked = next_looked (ReadsAtSome reads) (λ m. plan m h.head x.time x.space) x.time reads (λ q v m. (m.0, λ k le. reads_on m.0 k le q v m.1)) h.values l
          h.comes x.limit low

      part_seen : (d : ℕ) → max w.added looked.0 ≤ d → Inside (task_visits T b d y) (task_visits T b d root)
      part_seen d le z i =
          let here : In z (visits_of T b x.limit d y) = subst (λ (n : ℕ). In z (visits_of T b n d y)) (look_keeps_limit T range x (plain_look l) y at) i in
          let visited : In z (visits_parts (equations_of T) b x.limit d h.nodes x.context l.part l.time l.space) =
          subst (λ zs. In z zs) (sym (look_visits T range x (plain_look l) y at h.head h.nodes h.is b x.limit d)) here in
          let form : In z (node_visits (equations_of T) b x.limit d (row h.head h.nodes) x.context x.time x.space) =
          look-visited (equations_of T) b x.limit d h.head h.nodes x.context x.time x.space l.part l.time l.space (looked.1 (x.limit + d) (omega (arith, le))) z
          visited in
          w.seen d (omega (arith, le)) z (subst (λ (n : PlainNode). In z (node_visits (equations_of T) b x.limit d n x.context x.time x.space)) (sym h.is) form)

      pub look_is_wanted : IsWanted T b root y
      look_is_wanted = record { needed = part_needed; added = max w.added looked.0; seen = part_seen }
