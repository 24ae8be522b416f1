-- What may be put: the value of a task that stands for the body of a daton.
use Rattle.lucid_demand_steps.proofs.Common.{◌≡◌, ℕ, [], sym, ap, ◌∙◌, subst, PlainValue, Elements, goes_to, NodePosition, daton_aim, NodeMeans, equations_of, Table, PlainTask, DatonAt, node_of, Holding, NeedsHeld, Demand, table_of, IsVisited, Answers, Remembers, MayPut}
use Rattle.lucid_demand_steps.proofs.Standing.{standing-answers}
use Rattle.lucid_demand_steps.proofs.Answering.{position_of, time_of}

abbrev at : Table → PlainTask → NodePosition
at T x = record { node = node_of T x; context = x.context }

-- A visited daton may be put with what answers the task with which it goes on.
pub body-may_be_put : (d : Demand) (b : Elements) (h : Holding) (lost : ℕ) (k : DatonAt) (x : PlainTask) (v : PlainValue)
    → daton_aim (equations_of (table_of d)) k.0 ≡ goes_to k.0 (at (table_of d) x) x.time → x.space ≡ k.1 → IsVisited d b k → Answers d b h lost x v
    → MayPut d b h lost k v
body-may_be_put d b h lost k x v aim space visited answers = record {
  means = record {
    position = at (table_of d) x;
    time = x.time;
    aim = aim;
    means = subst (λ s. NodeMeans (equations_of (table_of d)) b (node_of (table_of d) x) x.context x.time s v) space answers.means;
  };
  visited = visited;
  needs = λ keeps none y u other.
      let there : at (table_of d) x ≡ y = ap (position_of y) (sym aim ∙ other) in
      let time : x.time ≡ u = ap time_of (sym aim ∙ other) in
      subst (λ t. NeedsHeld (equations_of (table_of d)) b h y.node y.context t k.1) time
      (subst (λ z. NeedsHeld (equations_of (table_of d)) b h z.node z.context x.time k.1) there
      (subst (λ s. NeedsHeld (equations_of (table_of d)) b h (node_of (table_of d) x) x.context x.time s) space (answers.kept keeps none)));
}

-- What answers a row that remembers a daton may be put for it.
pub remembered-is_put : (d : Demand) (b : Elements) (h : Holding) (lost : ℕ) (x : PlainTask) (k : DatonAt) (v : PlainValue) → Remembers d b x k
    → Answers d b h lost x v
    → MayPut d b h lost k v
remembered-is_put d b h lost x k v m answers =
    body-may_be_put d b h lost k m.body v m.aim m.space m.visited
    (standing-answers d b h lost [] x m.body v m.stands (λ keeps none q i. absurd i) answers)
