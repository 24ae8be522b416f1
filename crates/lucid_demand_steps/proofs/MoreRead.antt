-- What is held and noted stays right, and closed, where more elements are read.
use Rattle.lucid_demand_steps.proofs.Common.{◌≡◌, ℕ, ◌<◌, List, Some, None, sym, ap, ◌∙◌, subst, same_Some, value_there, PlainValue, truth, Head, Elements, goes_to, count-keeps, counted_truth, Context, space_of, Noted, PlainNode, Equations, Daton, NodePosition, NodeAim, daton_aim, node_val, NodeMeans, node_at, equations_of, Extends, Table, Holding, given, HoldsRight, IsClosed, Counted, NotedRight, AllNotedRight, AllNotedClosed, cursor_noted}
use Rattle.lucid_tags.specs.Known.{context_of}
use Rattle.lucid_equations.specs.Laws.{HeldIsMeant}
use Rattle.lucid_equations.proofs.MoreElements.{node_hval-extends, meaning-extends, needed-same}
use Rattle.lucid_demand_steps.proofs.Idling.{one-form}

-- What is held is right by more elements too,
pub right_over : (p : Equations) (b c : Elements) → Extends b c → (h : Holding) → HoldsRight p b h → HoldsRight p c h
right_over p b c more h right d s v e =
    let m = right d s v e in
    record { position = m.position; time = m.time; aim = m.aim; means = meaning-extends p b c more m.position.node m.position.context m.time s v m.means }

abbrev position_in : NodePosition → NodeAim → NodePosition
position_in z (goes_to k y u) = y
position_in z _ = z

abbrev time_in : NodeAim → ℕ
time_in (goes_to k y u) = u
time_in _ = 0

-- what a daton that is held goes on with means its value
pub held_means : (p : Equations) (b : Elements) (h : Holding) → HoldsRight p b h → (d : Daton) (x : NodePosition) (u s : ℕ) (v : PlainValue)
    → daton_aim p d ≡ goes_to d x u → h d s ≡ Some v
    → NodeMeans p b x.node x.context u s v
held_means p b h right d x u s v aim e =
    let m = right d s v e in
    let y : m.position ≡ x = ap (position_in x) (sym m.aim ∙ aim) in
    let t : m.time ≡ u = ap time_in (sym m.aim ∙ aim) in
    subst (λ z. NodeMeans p b x.node x.context z s v) t (subst (λ z. NodeMeans p b z.node z.context m.time s v) y m.means)

-- So what is held is meant.
pub right_is_meant : (p : Equations) (b : Elements) (h : Holding) → HoldsRight p b h → HeldIsMeant p (given b h)
right_is_meant p b h right d x u s v aim e = held_means p b h right d x u s v aim e

-- closed,
pub closed_over : (p : Equations) (b c : Elements) → Extends b c → (h : Holding) → HoldsRight p b h → IsClosed p b h → IsClosed p c h
closed_over p b c more h right closed d x u s i aim k n =
    let v = value_there (h d s) i in
    closed d x u s i aim k ((needed-same p b c more x.node x.context u s v.0 (held_means p b h right d x u s v.0 aim v.1) k).0 n)

-- and what is noted is counted,
counted_over : (p : Equations) (b c : Elements) → Extends b c → (e : PlainNode) (f : Context) (s t n : ℕ) → Counted p b e f s t n → Counted p c e f s t n
counted_over p b c more e f s t n r = (
  r.0,
  count-keeps (λ u. node_val p b r.0 e f u s) (λ u. node_val p c r.0 e f u s) (λ u v h. node_hval-extends p b c more (λ d z. None) r.0 e f u s v h) t n
      r.1,
)

pub noted_over : (T : Table) (b c : Elements) → Extends b c → (known : List Context) (noted : Noted) → AllNotedRight T b known noted
    → AllNotedRight T c known noted
noted_over T b c more known noted right node tag key number e =
    let r = right node tag key number e in
    record {
      form = r.form;
      nodes = r.nodes;
      is = r.is;
      search = r.search;
      known_tag = r.known_tag;
      stream = r.stream;
      part = r.part;
      counted = counted_over (equations_of T) b c more (node_at T r.stream) (context_of known tag) (space_of tag) (cursor_noted r.form key number).time
          (cursor_noted r.form key number).count r.counted;
    }

-- with all that the looks before it need.
pub noted_closed_over : (T : Table) (b c : Elements) → Extends b c → (known : List Context) (noted : Noted) (h : Holding) → AllNotedRight T b known noted
    → AllNotedClosed T b known noted h → AllNotedClosed T c known noted h
noted_closed_over T b c more known noted h right closed node tag key number e form nodes is stream part u lt k n =
    closed node tag key number e form nodes is stream part u lt k
    ((needed-same (equations_of T) b c more (node_at T stream) (context_of known tag) u (space_of tag) there.0 there.1 k).0 n)
  where
    r : NotedRight T b known node tag key number
    r = right node tag key number e

    truth_there : (g : Head) → form ≡ g → (q : ℕ) → stream ≡ q
        → Counted (equations_of T) b (node_at T q) (context_of known tag) (space_of tag) (cursor_noted g key number).time (cursor_noted g key number).count
        → (v : PlainValue) × NodeMeans (equations_of T) b (node_at T stream) (context_of known tag) u (space_of tag) v
    truth_there g same q this count =
        let t = counted_truth (λ w. node_val (equations_of T) b count.0 (node_at T q) (context_of known tag) w (space_of tag)) (cursor_noted g key number).time
        (cursor_noted g key number).count count.1 u
        (subst (λ z. u < (cursor_noted z key number).time) same lt) in
        (truth t.0, subst (λ z. NodeMeans (equations_of T) b (node_at T z) (context_of known tag) u (space_of tag) (truth t.0)) (sym this) (count.0, t.1))

    there : (v : PlainValue) × NodeMeans (equations_of T) b (node_at T stream) (context_of known tag) u (space_of tag) v
    there = truth_there r.form (one-form form r.form nodes r.nodes (sym is ∙ r.is)) r.stream (same_Some _ _ (sym part ∙ r.part)) r.counted
