-- The task of a look: it is that of the part's node at the look's point, one of the table's, with a lower number; and what the form
-- reads, visits and needs of that part is what the task has, visits and needs.
use Rattle.lucid_demand_steps.proofs.Common.{◌≡◌, ℕ, ◌<◌, Option, Some, None, refl, sym, ap, ◌∙◌, subst, arith, none-some, Head, Look, Elements, Given, PlainNode, row, PlainNodes, part_of, Daton, node_hval, IsNeeded, parts, equations_of, HasPart, IsInRange, reads_parts, visits_parts, Node, Table, part-lower, part-node, PlainTask, DatonAt, node_of, part_number, rank, look_task, IsTask, visits_of, TaskNeeds}
use Rattle.std.proofs.Common.{slice_get}
use Rattle.std.specs.Prelude.{option_map, option_and_then}
use Rattle.lucid_equations.specs.Rows.{row_at}
use Rattle.lucid_equations.proofs.PartsRead.{part-value, part-visits}

row_there : (o : Option Node) (i k : ℕ) → option_and_then (λ x. slice_get (parts x) i) o ≡ Some k → (n : Node) × (o ≡ Some n) × (slice_get (parts n) i ≡ Some k)
row_there None i k e = absurd (none-some k e)
row_there (Some n) i k e = (n, refl, e)

-- a part's number is that of a part of the row
pub has_part : (T : Table) (id i k : ℕ) → part_number T id i ≡ Some k → HasPart T id i k
has_part T id i k e =
    let h = row_there (row_at T id) i k e in
    record { row = h.0; there = h.1; names = h.2 }

-- The task of a look at a task's part.
pub record LooksAt (T : Table) (x : PlainTask) (l : Look) (y : PlainTask) : Type 0 where
  pub node : ℕ
  pub number : part_number T x.node l.part ≡ Some node
  pub part : HasPart T x.node l.part node
  pub is : y ≡ record x { node = node; time = l.time; space = l.space }

looked_at : (T : Table) (x : PlainTask) (l : Look) (o : Option ℕ) (y : PlainTask) → part_number T x.node l.part ≡ o
    → option_map (λ n. record x { node = n; time = l.time; space = l.space }) o ≡ Some y → LooksAt T x l y
looked_at T x l None y h e = absurd (none-some y e)
looked_at T x l (Some n) y h e =
    let same : record x { node = n; time = l.time; space = l.space } ≡ y = cc in
    record { node = n; number = h; part = has_part T x.node l.part n h; is = sym same }

pub looks_at : (T : Table) (x : PlainTask) (l : Look) (y : PlainTask) → look_task T x l ≡ Some y → LooksAt T x l y
looks_at T x l y e = looked_at T x l (part_number T x.node l.part) y refl e

module _ (T : Table) (range : IsInRange T) (x : PlainTask) (l : Look) (y : PlainTask) (at : LooksAt T x l y) where
  -- its node is lower,
  pub look_is_lower : y.node < x.node
  look_is_lower = subst (λ z. z.node < x.node) (sym at.is) (part-lower T range x.node l.part at.node at.part)

  pub look_is_there : IsTask T x → IsTask T y
  look_is_there there = let low = look_is_lower in omega (arith, low, there)

  -- and so is its rank.
  pub look_ranks_lower : rank T y < rank T x
  look_ranks_lower =
      let low : at.node < x.node = part-lower T range x.node l.part at.node at.part in
      subst (λ z. rank T z < rank T x) (sym at.is) (omega (arith, low))

  pub look_keeps_limit : y.limit ≡ x.limit
  look_keeps_limit = ap (λ z. z.limit) at.is

  module _ (f : Head) (es : PlainNodes) (e : node_of T x ≡ row f es) where
    pub look_part : part_of es l.part ≡ Some (node_of T y)
    look_part = part-node T range x.node l.part at.node at.part f es e ∙ ap (λ z. Some (node_of T z)) (sym at.is)

    -- What the form reads of the part is what the task has,
    pub look_value : (g : Given Daton) (m : ℕ) → reads_parts (equations_of T) g m es x.context l.part l.time l.space ≡ node_hval (equations_of T) g m
        (node_of T y) y.context y.time y.space
    look_value g m =
        part-value T range x.node l.part at.node at.part f es e g m x.context l.time l.space
        ∙ ap (λ z. node_hval (equations_of T) g m (node_of T z) z.context z.time z.space) (sym at.is)

    -- and what it visits of it the task visits.
    pub look_visits : (b : Elements) (m d : ℕ) → visits_parts (equations_of T) b m d es x.context l.part l.time l.space ≡ visits_of T b m d y
    look_visits b m d = part-visits T range x.node l.part at.node at.part f es e b m d x.context l.time l.space ∙ ap (λ z. visits_of T b m d z) (sym at.is)

    -- What the part needs at the look's point is what the task needs.
    pub look_needs : (b : Elements) (part : PlainNode) → part_of es l.part ≡ Some part → (k : DatonAt)
        → IsNeeded (equations_of T) b part x.context l.time l.space k → TaskNeeds T b y k
    look_needs b part h k n =
        let same : part ≡ node_of T y = let both : Some part ≡ Some (node_of T y) = sym h ∙ look_part in cc in
        let here : IsNeeded (equations_of T) b (node_of T y) x.context l.time l.space k =
        subst (λ q. IsNeeded (equations_of T) b q x.context l.time l.space k) same n in
        subst (λ z. IsNeeded (equations_of T) b (node_of T y) z.context z.time z.space k) (sym at.is) here
