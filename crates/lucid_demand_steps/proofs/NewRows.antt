-- The tasks that may be asked for, and the rows that are made of them.
use Rattle.lucid_demand_steps.proofs.Common.{◌≡◌, ℕ, zero, suc, ◌<◌, ◌≤◌, inl, inr, List, [], ◌∷◌, Option, Some, None, refl, sym, ◌∙◌, subst, arith, Head, whenever, asa, upon, Elements, reference_of, CanStandAt, inside-read, Part, NodePosition, IsInRange, equations_of, Table, node-by_daton, PlainTask, PlainRow, DatonAt, new_row, node_of, rank, moved, passed, IsTask, GoesTo, Lacks, Holding, higher, StandsFor, task_visits, Demand, table_of, stays, IsSeen, IsVisited, RowFacts, IsWanted, Remembers, IsDemand}
use Rattle.std.proofs.Common.{length}
use Rattle.lucid_demand_steps.proofs.Standing.{stands-then, standing-is_defined, standing-is_seen}
use Rattle.lucid_demand_steps.proofs.Passing.{passed-stands}
use Rattle.lucid_demand_steps.proofs.References.{references-stand, reference-visits, lower-limit}
use Rattle.lucid_demand_steps.proofs.Searching.{nothing_got}

higher-is_more : (n m : ℕ) → m ≤ higher n m
higher-is_more zero m = omega arith
higher-is_more (suc n) m = let h = higher-is_more n m in omega (arith, h)

-- The root may be asked for,
pub root-is_wanted : (d : Demand) (b : Elements) → IsDemand d → IsWanted d b d.root
root-is_wanted d b is = record { there = is.there; limit = omega arith; needed = λ e. e; seen = record { added = 0; none = λ e. refl; holds = λ n l v i. i } }

-- and so may the task of a row,
pub row-is_wanted : (d : Demand) (b : Elements) (h : Holding) (lost : ℕ) (r : PlainRow) → RowFacts d b h lost r → IsWanted d b r.task
row-is_wanted d b h lost r facts = record { there = facts.there; limit = facts.limit; needed = facts.needed; seen = facts.seen }

-- and a task that stands for one that may be, where none of the datons on the way stays held.
pub standing-is_wanted : (d : Demand) (b : Elements) (ks : List DatonAt) (x y : PlainTask) → Lacks (stays d) ks → StandsFor (table_of d) ks x y
    → IsTask (table_of d) x → IsWanted d b y → IsWanted d b x
standing-is_wanted d b ks x y lacks stands there wanted = record {
  there = there;
  limit =
      let low : y.limit ≤ d.root.limit = wanted.limit in
      let more : x.limit ≤ higher stands.fewer x.limit = higher-is_more stands.fewer x.limit in
      let same : y.limit ≡ higher stands.fewer x.limit = stands.limit in
      omega (arith, low, more, same);
  needed = λ root. standing-is_defined (table_of d) b (stays d) ks x y lacks stands (wanted.needed root);
  seen = standing-is_seen d b ks x y stands wanted.seen;
}

-- What the body of a reference moves on to stands for it by its daton, at a lower rank, and doesn't move the point.
pub record StandsBelow (T : Table) (x y : PlainTask) (k : DatonAt) : Type 0 where
  pub stands : StandsFor T (k ∷ []) y x
  pub lower : rank T y < rank T x
  pub there : IsTask T y
  pub still : moved T y ≡ None

pub body-stands : (T : Table) → IsInRange T → (x body : PlainTask) (k : DatonAt) → GoesTo T x k body → StandsBelow T x (passed T body) k
body-stands T range x body k goes =
    let last = passed-stands T range body goes.there in
    let low = lower-limit (length T.nodes) body.limit body.node x.node x.limit goes.there goes.limit in
    record {
      stands = stands-then T [] (k ∷ []) (passed T body) body x last.0 (references-stand T x body k goes);
      lower = omega (arith, last.0.rank, low);
      there = last.2;
      still = last.1;
    }

lacks-one : (d : Demand) (k : DatonAt) → stays d k.0 k.1 ≡ None → Lacks (stays d) (k ∷ [])
lacks-one d k absent q (inl e) = subst (λ z. stays d z.0 z.1 ≡ None) (sym e) absent
lacks-one d k absent q (inr i) = absurd i

-- So it may be asked for, where the daton doesn't stay held.
pub body-is_wanted : (d : Demand) (b : Elements) (x y : PlainTask) (k : DatonAt) → StandsBelow (table_of d) x y k → stays d k.0 k.1 ≡ None → IsWanted d b x
    → IsWanted d b y
body-is_wanted d b x y k below absent wanted = standing-is_wanted d b (k ∷ []) y x (lacks-one d k absent) below.stands below.there wanted

-- a search can stand where it starts
can_start : (f : Head) (t : ℕ) → CanStandAt f 0 0 t
can_start whenever t = omega arith
can_start asa t = refl
can_start upon t = omega arith
can_start _ t = tt

-- A new row of a task that may be asked for has its facts.
pub new_row-facts : (d : Demand) (b : Elements) (h : Holding) (lost : ℕ) (x : PlainTask) (parent : Option Part) (key : Option DatonAt) → IsWanted d b x
    → moved (table_of d) x ≡ None → ((k : DatonAt) → key ≡ Some k → Remembers d b x k) → RowFacts d b h lost (new_row x parent key)
new_row-facts d b h lost x parent key wanted still remembers = record {
  there = wanted.there;
  three = refl;
  limit = wanted.limit;
  still = still;
  needed = wanted.needed;
  seen = wanted.seen;
  search = λ f es stream e s p. record {
    counted = (0, refl);
    exact = λ empties. refl;
    kept = λ keeps none u lt. absurd (omega (arith, lt));
    within = can_start f x.time;
  };
  got_parts = λ i v e. absurd (nothing_got i v e);
  remembers = remembers;
}

-- The root goes to the daton of a reference that it sees and that has the limit to go on.
pub reference-is_visited : (d : Demand) (b : Elements) (x y : PlainTask) (k : DatonAt) → IsSeen d b x → GoesTo (table_of d) x k y → IsVisited d b k
reference-is_visited d b x y k seen goes = record {
  added = seen.added;
  none = seen.none;
  holds = λ e l. inside-read reference_of (task_visits (table_of d) b e x) (task_visits (table_of d) b e d.root) (seen.holds e l) k
      (reference-visits (table_of d) b e x y k goes);
}

-- A row of what the body moves on to remembers the reference's daton.
pub body-remembers : (d : Demand) → IsInRange (table_of d) → (b : Elements) (x body : PlainTask) (k : DatonAt) → IsSeen d b x → GoesTo (table_of d) x k body
    → stays d k.0 k.1 ≡ None → Remembers d b (passed (table_of d) body) k
body-remembers d range b x body k seen goes absent = record {
  absent = absent;
  body = body;
  aim = node-by_daton (equations_of (table_of d)) (node_of (table_of d) x) x.context x.time k.0 at body.time goes.aim;
  space = goes.same_space ∙ sym goes.space;
  stands = (passed-stands (table_of d) range body goes.there).0;
  visited = reference-is_visited d b x body k seen goes;
}
  where
    at : NodePosition
    at = record { node = node_of (table_of d) body; context = body.context }
