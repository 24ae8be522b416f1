-- In a table in range the parts of a form are the nodes of their numbers.
use Rattle.lucid_equations.proofs.Common.{◌≡◌, ℕ, zero, suc, ◌<◌, length, List, [], ◌∷◌, Some, get_or, slice_get, sym, ap, ◌∙◌, subst, inl, inr, option_map, slice_get_cases, none-some, PlainValue, Head, Elements, Given, nothing_held, below, deeper, Context, PlainNode, row, PlainNodes, part_of, Daton, node_value, node_hval, node_walk, node_visits, at, all_at, parts, as_node, constants_of, node_at, node_by, row_at, equations_of, EachBelow, NodeIsInRange, IsInRange, sizes, Node, Const, NodeRow, Table, reads_parts, visits_parts}
use Rattle.lucid_equations.specs.Rows.{nodes_of}
use Rattle.lucid_equations.specs.RowParts.{HasPart}
use Rattle.lucid_equations.proofs.Rising.{read-row, node-in_range}
use Rattle.lucid_equations.proofs.Moving.{part-read, part-walked}

parts-are : (vs : List PlainValue) (ns : List (List ℕ)) (ts : List PlainNode) (n : Node) (f : Head) (es : PlainNodes) → as_node vs ns ts n ≡ row f es
    → es ≡ all_at ts (parts n)
parts-are vs ns ts (Const k) f es h = cc
parts-are vs ns ts n f es h = cc

part-at : (ts : List PlainNode) (is : List ℕ) (i k : ℕ) → slice_get is i ≡ Some k → part_of (all_at ts is) i ≡ Some (at ts k)
part-at ts [] i k e = absurd (none-some k e)
part-at ts (j ∷ is) zero k e = let h : j ≡ k = cc in ap (λ z. Some (at ts z)) h
part-at ts (j ∷ is) (suc i) k e = part-at ts is i k e

pub each-lower : (n : ℕ) (is : List ℕ) (i k : ℕ) → EachBelow n is → slice_get is i ≡ Some k → k < n
each-lower n [] i k b e = absurd (none-some k e)
each-lower n (j ∷ is) zero k b e = let h : j ≡ k = cc in subst (λ z. z < n) h b.0
each-lower n (j ∷ is) (suc i) k b e = each-lower n is i k b.1 e

-- a row that is there
record There (rs : List NodeRow) (id : ℕ) (n : Node) : Type 0 where
  its : NodeRow
  within : id < length rs
  here : get_or rs id its ≡ its
  node_is : its.node ≡ n

found-there : (rs : List NodeRow) (id : ℕ) (n : Node) → option_map (λ r. r.node) (slice_get rs id) ≡ Some n → There rs id n
found-there rs id n e =
    elim ((slice_get_cases rs id).1) [
      | inl h ↦ record { its = h.0; within = h.1; here = h.3; node_is = (let z : Some h.0.node ≡ Some n = sym (ap (option_map (λ r. r.node)) h.2) ∙ e in cc) }
      | inr h ↦ absurd (none-some n (sym (ap (option_map (λ r. r.node)) h.1) ∙ e))
    ]

module _ (T : Table) (range : IsInRange T) where
  pub row-node : (id : ℕ) (n : Node) → row_at T id ≡ Some n → node_at T id ≡ node_by T n
  row-node id n e =
      let h = found-there T.nodes id n e in
      read-row (constants_of T) T.inputs (sizes T) T.nodes id h.its range.2 h.within ∙ ap (node_by T) (ap (λ r. r.node) h.here ∙ h.node_is)

  row-range : (id : ℕ) (n : Node) → row_at T id ≡ Some n → NodeIsInRange (sizes T) id n
  row-range id n e =
      let h = found-there T.nodes id n e in
      subst (NodeIsInRange (sizes T) id) (ap (λ r. r.node) h.here ∙ h.node_is) (node-in_range (sizes T) T.nodes id h.its range.2 h.within)

  pub part-lower : (id i k : ℕ) → HasPart T id i k → k < id
  part-lower id i k h = each-lower id (parts h.row) i k (row-range id h.row h.there).0 h.names

  pub part-node : (id i k : ℕ) → HasPart T id i k → (f : Head) (es : PlainNodes) → node_at T id ≡ row f es → part_of es i ≡ Some (node_at T k)
  part-node id i k h f es e =
      let is : es ≡ all_at (nodes_of T) (parts h.row) = parts-are (constants_of T) T.inputs (nodes_of T) h.row f es (sym (row-node id h.row h.there) ∙ e) in
      ap (λ z. part_of z i) is ∙ part-at (nodes_of T) (parts h.row) i k h.names

  pub part-value : (id i k : ℕ) → HasPart T id i k → (f : Head) (es : PlainNodes) → node_at T id ≡ row f es → (g : Given Daton) (m : ℕ) (c : Context) (t s : ℕ)
      → reads_parts (equations_of T) g m es c i t s ≡ node_hval (equations_of T) g m (node_at T k) c t s
  part-value id i k h f es e g m c t s = part-read (equations_of T) m (below (node_value (equations_of T)) g m) es i (node_at T k) (part-node id i k h f es e) c
      t s

  pub part-visits : (id i k : ℕ) → HasPart T id i k → (f : Head) (es : PlainNodes) → node_at T id ≡ row f es → (b : Elements) (m d : ℕ) (c : Context) (t s : ℕ)
      → visits_parts (equations_of T) b m d es c i t s ≡ node_visits (equations_of T) b m d (node_at T k) c t s
  part-visits id i k h f es e b m d c t s =
      part-walked (equations_of T) (nothing_held b) m d (deeper (node_walk (equations_of T) (nothing_held b)) m d) es i (node_at T k)
      (part-node id i k h f es e) c t s
