-- Aims by numbers: their plain aims are those of the nodes, and their numbers are those of nodes.
use Rattle.lucid_equations.proofs.Common.{◌≡◌, ℕ, ◌+◌, ◌<◌, ◌≤◌, length, List, [], ◌∷◌, ◌++◌, Option, Some, None, slice_get, refl, sym, ap, ◌∙◌, subst, inl, inr, arith, length-append, option_map, slice_get_cases, none-some, PlainValue, goes_to, nowhere, element_of, Context, call_frame, frozen_frame, cut, PlainNode, to_actual, by_entry, name_aim, called_from, node_aim, no_node, as_node, grow, constants_of, node_at, node_by, row_at, actuals_of, equations_of, EachBelow, sizes, EntryIsInRange, IsInRange, Node, NodeRow, NameRow, PlaceRow, Table, get_or_past, same_Some}
use Rattle.lucid_equations.specs.Rows.{entry_by, name_at, actual_at}
use Rattle.lucid_equations.specs.NumberAims.{NumberAim, to_actual_number, by_name_row, name_number_aim, row_aim, plain_aim, NodesGoByNumbers, DatonsGoByNumbers, AimsLeadToNodes}
use Rattle.lucid_equations.specs.declared.rows.Node.TheVariants.{Refer, Call}
use Rattle.lucid_equations.specs.declared.rows.Entry.{Entry}
use Rattle.lucid_equations.specs.declared.rows.Entry.TheVariants.{Plain, Parameter, Current, Called}
use Rattle.lucid_equations.proofs.Rising.{name-in_range, place-in_range}
use Rattle.lucid_equations.proofs.PartsRead.{row-node, each-lower}

-- as many nodes as rows
pub grown-count : (vs : List PlainValue) (ns : List (List ℕ)) (ts : List PlainNode) (rs : List NodeRow) → length (grow vs ns ts rs) ≡ length ts + length rs
grown-count vs ns ts [] = omega arith
grown-count vs ns ts (r ∷ rs) =
    let h = grown-count vs ns (ts ++ as_node vs ns ts r.node ∷ []) rs in
    let g = length-append ts (as_node vs ns ts r.node ∷ []) in
    omega (arith, h, g)

abbrev kind_in : NameRow → Entry
kind_in r = r.kind

abbrev node_in : NodeRow → Node
node_in r = r.node

module _ (T : Table) where
  -- the plain aims
  actual-plain : (o : Option ℕ) (n : ℕ) (c f : Context) (t : ℕ) → to_actual (option_map (node_at T) o) n c f t ≡ plain_aim T (to_actual_number o n c f t)
  actual-plain None n c f t = refl
  actual-plain (Some id) n c f t = refl

  entry-plain : (o : Option Entry) (n : ℕ) (c : Context) (t : ℕ)
      → by_entry (equations_of T) (option_map (entry_by T) o) n c t ≡ plain_aim T (by_name_row T o n c t)
  entry-plain (Some (Parameter i)) n (call_frame at f c) t = actual-plain (actual_at T at i) n (call_frame at f c) f t
  entry-plain (Some (Current id)) n (frozen_frame u c) t = refl
  entry-plain o n c t = refl

  name-plain : (n : ℕ) (o : Option Context) (t : ℕ) → name_aim (equations_of T) n o t ≡ plain_aim T (name_number_aim T n o t)
  name-plain n None t = refl
  name-plain n (Some c) t = entry-plain (name_at T n) n c t

  row-plain : (r : Node) (c : Context) (t : ℕ) → node_aim (equations_of T) (node_by T r) c t ≡ plain_aim T (row_aim T (Some r) c t)
  row-plain (Refer n l) c t = name-plain n (cut l c) t
  row-plain (Call n q l) c t = name-plain n (called_from q c (cut l c)) t
  row-plain _ c t = refl

  -- past the last row there is no node
  past-none : (id : ℕ) → length T.nodes ≤ id → node_at T id ≡ no_node
  past-none id past = get_or_past (grow (constants_of T) T.inputs [] T.nodes) id no_node (omega (arith, past, grown-count (constants_of T) T.inputs [] T.nodes))

  -- numbers that lead to nodes
  abbrev LeadsToNode : NumberAim → Type 0
  LeadsToNode (element_of n j) = Unit {0}
  LeadsToNode (goes_to k x u) = x.number < length T.nodes
  LeadsToNode nowhere = Unit {0}

  module _ (range : IsInRange T) where
    entry-there : (n : ℕ) (e : Entry) → name_at T n ≡ Some e → EntryIsInRange (sizes T) e
    entry-there n e h =
        elim ((slice_get_cases T.names n).1) [
          | inl r ↦
              let named : r.0.kind ≡ e = same_Some r.0.kind e (sym (ap (option_map kind_in) r.2) ∙ h) in
              subst (EntryIsInRange (sizes T)) (ap kind_in r.3 ∙ named) (name-in_range (sizes T) T.names n r.0 range.3 r.1)
          | inr r ↦ absurd (none-some e (sym (ap (option_map kind_in) r.1) ∙ h))
        ]

    actual-there : (q i id : ℕ) → actual_at T q i ≡ Some id → id < length T.nodes
    actual-there q i id h =
        elim ((slice_get_cases T.places q).1) [
          | inl r ↦
              let here : slice_get r.0.actuals i ≡ Some id = sym (ap (λ o. slice_get (actuals_of o) i) r.2) ∙ h in
              let each : EachBelow (length T.nodes) r.0.actuals =
              subst (λ (x : PlaceRow). EachBelow (length T.nodes) x.actuals) r.3 (place-in_range (sizes T) T.places q r.0 range.4 r.1) in
              each-lower (length T.nodes) r.0.actuals i id each here
          | inr r ↦ absurd (none-some id (sym (ap (λ o. slice_get (actuals_of o) i) r.1) ∙ h))
        ]

    actual-leads : (o : Option ℕ) (n : ℕ) (c f : Context) (t : ℕ) → ((id : ℕ) → o ≡ Some id → id < length T.nodes) → LeadsToNode (to_actual_number o n c f t)
    actual-leads None n c f t h = tt
    actual-leads (Some id) n c f t h = h id refl

    entry-leads : (o : Option Entry) (n : ℕ) (c : Context) (t : ℕ) → ((e : Entry) → o ≡ Some e → EntryIsInRange (sizes T) e)
        → LeadsToNode (by_name_row T o n c t)
    entry-leads (Some (Plain id)) n c t h = h (Plain id) refl
    entry-leads (Some (Called id)) n c t h = h (Called id) refl
    entry-leads (Some (Parameter i)) n (call_frame at f c) t h = actual-leads (actual_at T at i) n (call_frame at f c) f t (actual-there at i)
    entry-leads (Some (Current id)) n (frozen_frame u c) t h = h (Current id) refl
    entry-leads o n c t h = tt

    name-leads : (n : ℕ) (o : Option Context) (t : ℕ) → LeadsToNode (name_number_aim T n o t)
    name-leads n None t = tt
    name-leads n (Some c) t = entry-leads (name_at T n) n c t (entry-there n)

    row-leads : (o : Option Node) (c : Context) (t : ℕ) → LeadsToNode (row_aim T o c t)
    row-leads (Some (Refer n l)) c t = name-leads n (cut l c) t
    row-leads (Some (Call n q l)) c t = name-leads n (called_from q c (cut l c)) t
    row-leads _ c t = tt

pub nodes-by-numbers : NodesGoByNumbers
nodes-by-numbers T range id c t =
    elim ((slice_get_cases T.nodes id).1) [
      | inl r ↦
          let here : row_at T id ≡ Some r.0.node = ap (option_map node_in) r.2 in
          ap (λ e. node_aim (equations_of T) e c t) (row-node T range id r.0.node here) ∙ row-plain T r.0.node c t
          ∙ ap (λ o. plain_aim T (row_aim T o c t)) (sym here)
      | inr r ↦
          let here : row_at T id ≡ None = ap (option_map node_in) r.1 in
          ap (λ e. node_aim (equations_of T) e c t) (past-none T id r.0) ∙ ap (λ o. plain_aim T (row_aim T o c t)) (sym here)
    ]

pub datons-by-numbers : DatonsGoByNumbers
datons-by-numbers T d = entry-plain T (name_at T d.name) d.name d.context d.time

pub aims-lead : AimsLeadToNodes
aims-lead T range id c t d x u e = subst (LeadsToNode T) e (row-leads T range (row_at T id) c t)
