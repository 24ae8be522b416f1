-- The rows of a resolved tree's table are in range.
use Rattle.lucid_compile.proofs.Common.{◌≡◌, ℕ, suc, ◌<◌, ◌≤◌, length, List, [], ◌∷◌, sym, subst, arith, In, scoped_inputs, PlainNode, PlainEntry, Sizes, NodeNames, NodesAreInRange, EachBelow, Node, Const, Input, Refer, Call, Entry, Plain, Parameter, Current, Called, NodeRow, NameRow, PlaceRow, first_place, name_mark, call_number, Note, Numbered, name_node, Target, no_target, of_name, of_call, Log, IsKnown, AreKnown, EachRow, OneForOne, HasTarget, IsNodeRow, IsEntry, IsNameRow, IsPlaceRow, EntryIsInRange, NamesAreInRange, PlacesAreInRange, noted_actuals, bound_entry, piece_target}
use Rattle.std.proofs.lemmas.Option.{slice_get_within as index-below}
use Rattle.lucid_compile.specs.Static.{Static}
use Rattle.lucid_compile.proofs.Meeting.{NameLeads, TargetMet, NodeMet}

plain-in_range : (w : Numbered) (n : Sizes) (r : Node) → IsKnown n.constants r → HasTarget w r no_target → NodeNames n r
plain-in_range w n (Const k) h g = h
plain-in_range w n (Input k) h g = absurd g
plain-in_range w n (Refer a l) h g = absurd g
plain-in_range w n (Call a q l) h g = absurd g
plain-in_range w n _ h g = tt

-- a name leads to an input or to a name that is there, and a call to a name and a call place
module _ (w : Numbered) (z : Log) (n : Sizes) (more : length z.names ≤ n.names) (inputs : n.inputs ≡ length (scoped_inputs w.scoped))
    (calls-lead : (c : Note) → In c z.calls → ((name_mark w.numbering c.at).number < n.names)
    × (call_number w.numbering (first_place (noted_actuals c.kind)) < n.places)) where
  name-in_range : (k : Static) (r : Node) → NameLeads z (length (scoped_inputs w.scoped)) k r → NodeNames n r
  name-in_range k (Input i) h = omega (arith, h, inputs)
  name-in_range k (Refer x l) h = omega (arith, index-below z.names x h.stand h.there, more)
  name-in_range k _ h = absurd h

  node-in_range : (t : Target) (k : Static) (r : Node) → IsKnown n.constants r → HasTarget w r t → TargetMet w z t k → NodeNames n r
  node-in_range no_target k r h g m = plain-in_range w n r h g
  node-in_range (of_name at) k r h g m = subst (NodeNames n) (sym g) (name-in_range k (name_node w at) m)
  node-in_range (of_call at first) k r h g m =
      let b = calls-lead m.call m.inside in
      subst (NodeNames n) (sym g) (
        subst (λ p. (name_mark w.numbering p).number < n.names) m.place b.0,
        subst (λ p. call_number w.numbering p < n.places)
            m.first_is b.1,
      )

  pub nodes-in_range : (ks : List Static) (i : ℕ) (rs : List NodeRow) (ss : List Note) → AreKnown n.constants rs → OneForOne (IsNodeRow w ks) i rs ss
      → EachRow (NodeMet w z) ss → NodesAreInRange n i rs
  nodes-in_range ks i [] [] h g m = tt
  nodes-in_range ks i [] (s ∷ ss) h g m = absurd g
  nodes-in_range ks i (r ∷ rs) [] h g m = absurd g
  nodes-in_range ks i (r ∷ rs) (s ∷ ss) h g m = ((g.0.0, node-in_range (piece_target s.kind) s.home r.node h.0 g.0.1 m.0), nodes-in_range ks (suc i) rs ss h.1 g.1 m.1)

entry-in_range : (n : Sizes) (ts : List PlainNode) (r : Entry) (e : PlainEntry) → length ts ≡ n.nodes → IsEntry ts r e → EntryIsInRange n r
entry-in_range n ts (Plain a) e c h = omega (arith, c, h.0)
entry-in_range n ts (Parameter i) e c h = tt
entry-in_range n ts (Current a) e c h = omega (arith, c, h.0)
entry-in_range n ts (Called a) e c h = omega (arith, c, h.0)

pub names-in_range : (w : Numbered) (ks : List Static) (n : Sizes) (ts : List PlainNode) (i : ℕ) (rs : List NameRow) (ss : List Note) → length ts ≡ n.nodes
    → OneForOne (λ id r s. IsNameRow w ks ts r s) i rs ss → NamesAreInRange n rs
names-in_range w ks n ts i [] ss c h = tt
names-in_range w ks n ts i (r ∷ rs) [] c h = absurd h
names-in_range w ks n ts i (r ∷ rs) (s ∷ ss) c h = (entry-in_range n ts r.kind (bound_entry w s.kind) c h.0.0, names-in_range w ks n ts (suc i) rs ss c h.1)

pub places-in_range : (w : Numbered) (ks : List Static) (n : Sizes) (ts : List PlainNode) (i : ℕ) (rs : List PlaceRow) (cs : List Note)
    → length ts ≡ n.nodes → OneForOne (λ id r c. IsPlaceRow w ks ts r c) i rs cs → PlacesAreInRange n rs
places-in_range w ks n ts i [] cs c h = tt
places-in_range w ks n ts i (r ∷ rs) [] c h = absurd h
places-in_range w ks n ts i (r ∷ rs) (s ∷ cs) c h = (subst (λ m. EachBelow m r.actuals) c h.0.0, places-in_range w ks n ts (suc i) rs cs c h.1)
