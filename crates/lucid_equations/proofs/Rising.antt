-- A row's node is what the row says by all nodes of the table, where its parts are lower.
use Rattle.lucid_equations.proofs.Common.{◌≡◌, ℕ, zero, suc, ◌+◌, ◌<◌, length, List, [], ◌∷◌, ◌++◌, get_or, slice_get, Some, refl, sym, ap, ◌∙◌, arith, length-append, subst, append-nil, PlainValue, PlainNode, node, Node, Const, NodeRow, NameRow, PlaceRow, no_node, at, all_at, parts, as_node, grow, actuals_of, EachBelow, NodeIsInRange, NodesAreInRange, EntryIsInRange, NamesAreInRange, PlacesAreInRange, append_assoc, get_or_append_left, get_or-append_seam}
use Rattle.std.proofs.lemmas.Option.{slice_get-get_or}
use Rattle.lucid_equations.specs.Ranges.{Sizes}

-- the second list begins with the first
abbrev pub Begins : List PlainNode → List PlainNode → Type 0
Begins xs ys = (more : List PlainNode) × (ys ≡ xs ++ more)

pub begins-then : (xs ys zs : List PlainNode) → Begins xs ys → Begins ys zs → Begins xs zs
begins-then xs ys zs h k = (h.0 ++ k.0, k.1 ∙ ap (λ l. l ++ k.0) h.1 ∙ append_assoc xs h.0 k.0)

pub at-kept : (ts us : List PlainNode) (i : ℕ) → Begins ts us → i < length ts → at us i ≡ at ts i
at-kept ts us i b h = ap (λ l. get_or l i no_node) b.1 ∙ get_or_append_left ts b.0 no_node i h

pub all_at-kept : (ts us : List PlainNode) (is : List ℕ) → Begins ts us → EachBelow (length ts) is → all_at us is ≡ all_at ts is
all_at-kept ts us [] b h = refl
all_at-kept ts us (i ∷ is) b h = λ j. node (at-kept ts us i b h.0 j) (all_at-kept ts us is b h.1 j)

module _ (vs : List PlainValue) (ns : List (List ℕ)) where
  pub row-kept : (ts us : List PlainNode) (r : Node) → Begins ts us → EachBelow (length ts) (parts r) → as_node vs ns us r ≡ as_node vs ns ts r
  row-kept ts us (Const k) b h = refl
  row-kept ts us r b h = let same : all_at us (parts r) ≡ all_at ts (parts r) = all_at-kept ts us (parts r) b h in cc

  pub begins-grow : (ts : List PlainNode) (rs : List NodeRow) → Begins ts (grow vs ns ts rs)
  begins-grow ts [] = ([], sym (append-nil ts))
  begins-grow ts (r ∷ rs) =
      begins-then ts (ts ++ as_node vs ns ts r.node ∷ []) (grow vs ns (ts ++ as_node vs ns ts r.node ∷ []) rs) (as_node vs ns ts r.node ∷ [], refl)
      (begins-grow (ts ++ as_node vs ns ts r.node ∷ []) rs)

  read-from : (z : Sizes) (ts : List PlainNode) (rs : List NodeRow) (i : ℕ) (d : NodeRow) → NodesAreInRange z (length ts) rs → i < length rs
      → at (grow vs ns ts rs) (length ts + i) ≡ as_node vs ns (grow vs ns ts rs) (get_or rs i d).node
  read-from z ts [] i d h b = absurd (omega arith)
  read-from z ts (r ∷ rs) zero d h b =
      let n : length ts + 0 ≡ length ts = omega arith in
      let one : length (ts ++ as_node vs ns ts r.node ∷ []) ≡ length ts + 1 = length-append ts (as_node vs ns ts r.node ∷ []) in
      ap (at (grow vs ns ts (r ∷ rs))) n ∙ at-kept (ts ++ as_node vs ns ts r.node ∷ []) (grow vs ns (ts ++ as_node vs ns ts r.node ∷ []) rs) (length ts)
      (begins-grow (ts ++ as_node vs ns ts r.node ∷ []) rs) (omega (arith, one)) ∙ get_or-append_seam ts (as_node vs ns ts r.node) [] no_node
      ∙ sym (row-kept ts (grow vs ns ts (r ∷ rs)) r.node (begins-grow ts (r ∷ rs)) h.0.0)
  read-from z ts (r ∷ rs) (suc i) d h b =
      let one : length (ts ++ as_node vs ns ts r.node ∷ []) ≡ suc (length ts) = omega (arith, length-append ts (as_node vs ns ts r.node ∷ [])) in
      let n : length ts + suc i ≡ length (ts ++ as_node vs ns ts r.node ∷ []) + i = omega (arith, one) in
      ap (at (grow vs ns ts (r ∷ rs))) n ∙ read-from z (ts ++ as_node vs ns ts r.node ∷ []) rs i d (subst (λ k. NodesAreInRange z k rs) (sym one) h.1)
      (omega arith)

  pub read-row : (z : Sizes) (rs : List NodeRow) (i : ℕ) (d : NodeRow) → NodesAreInRange z 0 rs → i < length rs
      → at (grow vs ns [] rs) i ≡ as_node vs ns (grow vs ns [] rs) (get_or rs i d).node
  read-row z rs i d h b =
      let n : i ≡ 0 + i = omega arith in
      ap (at (grow vs ns [] rs)) n ∙ read-from z [] rs i d h b

-- each row of a list in range is in range
nodes-from : (z : Sizes) (j : ℕ) (rs : List NodeRow) (i : ℕ) (d : NodeRow) → NodesAreInRange z j rs → i < length rs
    → NodeIsInRange z (j + i) (get_or rs i d).node
nodes-from z j [] i d h b = absurd (omega arith)
nodes-from z j (r ∷ rs) zero d h b = let n : j ≡ j + 0 = omega arith in subst (λ k. NodeIsInRange z k r.node) n h.0
nodes-from z j (r ∷ rs) (suc i) d h b =
    let n : suc j + i ≡ j + suc i = omega arith in subst (λ k. NodeIsInRange z k (get_or rs i d).node) n (nodes-from z (suc j) rs i d h.1 (omega arith))

pub node-in_range : (z : Sizes) (rs : List NodeRow) (i : ℕ) (d : NodeRow) → NodesAreInRange z 0 rs → i < length rs → NodeIsInRange z i (get_or rs i d).node
node-in_range z rs i d h b = let n : 0 + i ≡ i = omega arith in subst (λ k. NodeIsInRange z k (get_or rs i d).node) n (nodes-from z 0 rs i d h b)

pub name-in_range : (z : Sizes) (rs : List NameRow) (i : ℕ) (d : NameRow) → NamesAreInRange z rs → i < length rs → EntryIsInRange z (get_or rs i d).kind
name-in_range z [] i d h b = absurd (omega arith)
name-in_range z (r ∷ rs) zero d h b = h.0
name-in_range z (r ∷ rs) (suc i) d h b = name-in_range z rs i d h.1 (omega arith)

pub place-in_range : (z : Sizes) (rs : List PlaceRow) (i : ℕ) (d : PlaceRow) → PlacesAreInRange z rs → i < length rs → EachBelow z.nodes (get_or rs i d).actuals
place-in_range z [] i d h b = absurd (omega arith)
place-in_range z (r ∷ rs) zero d h b = h.0
place-in_range z (r ∷ rs) (suc i) d h b = place-in_range z rs i d h.1 (omega arith)

pub actual-below : (n : ℕ) (is : List ℕ) (i d : ℕ) → EachBelow n is → i < length is → get_or is i d < n
actual-below n [] i d h b = absurd (omega arith)
actual-below n (x ∷ is) zero d h b = h.0
actual-below n (x ∷ is) (suc i) d h b = actual-below n is i d h.1 (omega arith)

-- an actual of a call place is there
pub actual-in_range : (z : Sizes) (rs ps : List PlaceRow) (q : ℕ) (r : PlaceRow) (js : List ℕ) (i d : ℕ) → PlacesAreInRange z rs → ps ≡ rs → q < length rs
    → r ≡ get_or ps q r → js ≡ r.actuals → i < length (actuals_of (slice_get rs q)) → get_or js i d < z.nodes
actual-in_range z rs ps q r js i d h e k is a few =
    let here : get_or rs q r ≡ r = sym (is ∙ ap (λ l. get_or l q r) e) in
    let each : EachBelow z.nodes r.actuals = subst (λ x. EachBelow z.nodes x.actuals) here (place-in_range z rs q r h k) in
    let length_is : i < length r.actuals = subst (λ o. i < length (actuals_of o)) (slice_get-get_or rs q r k ∙ ap Some here) few in
    actual-below z.nodes js i d (subst (EachBelow z.nodes) (sym a) each) (subst (λ l. i < length l) (sym a) length_is)
