-- Lists that hold what was added hold it with one thing more.
use Rattle.lucid_compile.proofs.Common.{◌≡◌, ℕ, zero, suc, ◌+◌, ◌<◌, ◌≤◌, length, List, [], ◌∷◌, ◌++◌, get_or, Some, None, slice_get, refl, sym, ap, ◌∙◌, subst, arith, length-append, append_assoc, PlainValue, const, scoped_inputs, PlainNode, PlainEntry, row, no_nodes, plain_entry, called_entry, current_entry, at-kept, frame, in_body, name_mark, ScopeRow, ScopeIs, StandsIn, EachStandsIn, PartsStand, IsFilled, ScopeKind, option_map, EachBelow, at, all_at, parts, as_node, grow, Node, Const, Freeze, Entry, Plain, Parameter, Current, Called, NodeRow, NameRow, PlaceRow, Body, Key, stand_key, call_key, place_key, key_of_function, with_name_key, with_function_key, with_call_key, Lists, with_name, with_body, with_place, OneScope, OneConstant, OneNode, Note, Numbered, bound_node, bound_nodes, FunctionStand, Log, with_nodes, with_scopes, with_stand, with_call, with_function, IsKnown, AreKnown, EachRow, NodeFits, NameFits, PlaceFits, BodyFits, IsOpen, IsScopeRow, ScopesHold, HasTarget, IsNodeRow, NodesHold, IsEntry, IsNameRow, NamesHold, IsPlaceRow, PlacesHold, IsBody, FunctionsHold, Holds, Begins, Grown, GrownTo, get_or-append_seam, get_or_append_left, fault, all_at-kept, EntryStands, no_node, noted_actuals, bound_entry, piece_target, with_constants, noted_value, AreNumbers, HasBody, HasNumbers, HasParts, IsNotedAt, IsNumber, length-map, noted_tree, OneForOne}
use Rattle.std.proofs.lemmas.List.{append-nil}
use Rattle.std.proofs.lemmas.Option.{slice_get_within as index-below}
use Rattle.lucid_lists.proofs.Lists.{slice_get-append_left as some-left, slice_get-push_same as some-last}
use Rattle.lucid_equations.proofs.NumbersRead.{grown-count as grow-count}
use Rattle.lucid_compile.specs.Static.{Static, outermost, in_block, in_function}
use Rattle.lucid_equations.specs.declared.rows.ScopeKind.TheVariants.{Called as CalledScope, Frozen as FrozenScope}
use Rattle.lucid_compile.proofs.Noting.{node-noted, constant-noted, scope-noted, name-noted, body-noted, place-noted}
use Rattle.lucid_compile.proofs.Keyed.{stand-keys, call-keys, function-keys}
use Rattle.lucid_compile.specs.Holds.{nodes_in}
use Rattle.lucid_compile.proofs.Pairs.{pairs-one, pairs-count, pairs-kept}

pub begins-then : {A : Type 0} (xs ys zs : List A) → Begins xs ys → Begins ys zs → Begins xs zs
begins-then xs ys zs h k = (h.0 ++ k.0, k.1 ∙ ap (λ l. l ++ k.0) h.1 ∙ append_assoc xs h.0 k.0)

pub begins-itself : {A : Type 0} (xs : List A) → Begins xs xs
begins-itself xs = ([], sym (append-nil xs))

-- constants

as_node-more : (vs ws : List PlainValue) (ns : List (List ℕ)) (ts : List PlainNode) (n : Node) → IsKnown (length vs) n
    → as_node (vs ++ ws) ns ts n ≡ as_node vs ns ts n
as_node-more vs ws ns ts (Const k) h = ap (λ v. row (const v) no_nodes) (get_or_append_left vs ws fault k h)
as_node-more vs ws ns ts _ h = refl

grow-more : (vs ws : List PlainValue) (ns : List (List ℕ)) (ts : List PlainNode) (rs : List NodeRow) → AreKnown (length vs) rs
    → grow (vs ++ ws) ns ts rs ≡ grow vs ns ts rs
grow-more vs ws ns ts [] h = refl
grow-more vs ws ns ts (r ∷ rs) h =
    grow-more vs ws ns (ts ++ as_node (vs ++ ws) ns ts r.node ∷ []) rs h.1 ∙ ap (λ x. grow vs ns (ts ++ x ∷ []) rs) (as_node-more vs ws ns ts r.node h.0)

known-less : (n m : ℕ) (x : Node) → n ≤ m → IsKnown n x → IsKnown m x
known-less n m (Const k) h g = omega (arith, h, g)
known-less n m _ h g = tt

all_known-less : (n m : ℕ) (rs : List NodeRow) → n ≤ m → AreKnown n rs → AreKnown m rs
all_known-less n m [] h g = tt
all_known-less n m (r ∷ rs) h g = (known-less n m r.node h g.0, all_known-less n m rs h g.1)

known-one : (n : ℕ) (rs : List NodeRow) (r : NodeRow) → AreKnown n rs → IsKnown n r.node → AreKnown n (rs ++ r ∷ [])
known-one n [] r h g = (g, tt)
known-one n (x ∷ rs) r h g = (h.0, known-one n rs r h.1 g)

-- nodes

grow-one : (vs : List PlainValue) (ns : List (List ℕ)) (ts : List PlainNode) (rs : List NodeRow) (r : NodeRow)
    → grow vs ns ts (rs ++ r ∷ []) ≡ grow vs ns ts rs ++ as_node vs ns (grow vs ns ts rs) r.node ∷ []
grow-one vs ns ts [] r = refl
grow-one vs ns ts (x ∷ rs) r = grow-one vs ns (ts ++ as_node vs ns ts x.node ∷ []) rs r

-- each row of some and one more, and what follows of each

pub each-one : {A : Type 0} (P : A → Type 0) (rs : List A) (r : A) → EachRow P rs → P r → EachRow P (rs ++ r ∷ [])
each-one P [] r h g = (g, tt)
each-one P (x ∷ rs) r h g = (h.0, each-one P rs r h.1 g)

pub each-row : {A : Type 0} (P Q : A → Type 0) (rs : List A) → ((r : A) → P r → Q r) → EachRow P rs → EachRow Q rs
each-row P Q [] f h = tt
each-row P Q (r ∷ rs) f h = (f r h.0, each-row P Q rs f h.1)

-- what stands somewhere stays where more rows are there

pub scope-kept : (xs ys : List ScopeRow) → Begins xs ys → (s p : ℕ) (k : ScopeKind) → ScopeIs xs s p k → ScopeIs ys s p k
scope-kept xs ys b s p k h = ap (λ l. slice_get l s) b.1 ∙ some-left xs b.0 s (record { parent = p; kind = k }) h

stands-left : (rs more : List NodeRow) (s id : ℕ) → StandsIn rs s id → StandsIn (rs ++ more) s id
stands-left [] more s id h =
    let q : None ≡ Some s = h in
    absurd (cc)
stands-left (r ∷ rs) more s zero h = h
stands-left (r ∷ rs) more s (suc id) h = stands-left rs more s id h

pub stands-kept : (rs qs : List NodeRow) → Begins rs qs → (s id : ℕ) → StandsIn rs s id → StandsIn qs s id
stands-kept rs qs b s id h = subst (λ l. StandsIn l s id) (sym b.1) (stands-left rs b.0 s id h)

pub each-stands-kept : (rs qs : List NodeRow) → Begins rs qs → (s : ℕ) (ids : List ℕ) → EachStandsIn rs s ids → EachStandsIn qs s ids
each-stands-kept rs qs b s [] h = tt
each-stands-kept rs qs b s (id ∷ ids) h = (stands-kept rs qs b s id h.0, each-stands-kept rs qs b s ids h.1)

module _ (xs ys : List ScopeRow) (rs qs : List NodeRow) (a : Begins xs ys) (b : Begins rs qs) where
  pub parts-kept : (s : ℕ) (n : Node) → PartsStand xs rs s n → PartsStand ys qs s n
  parts-kept s (Freeze x) h = (h.0, scope-kept xs ys a h.0 s FrozenScope h.1, stands-kept rs qs b h.0 x h.2)
  parts-kept s n h = each-stands-kept rs qs b s (parts n) h

  pub entry-stands-kept : (s : ℕ) (e : Entry) → EntryStands xs rs s e → EntryStands ys qs s e
  entry-stands-kept s (Plain x) h = stands-kept rs qs b s x h
  entry-stands-kept s (Parameter i) h = (h.0, scope-kept xs ys a s h.0 CalledScope h.1)
  entry-stands-kept s (Current x) h = (h.0, scope-kept xs ys a s h.0 FrozenScope h.1, stands-kept rs qs b h.0 x h.2)
  entry-stands-kept s (Called x) h = (h.0, scope-kept xs ys a s h.0 CalledScope h.1, stands-kept rs qs b s x h.2)

-- what is held stays where the nodes before stay

module _ (ts us : List PlainNode) (b : Begins ts us) where
  pub within-kept : (i : ℕ) → i < length ts → i < length us
  within-kept i h = omega (arith, h, ap length b.1, length-append ts b.0)

  pub each-kept : (is : List ℕ) → EachBelow (length ts) is → EachBelow (length us) is
  each-kept [] h = tt
  each-kept (i ∷ is) h = (within-kept i h.0, each-kept is h.1)

  entry-kept : (r : Entry) (e : PlainEntry) → IsEntry ts r e → IsEntry us r e
  entry-kept (Plain a) e h = (within-kept a h.0, ap plain_entry (at-kept ts us a b h.0) ∙ h.1)
  entry-kept (Parameter i) e h = h
  entry-kept (Current a) e h = (within-kept a h.0, ap current_entry (at-kept ts us a b h.0) ∙ h.1)
  entry-kept (Called a) e h = (within-kept a h.0, ap called_entry (at-kept ts us a b h.0) ∙ h.1)

  pub names-kept : (w : Numbered) (ks : List Static) (rs : List NameRow) (ss : List Note) → NamesHold w ks ts rs ss → NamesHold w ks us rs ss
  names-kept w ks rs ss h =
      pairs-kept (λ i r s. IsNameRow w ks ts r s) (λ i r s. IsNameRow w ks us r s) (λ i r s x. (entry-kept r.kind (bound_entry w s.kind) x.0, x.1)) 0 rs ss h

  places-kept : (w : Numbered) (ks : List Static) (rs : List PlaceRow) (cs : List Note) → PlacesHold w ks ts rs cs → PlacesHold w ks us rs cs
  places-kept w ks rs cs h =
      pairs-kept (λ i r c. IsPlaceRow w ks ts r c) (λ i r c. IsPlaceRow w ks us r c)
      (λ i r c x. (each-kept r.actuals x.0, all_at-kept ts us r.actuals b x.0 ∙ x.1, x.2, x.3)) 0 rs cs h

  functions-kept : (w : Numbered) (ks : List Static) (bs : List Body) (fs : List FunctionStand) → FunctionsHold w ks ts bs fs → FunctionsHold w ks us bs fs
  functions-kept w ks bs fs h = pairs-kept (λ i x f. IsBody w ks ts x f) (λ i x f. IsBody w ks us x f)
      (λ i x f y. (within-kept x.body y.0, at-kept ts us x.body b y.0 ∙ y.1, y.2)) 0 bs fs h

-- what is held stays where more scopes are open

module _ (ks more : List Static) where
  scope-row-open : (i : ℕ) (r : ScopeRow) (k : Static) → IsScopeRow ks i r k → IsScopeRow (ks ++ more) i r k
  scope-row-open i r outermost h = h
  scope-row-open i r (in_block ds k) h = (h.0, h.1, some-left ks more r.parent (frame k) h.2)
  scope-row-open i r (in_function d ns ats k) h = (h.0, h.1, some-left ks more r.parent (frame k) h.2)

  scopes-open : (rs : List ScopeRow) (ss : List Static) → ScopesHold ks rs ss → ScopesHold (ks ++ more) rs ss
  scopes-open rs ss h = pairs-kept (IsScopeRow ks) (IsScopeRow (ks ++ more)) scope-row-open 0 rs ss h

  nodes-open : (w : Numbered) (rs : List NodeRow) (ss : List Note) → NodesHold w ks rs ss → NodesHold w (ks ++ more) rs ss
  nodes-open w rs ss h = pairs-kept (IsNodeRow w ks) (IsNodeRow w (ks ++ more)) (λ i r s x. (x.0, x.1, some-left ks more r.scope (frame s.home) x.2)) 0 rs ss h

  names-open : (w : Numbered) (ts : List PlainNode) (rs : List NameRow) (ss : List Note) → NamesHold w ks ts rs ss → NamesHold w (ks ++ more) ts rs ss
  names-open w ts rs ss h = pairs-kept (λ i r s. IsNameRow w ks ts r s) (λ i r s. IsNameRow w (ks ++ more) ts r s)
      (λ i r s x. (x.0, some-left ks more r.scope (frame s.home) x.1)) 0 rs ss h

  places-open : (w : Numbered) (ts : List PlainNode) (rs : List PlaceRow) (cs : List Note) → PlacesHold w ks ts rs cs → PlacesHold w (ks ++ more) ts rs cs
  places-open w ts rs cs h =
      pairs-kept (λ i r c. IsPlaceRow w ks ts r c) (λ i r c. IsPlaceRow w (ks ++ more) ts r c)
      (λ i r c x. (x.0, x.1, some-left ks more r.scope (frame c.home) x.2, x.3)) 0 rs cs h

  functions-open : (w : Numbered) (ts : List PlainNode) (bs : List Body) (fs : List FunctionStand) → FunctionsHold w ks ts bs fs
      → FunctionsHold w (ks ++ more) ts bs fs
  functions-open w ts bs fs h =
      pairs-kept (λ i x f. IsBody w ks ts x f) (λ i x f. IsBody w (ks ++ more) ts x f)
      (λ i x f y. (y.0, y.1, some-left ks more x.scope (in_body f.names f.places f.home) y.2)) 0 bs fs h

pub no-nodes : (g : Log) → with_nodes [] g ≡ g
no-nodes g = λ j. record g { nodes = append-nil g.nodes j }

pub no-constants : (g : Log) → with_constants [] g ≡ g
no-constants g = λ j. record g { constants = append-nil g.constants j }

pub no-scopes : (g : Log) → with_scopes [] g ≡ g
no-scopes g = λ j. record g { scopes = append-nil g.scopes j }

module _ (w : Numbered) where
  pub grown-none : (o : Lists) (g : Log) → Holds w o g → Grown w o o g
  grown-none o g h = record { holds = h; begins = begins-itself (nodes_in w o); rows = begins-itself o.nodes; outer = begins-itself o.scopes }

  pub grown-then : (o m n : Lists) (g h : Log) → Grown w o m g → Grown w m n h → Grown w o n h
  grown-then o m n g h a b = record {
    holds = b.holds;
    begins = begins-then (nodes_in w o) (nodes_in w m) (nodes_in w n) a.begins b.begins;
    rows = begins-then o.nodes m.nodes n.nodes a.rows b.rows;
    outer = begins-then o.scopes m.scopes n.scopes a.outer b.outer;
  }

  -- what is held, with other nodes and constants
  with-more : (o n : Lists) (g : Log) (ms cs : List Note) → Holds w o g → Begins (nodes_in w o) (nodes_in w n) → AreKnown (length n.constants) n.nodes
      → NodesHold w g.scopes n.nodes ms → Begins o.nodes n.nodes → EachRow (NodeFits n.scopes n.nodes) n.nodes → n.scopes ≡ o.scopes
      → n.names ≡ o.names
      → n.places ≡ o.places → n.bodies ≡ o.bodies → n.keys ≡ o.keys → HasNumbers n (record g { nodes = ms; constants = cs })
      → OneForOne (λ i x n. x ≡ bound_node w (noted_tree n.kind)) 0 (nodes_in w n) ms → Grown w o n (record g { nodes = ms; constants = cs })
  with-more o n g ms cs h b k nodes later parts scopes names places bodies keys numbers becomes =
      let outer : Begins o.scopes n.scopes = ([], scopes ∙ sym (append-nil o.scopes)) in
      record {
        begins = b;
        rows = later;
        outer = outer;
        holds = record {
          known = k;
          outer = h.outer;
          scopes = rw scopes h.scopes;
          nodes = nodes;
          names = rw names (names-kept (nodes_in w o) (nodes_in w n) b w g.scopes o.names g.names h.names);
          places = rw places (places-kept (nodes_in w o) (nodes_in w n) b w g.scopes o.places g.calls h.places);
          functions = rw bodies (functions-kept (nodes_in w o) (nodes_in w n) b w g.scopes o.bodies g.functions h.functions);
          keys = keys ∙ h.keys;
          numbers = numbers;
          becomes = becomes;
          parts = parts;
          entries = rw names (each-row (NameFits o.scopes o.nodes) (NameFits n.scopes n.nodes) o.names
              (λ r x. entry-stands-kept o.scopes n.scopes o.nodes n.nodes outer later r.scope r.kind x) h.entries);
          actuals = rw places (each-row (PlaceFits o.nodes) (PlaceFits n.nodes) o.places (λ r x. each-stands-kept o.nodes n.nodes later r.scope r.actuals x)
              h.actuals);
          rights = rw bodies (each-row (BodyFits o.scopes o.nodes) (BodyFits n.scopes n.nodes) o.bodies
              (λ x y. entry-stands-kept o.scopes n.scopes o.nodes n.nodes outer later x.scope (Called x.body) y) h.rights);
        };
      }

  pub push-grown : (o n : Lists) (g : Log) (r : NodeRow) (v : Note) (id : ℕ) → Holds w o g → OneNode o n r id
      → as_node o.constants (scoped_inputs w.scoped) (nodes_in w o) r.node ≡ bound_node w (noted_tree v.kind) → IsKnown (length o.constants) r.node
      → EachBelow (length (nodes_in w o)) (parts r.node) → HasTarget w r.node (piece_target v.kind) → IsOpen g.scopes r.scope v.home
      → PartsStand o.scopes o.nodes r.scope r.node → IsFilled r.node → HasParts g.constants g.nodes r.node v.kind
      → GrownTo w o n (with_nodes (v ∷ []) g) (bound_node w (noted_tree v.kind)) v.at r.scope id
  push-grown o n g r v id h s same k b a c q z own =
      let x : PlainNode = bound_node w (noted_tree v.kind) in
      let more : nodes_in w n ≡ nodes_in w o ++ x ∷ [] = ap (nodes_in w) s.lists ∙ grow-one o.constants (scoped_inputs w.scoped) [] o.nodes r
      ∙ ap (λ y. nodes_in w o ++ y ∷ []) same in
      let count : length (nodes_in w o) ≡ length o.nodes = omega (arith, grow-count o.constants (scoped_inputs w.scoped) [] o.nodes) in
      let zero_more : length (nodes_in w o) ≡ 0 + length o.nodes = omega (arith, count) in
      let later : Begins o.nodes n.nodes = (r ∷ [], ap (λ (l : Lists). l.nodes) s.lists) in
      let here : Begins o.scopes o.scopes = begins-itself o.scopes in
      let end : Begins o.nodes (o.nodes ++ r ∷ []) = (r ∷ [], refl) in
      let kept : (y : NodeRow) → NodeFits o.scopes o.nodes y
      → NodeFits o.scopes (o.nodes ++ r ∷ []) y = λ y u. (parts-kept o.scopes o.scopes o.nodes (o.nodes ++ r ∷ []) here end y.scope y.node u.0, u.1) in
      let fitting : EachRow (NodeFits o.scopes (o.nodes ++ r ∷ [])) (o.nodes ++ r ∷ []) =
      each-one (NodeFits o.scopes (o.nodes ++ r ∷ [])) o.nodes r
      (each-row (NodeFits o.scopes o.nodes) (NodeFits o.scopes (o.nodes ++ r ∷ [])) o.nodes kept h.parts) (kept r (q, z)) in
      record {
        grown = with-more o n g (g.nodes ++ v ∷ []) g.constants h (x ∷ [], more) (rw s.lists (known-one (length o.constants) o.nodes r h.known k))
            (rw s.lists (pairs-one (IsNodeRow w g.scopes) 0 o.nodes g.nodes r v h.nodes (subst (λ c. EachBelow c (parts r.node)) zero_more b, a, c))) later
            (rw s.lists fitting) (ap (λ (l : Lists). l.scopes) s.lists) (ap (λ l. l.names) s.lists) (ap (λ l. l.places) s.lists) (ap (λ l. l.bodies) s.lists)
            (ap (λ l. l.keys) s.lists) (rw s.lists (node-noted o g h.numbers r v own))
            (subst (λ ts. OneForOne (λ i y n. y ≡ bound_node w (noted_tree n.kind)) 0 ts (g.nodes ++ v ∷ [])) (sym more)
            (pairs-one (λ i y n. y ≡ bound_node w (noted_tree n.kind)) 0 (nodes_in w o) g.nodes x v h.becomes refl));
        within = omega (arith, s.number, count, ap length more, length-append (nodes_in w o) (x ∷ []));
        is = ap (λ l. at l id) more ∙ ap (λ i. at (nodes_in w o ++ x ∷ []) i) (s.number ∙ sym count) ∙ get_or-append_seam (nodes_in w o) x [] no_node;
        noted = ap (λ i. option_map (λ n. n.at) (slice_get (g.nodes ++ v ∷ []) i)) (s.number ∙ pairs-count (IsNodeRow w g.scopes) 0 o.nodes g.nodes h.nodes)
            ∙ ap (option_map (λ n. n.at)) (some-last g.nodes v);
        stands = ap (λ (l : Lists). option_map (λ y. y.scope) (slice_get l.nodes id)) s.lists
            ∙ ap (λ i. option_map (λ y. y.scope) (slice_get (o.nodes ++ r ∷ []) i)) s.number ∙ ap (option_map (λ y. y.scope)) (some-last o.nodes r);
      }

  pub keep-grown : (o n : Lists) (g : Log) (c : Note) (v : PlainValue) (id : ℕ) → Holds w o g → OneConstant o n v id → v ≡ noted_value c.kind
      → Grown w o n (with_constants (c ∷ []) g)
  keep-grown o n g c v id h s own =
      let same : nodes_in w n ≡ nodes_in w o = ap (nodes_in w) s.lists ∙ grow-more o.constants (v ∷ []) (scoped_inputs w.scoped) [] o.nodes h.known in
      let count : length (o.constants ++ v ∷ []) ≡ length o.constants + 1 = length-append o.constants (v ∷ []) in
      with-more o n g g.nodes (g.constants ++ c ∷ []) h ([], same ∙ sym (append-nil (nodes_in w o)))
      (rw s.lists (all_known-less (length o.constants) (length (o.constants ++ v ∷ [])) o.nodes (omega (arith, count)) h.known))
      (rw s.lists h.nodes)
      (subst (Begins o.nodes) (sym (ap (λ (l : Lists). l.nodes) s.lists)) (begins-itself o.nodes)) (rw s.lists h.parts) (ap (λ (l : Lists). l.scopes) s.lists)
      (ap (λ l. l.names) s.lists) (ap (λ l. l.places) s.lists) (ap (λ l. l.bodies) s.lists) (ap (λ l. l.keys) s.lists)
      (rw s.lists (constant-noted o g h.numbers v c own))
      (subst (λ ts. OneForOne (λ i x n. x ≡ bound_node w (noted_tree n.kind)) 0 ts g.nodes) (sym same) h.becomes)

  pub keep-noted : (o n : Lists) (g : Log) (c : Note) (v : PlainValue) (id : ℕ) → Holds w o g → OneConstant o n v id → IsNotedAt (g.constants ++ c ∷ []) id c.at
  keep-noted o n g c v id h s =
      let count : length o.constants ≡ length g.constants = ap length h.numbers.constants ∙ length-map g.constants (λ n. noted_value n.kind) in
      ap (λ i. option_map (λ n. n.at) (slice_get (g.constants ++ c ∷ []) i)) (s.number ∙ count) ∙ ap (option_map (λ n. n.at)) (some-last g.constants c)

  pub keep-constant : (o n : Lists) (v : PlainValue) (id : ℕ) → OneConstant o n v id → get_or n.constants id fault ≡ v
  keep-constant o n v id s = ap (λ l. get_or l.constants id fault) s.lists ∙ ap (λ i. get_or (o.constants ++ v ∷ []) i fault) s.number
      ∙ get_or-append_seam o.constants v [] fault

  pub keep-known : (o n : Lists) (v : PlainValue) (id : ℕ) → OneConstant o n v id → id < length n.constants
  keep-known o n v id s = omega (arith, s.number, ap (λ l. length l.constants) s.lists, length-append o.constants (v ∷ []))

  -- a scope of its own, which is then open
  pub open-grown : (o n : Lists) (g : Log) (k : Static) (r : ScopeRow) (id : ℕ) → Holds w o g → OneScope o n r id → IsScopeRow g.scopes id r k
      → Grown w o n (with_scopes (k ∷ []) g)
  open-grown o n g k r id h s x =
      let more : List Static = k ∷ [] in
      let number : id ≡ 0 + length o.scopes = omega (arith, s.number) in
      subst (λ z. Grown w o z (with_scopes more g)) (sym s.lists) (record {
        begins = begins-itself (nodes_in w o);
        rows = begins-itself o.nodes;
        outer = (r ∷ [], refl);
        holds = record {
          known = h.known;
          outer = some-left g.scopes more 0 outermost h.outer;
          scopes = pairs-one (IsScopeRow (g.scopes ++ more)) 0 o.scopes g.scopes r k (scopes-open g.scopes more o.scopes g.scopes h.scopes)
              (subst (λ i. IsScopeRow (g.scopes ++ more) i r k) number (scope-row-open g.scopes more id r k x));
          nodes = nodes-open g.scopes more w o.nodes g.nodes h.nodes;
          names = names-open g.scopes more w (nodes_in w o) o.names g.names h.names;
          places = places-open g.scopes more w (nodes_in w o) o.places g.calls h.places;
          functions = functions-open g.scopes more w (nodes_in w o) o.bodies g.functions h.functions;
          keys = h.keys;
          numbers = scope-noted o g h.numbers r (k ∷ []);
          becomes = h.becomes;
          parts = each-row (NodeFits o.scopes o.nodes) (NodeFits (o.scopes ++ r ∷ []) o.nodes) o.nodes
              (λ y u. (parts-kept o.scopes (o.scopes ++ r ∷ []) o.nodes o.nodes (r ∷ [], refl) (begins-itself o.nodes) y.scope y.node u.0, u.1)) h.parts;
          entries = each-row (NameFits o.scopes o.nodes) (NameFits (o.scopes ++ r ∷ []) o.nodes) o.names
              (λ y u. entry-stands-kept o.scopes (o.scopes ++ r ∷ []) o.nodes o.nodes (r ∷ [], refl) (begins-itself o.nodes) y.scope y.kind u) h.entries;
          actuals = h.actuals;
          rights = each-row (BodyFits o.scopes o.nodes) (BodyFits (o.scopes ++ r ∷ []) o.nodes) o.bodies
              (λ y u. entry-stands-kept o.scopes (o.scopes ++ r ∷ []) o.nodes o.nodes (r ∷ [], refl) (begins-itself o.nodes) y.scope (Called y.body) u)
              h.rights;
        };
      })

  -- that scope is what is in scope, where it is its own frame
  pub opened-is : (o n : Lists) (g : Log) (k : Static) (r : ScopeRow) (id : ℕ) → Holds w o g → OneScope o n r id → frame k ≡ k
      → IsOpen (g.scopes ++ k ∷ []) id k
  opened-is o n g k r id h s own =
      let count = pairs-count (IsScopeRow g.scopes) 0 o.scopes g.scopes h.scopes in
      ap (slice_get (g.scopes ++ k ∷ [])) (s.number ∙ count) ∙ some-last g.scopes k ∙ ap Some (sym own)

  -- a parent that is open has a lower number
  pub parent-below : (o n : Lists) (g : Log) (r : ScopeRow) (id parent : ℕ) (k : Static) → Holds w o g → OneScope o n r id → IsOpen g.scopes parent k
      → parent < id
  parent-below o n g r id parent k h s c = omega (
    arith,
    index-below g.scopes parent (frame k) c,
    s.number,
    pairs-count (IsScopeRow g.scopes) 0 o.scopes
        g.scopes h.scopes,
  )

  pub define-grown : (o n : Lists) (g : Log) (s : Note) (k : Key) (r : NameRow) → Holds w o g → n ≡ with_name k r o → k ≡ stand_key s
      → IsEntry (nodes_in w o) r.kind (bound_entry w s.kind) → IsOpen g.scopes r.scope s.home → EntryStands o.scopes o.nodes r.scope r.kind → HasBody g.nodes r.kind s.kind
      → Grown w o n (with_stand s g)
  define-grown o n g s k r h x own e c q body =
      subst (λ z. Grown w o z (with_stand s g)) (sym x) (record {
        begins = begins-itself (nodes_in w o);
        rows = begins-itself o.nodes;
        outer = begins-itself o.scopes;
        holds = record {
          known = h.known;
          outer = h.outer;
          scopes = h.scopes;
          nodes = h.nodes;
          names = pairs-one (λ i r s. IsNameRow w g.scopes (nodes_in w o) r s) 0 o.names g.names r s h.names (e, c);
          places = h.places;
          functions = h.functions;
          keys = (λ j. with_name_key (own j) (h.keys j)) ∙ stand-keys s g;
          numbers = name-noted o g h.numbers k r s body;
          becomes = h.becomes;
          parts = h.parts;
          entries = each-one (NameFits o.scopes o.nodes) o.names r h.entries q;
          actuals = h.actuals;
          rights = h.rights;
        };
      })

  pub close-grown : (o n : Lists) (g : Log) (f : FunctionStand) (k : Key) (b : Body) → Holds w o g → n ≡ with_body k b o → k ≡ key_of_function f
      → b.body < length (nodes_in w o) → at (nodes_in w o) b.body ≡ bound_node w f.right → IsOpen g.scopes b.scope (in_body f.names f.places f.home)
      → EntryStands o.scopes o.nodes b.scope (Called b.body) → IsNumber g.nodes b.body f.right → Grown w o n (with_function f g)
  close-grown o n g f k b h x own l e c q number =
      subst (λ z. Grown w o z (with_function f g)) (sym x) (record {
        begins = begins-itself (nodes_in w o);
        rows = begins-itself o.nodes;
        outer = begins-itself o.scopes;
        holds = record {
          known = h.known;
          outer = h.outer;
          scopes = h.scopes;
          nodes = h.nodes;
          names = h.names;
          places = h.places;
          functions = pairs-one (λ i x f. IsBody w g.scopes (nodes_in w o) x f) 0 o.bodies g.functions b f h.functions (l, e, c);
          keys = (λ j. with_function_key (own j) (h.keys j)) ∙ function-keys f g;
          numbers = body-noted o g h.numbers k b f number;
          becomes = h.becomes;
          parts = h.parts;
          entries = h.entries;
          actuals = h.actuals;
          rights = each-one (BodyFits o.scopes o.nodes) o.bodies b h.rights q;
        };
      })

  pub place-grown : (o n : Lists) (g : Log) (c : Note) (k p : Key) (r : PlaceRow) → Holds w o g → n ≡ with_place k p r o → k ≡ call_key c → p ≡ place_key c
      → EachBelow (length (nodes_in w o)) r.actuals → all_at (nodes_in w o) r.actuals ≡ bound_nodes w (noted_actuals c.kind) → IsOpen g.scopes r.scope c.home
      → r.name ≡ (name_mark w.numbering c.at).number → EachStandsIn o.nodes r.scope r.actuals → AreNumbers g.nodes r.actuals (noted_actuals c.kind)
      → Grown w o n (with_call c g)
  place-grown o n g c k p r h x own first l e i is_name q given =
      subst (λ z. Grown w o z (with_call c g)) (sym x) (record {
        begins = begins-itself (nodes_in w o);
        rows = begins-itself o.nodes;
        outer = begins-itself o.scopes;
        holds = record {
          known = h.known;
          outer = h.outer;
          scopes = h.scopes;
          nodes = h.nodes;
          names = h.names;
          places = pairs-one (λ i r c. IsPlaceRow w g.scopes (nodes_in w o) r c) 0 o.places g.calls r c h.places (l, e, i, is_name);
          functions = h.functions;
          keys = (λ j. with_call_key (own j) (first j) (h.keys j)) ∙ call-keys c g;
          numbers = place-noted o g h.numbers k p r c given;
          becomes = h.becomes;
          parts = h.parts;
          entries = h.entries;
          actuals = each-one (PlaceFits o.nodes) o.places r h.actuals q;
          rights = h.rights;
        };
      })
