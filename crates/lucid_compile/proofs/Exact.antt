-- The table that was made is the table of its tree.
use Rattle.lucid_compile.proofs.Common.{◌≡◌, ℕ, zero, suc, ◌+◌, Bool, true, false, cond, length, List, [], ◌∷◌, ◌++◌, map, Option, Some, None, get_or, slice_get, nat_eq, refl, sym, ap, ◌∙◌, subst, inl, inr, arith, map-append, none-some, slice_get-map, option_map, position_or_len, const, PlainTree, form, name, call, block, PlainTrees, no_trees, tree, In, AllDiffer, IsWellMade, scoped_inputs, meaning, frame, first_place, node_of, Node, NodeRow, NameRow, PlaceRow, ScopeRow, Entry, Const, Call, Freeze, Plain, Current, Called, Root, Table, Kind, Note, piece, plain_right, current_right, called_right, noted_actuals, noted_name, noted_tree, noted_value, node_place, Numbered, name_mark, call_number, piece_target, Log, no_log, added, keys_of, IsNumberingOf, IsOpen, IsScopeRow, HasTarget, IsNodeRow, IsNameRow, IsPlaceRow, OneForOne, FunctionStand, call_row, row_of_call, callee_number, nodes_of}
use Rattle.std.proofs.Common.{not}
use Rattle.std.proofs.lemmas.Bool.{eq-eqb as eq-true}
use Rattle.lucid_lists.proofs.Lists.{slice_get-append_left as some-left}
use Rattle.lucid_compile.specs.Static.{Static, outermost, in_block, in_function}
use Rattle.lucid_compile.specs.Settled.{own, round, scope_kind, callee, scopes, pieces, constants, calls, names, index, node_number, node_numbers, scope_number, numbers_of, entry_of, row_of, table_of}
use Rattle.lucid_compile.specs.Noted.{IsNotedAt, IsNumber, AreNumbers, HasParts, HasBody}
use Rattle.lucid_compile.proofs.Pairs.{pairs-both, rows-map}
use Rattle.lucid_compile.proofs.Opening.{slice-past}
use Rattle.lucid_compile.proofs.Indices.{index-of, call-numbers}
use Rattle.std.proofs.lemmas.Simd.{map-map}
use Rattle.lucid_compile.proofs.Spots.{eq-false}
use Rattle.lucid_compile.proofs.Apart.{owns-differ}
use Rattle.lucid_compile.proofs.Keying.{names-apart, sites-apart}
use Rattle.lucid_compile.proofs.Logs.{names_at, calls_at}
use Rattle.lucid_compile.proofs.Walking.{Logs, logs-tree}
use Rattle.lucid_compile.proofs.Noticed.{pieces-differ, constants-differ}
use Rattle.lucid_compile.specs.Notes.{notes}
use Rattle.lucid_scope.specs.Sites.{sites as name_sites}
use Rattle.lucid_compile.proofs.HeldRows.{HasRows}
use Rattle.lucid_compile.proofs.Passing.{NoFaults}
use Rattle.lucid_compile.proofs.Scoping.{Agrees}
use Rattle.lucid_compile.proofs.Compiled.{GoesBy}
use Rattle.lucid_compile.proofs.Meeting.{AreMet, HasCallee, TargetMet, NodeMet, NodeRead, IsRead}
use Rattle.lucid_compile.proofs.Sounding.{each-at}

-- numbers that differ stand at one index each
front : (b : Bool) (n : ℕ) → b ≡ true → cond (not b) (1 + n) 0 ≡ 0
front b n e = rw e refl

past : (b : Bool) (n i : ℕ) → b ≡ false → n ≡ i → cond (not b) (1 + n) 0 ≡ suc i
past b n i e q = rw e (omega (arith, q))

stands-there : (xs : List ℕ) (i y : ℕ) → slice_get xs i ≡ Some y → In y xs
stands-there [] i y e = absurd (none-some y e)
stands-there (x ∷ xs) zero y e =
    let same : y ≡ x = cc in
    inl same
stands-there (x ∷ xs) (suc i) y e = inr (stands-there xs i y e)

pub first-at : {A : Type 0} (f : A → ℕ) (xs : List A) (i y : ℕ) → AllDiffer (map f xs) → slice_get (map f xs) i ≡ Some y
    → position_or_len (λ x. nat_eq (f x) y) xs ≡ i
first-at f [] i y d e = absurd (none-some y e)
first-at f (x ∷ xs) zero y d e =
    let same : f x ≡ y = cc in
    front (nat_eq (f x) y) _ (eq-true (f x) y same)
first-at f (x ∷ xs) (suc i) y d e =
    past (nat_eq (f x) y) _ i (eq-false (f x) y (λ q. d.0 (subst (λ v. In v (map f xs)) (sym q) (stands-there (map f xs) i y e)))) (first-at f xs i y d.1 e)

each-in : {A B : Type 0} (f g : A → B) (xs : List A) → ((x : A) → In x xs → f x ≡ g x) → map f xs ≡ map g xs
each-in f g [] h = refl
each-in f g (x ∷ xs) h = λ j. h x (inl refl) j ∷ each-in f g xs (λ y i. h y (inr i)) j

-- the row of a call stands at the call
row-place : (at : ℕ) (o : Option FunctionStand) → (row_of_call at o).at ≡ at
row-place at None = refl
row-place at (Some f) = refl

module _ (w : Numbered) (e : PlainTree) (t : Table) (made : IsWellMade e) (sure : NoFaults (name_sites outermost e))
    (numbers : IsNumberingOf (keys_of (added outermost e no_log)) w.numbering) (rows : HasRows w (added outermost e no_log) t)
    (met : AreMet w (added outermost e no_log) (added outermost e no_log)) (outer : IsOpen (added outermost e no_log).scopes 0 outermost) where
  abbrev z : Log
  z = added outermost e no_log

  abbrev walk : Logs no_log z (notes outermost e)
  walk = logs-tree outermost e no_log

  abbrev inputs : List (List ℕ)
  inputs = scoped_inputs w.scoped

  -- scopes

  homes-are : map own z.scopes ≡ map (λ n. own n.home) (scopes e)
  homes-are = ap (map own) walk.scopes ∙ map-map own (λ n. n.home) (scopes e)

  scope-number : (s : ℕ) (k : Static) → IsOpen z.scopes s k → scope_number e k ≡ s
  scope-number s k h =
      first-at (λ n. own n.home) (scopes e) s (own (frame k)) (subst AllDiffer homes-are (owns-differ e made))
      (ap (λ l. slice_get l s) (sym homes-are) ∙ slice_get-map own z.scopes s ∙ ap (option_map own) h)

  abbrev scope_row : Static → ScopeRow
  scope_row k = record { parent = scope_number e (round k); kind = scope_kind k }

  scope-is : (i : ℕ) (r : ScopeRow) (k : Static) → IsScopeRow z.scopes i r k → r ≡ scope_row k
  scope-is i r outermost h = h.1 ∙ (λ j. record { parent = sym (scope-number 0 outermost outer) j; kind = Root })
  scope-is i r (in_block ds k) h = λ j. record { parent = sym (scope-number r.parent k h.2) j; kind = h.0 j }
  scope-is i r (in_function d ns ats k) h = λ j. record { parent = sym (scope-number r.parent k h.2) j; kind = h.0 j }

  scopes-exact : t.scopes ≡ map (λ n. scope_row n.home) (scopes e)
  scopes-exact =
      rows-map (IsScopeRow z.scopes) scope_row 0 t.scopes z.scopes (λ i r k _ h. scope-is i r k h) rows.scopes
      ∙ ap (map scope_row) walk.scopes ∙ map-map scope_row (λ n. n.home) (scopes e)

  -- nodes and constants

  node-number : (i : ℕ) (x : PlainTree) → IsNumber z.nodes i x → node_number e x ≡ i
  node-number i x h =
      first-at (λ n. n.at) (pieces e) i (node_place x) (pieces-differ e made)
      (slice_get-map (λ n. n.at) (pieces e) i ∙ ap (λ ns. option_map (λ n. n.at) (slice_get ns i)) (sym walk.nodes) ∙ h)

  node-numbers : (is : List ℕ) (xs : PlainTrees) → AreNumbers z.nodes is xs → node_numbers e xs ≡ is
  node-numbers [] no_trees h = refl
  node-numbers [] (tree x xs) h = absurd h
  node-numbers (i ∷ is) no_trees h = absurd h
  node-numbers (i ∷ is) (tree x xs) h = λ j. node-number i x h.0 j ∷ node-numbers is xs h.1 j

  constant-number : (i at : ℕ) → IsNotedAt z.constants i at → index (constants e) at ≡ i
  constant-number i at h =
      first-at (λ n. n.at) (constants e) i at (constants-differ e made)
      (slice_get-map (λ n. n.at) (constants e) i ∙ ap (λ ns. option_map (λ n. n.at) (slice_get ns i)) (sym walk.constants) ∙ h)

  -- names

  abbrev row_of_note : Note → Note
  row_of_note c = call_row w z.functions c.at

  abbrev callee_of : Note → Note
  callee_of c = callee c.at (meaning (noted_name c.kind) c.home)

  abbrev stands : List Note
  stands = z.names ++ map row_of_note z.calls

  callee-is : (c : Note) → In c z.calls → row_of_note c ≡ callee_of c
  callee-is c i =
      let m = index-of z.calls c i in
      let h = each-at (HasCallee w z) z.calls m.0 c met.calls m.1 in
      ap (row_of_call c.at) h.there ∙ sym (ap (callee c.at) h.is)

  callees-are : map row_of_note z.calls ≡ map callee_of (calls e)
  callees-are = each-in row_of_note callee_of z.calls callee-is ∙ ap (map callee_of) walk.calls

  stands-are : stands ≡ names e
  stands-are = λ j. walk.names j ++ callees-are j

  names-differ : AllDiffer (map (λ n. n.at) (names e))
  names-differ =
      let same : map (λ n. n.at) stands ≡ names_at z ++ calls_at z = map-append (λ n. n.at) z.names (map row_of_note z.calls)
      ∙ ap (λ l. names_at z ++ l) (map-map (λ n. n.at) row_of_note z.calls
      ∙ each-in (λ c. (row_of_note c).at) (λ c. c.at) z.calls (λ c _. row-place c.at (slice_get z.functions (callee_number w c.at)))) in
      subst AllDiffer (sym same ∙ ap (map (λ n. n.at)) stands-are) (names-apart e made)

  pub name-number : (i : ℕ) (s : Note) → slice_get stands i ≡ Some s → (numbers_of e).name s.at ≡ i
  name-number i s h =
      first-at (λ n. n.at) (names e) i s.at names-differ
      (slice_get-map (λ n. n.at) (names e) i ∙ ap (λ ns. option_map (λ n. n.at) (slice_get ns i)) (sym stands-are) ∙ ap (option_map (λ n. n.at)) h)

  agrees : Agrees (numbers_of e) z.names
  agrees i s h = name-number i s (some-left z.names (map row_of_note z.calls) i s h)

  pub call-number : (i : ℕ) (c : Note) → slice_get z.calls i ≡ Some c → (numbers_of e).name c.at ≡ length z.names + i
  call-number i c h =
      ap (numbers_of e).name (sym (row-place c.at (slice_get z.functions (callee_number w c.at))))
      ∙ name-number (length z.names + i) (row_of_note c)
      (slice-past z.names (map row_of_note z.calls) i ∙ slice_get-map row_of_note z.calls i ∙ ap (option_map row_of_note) h)

  abbrev site_of : Note → ℕ
  site_of c = first_place (noted_actuals c.kind)

  pub place-number : (i : ℕ) (c : Note) → slice_get z.calls i ≡ Some c → (numbers_of e).place (noted_actuals c.kind) ≡ i
  place-number i c h =
      first-at site_of (calls e) i (site_of c) (subst (λ l. AllDiffer (map site_of l)) walk.calls (sites-apart e made sure))
      (slice_get-map site_of (calls e) i ∙ ap (λ ns. option_map site_of (slice_get ns i)) (sym walk.calls) ∙ ap (option_map site_of) h)

  pub goes-by : GoesBy w z (numbers_of e)
  goes-by = record {
    names = agrees;
    calls = λ c v. (let m = index-of z.calls c v in call-number m.0 c m.1 ∙ sym (call-numbers w z m.0 c numbers m.1).name);
    places = λ c v. (let m = index-of z.calls c v in place-number m.0 c m.1 ∙ sym (call-numbers w z m.0 c numbers m.1).place);
  }

  -- the rows of nodes

  node-is : (k : Static) (x : Kind) (r : Node) → HasTarget w r (piece_target x) → HasParts z.constants z.nodes r x → TargetMet w z (piece_target x) k
      → IsRead w z x k → r ≡ row_of e inputs k (noted_tree x)
  node-is k (piece (form at (const v) es)) r a h m d = h.1 ∙ ap Const (sym (constant-number h.0 at h.2))
  node-is k (piece (form at f es)) r a h m d =
      h.1 ∙ ap (λ is. node_of f (get_or is 0 0) (get_or is 1 0) (get_or is 2 0)) (sym (node-numbers h.0 es h.2))
  node-is k (piece (name at x)) r a h m d = a ∙ d (numbers_of e) agrees
  node-is k (piece (call at x es)) r a h m d =
      let i = index-of z.calls m.call m.inside in
      let c = call-numbers w z i.0 m.call numbers i.1 in
      let name : (name_mark w.numbering at).number ≡ (numbers_of e).name at = ap (λ p. (name_mark w.numbering p).number) (sym m.place) ∙ c.name
      ∙ sym (call-number i.0 m.call i.1) ∙ ap (numbers_of e).name m.place in
      let place : call_number w.numbering (first_place es) ≡ (numbers_of e).place es = ap (call_number w.numbering) (sym m.first_is) ∙ c.place
      ∙ sym (place-number i.0 m.call i.1) ∙ ap (λ p. position_or_len (λ c. nat_eq (site_of c) p) (calls e)) m.first_is in
      a ∙ (λ j. Call (name j) (place j) (d j))
  node-is k (piece (block at x ds)) r a h m d = h.1 ∙ ap Freeze (sym (node-number h.0 x h.2))
  node-is k _ r a h m d = absurd h

  abbrev node_row : Note → NodeRow
  node_row n = record { scope = scope_number e n.home; node = row_of e inputs n.home (noted_tree n.kind) }

  node-row-is : (r : NodeRow) (n : Note) (i : ℕ) → In n z.nodes → IsNodeRow w z.scopes i r n → HasParts z.constants z.nodes r.node n.kind → r ≡ node_row n
  node-row-is r n i in_nodes h p =
      let m = index-of z.nodes n in_nodes in
      let leads = each-at (NodeMet w z) z.nodes m.0 n met.nodes m.1 in
      let reads = each-at (NodeRead w z) z.nodes m.0 n met.reads m.1 in
      λ j. record { scope = sym (scope-number r.scope n.home h.2) j; node = node-is n.home n.kind r.node h.1 p leads reads j }

  nodes-exact : OneForOne (λ i r n. HasParts z.constants z.nodes r.node n.kind) 0 t.nodes z.nodes → t.nodes ≡ map node_row (pieces e)
  nodes-exact h =
      rows-map (λ i r n. IsNodeRow w z.scopes i r n × HasParts z.constants z.nodes r.node n.kind) node_row 0 t.nodes z.nodes
      (λ i r n v b. node-row-is r n i v b.0 b.1)
      (pairs-both (IsNodeRow w z.scopes) (λ i r n. HasParts z.constants z.nodes r.node n.kind) 0 t.nodes z.nodes rows.nodes h)
      ∙ ap (map node_row) walk.nodes

  -- the rows of names

  entry-is : (r : Entry) (x : Kind) → HasBody z.nodes r x → r ≡ entry_of e x
  entry-is r (plain_right y) h = h.1 ∙ ap Plain (sym (node-number h.0 y h.2))
  entry-is r (current_right y) h = h.1 ∙ ap Current (sym (node-number h.0 y h.2))
  entry-is r (called_right y) h = h.1 ∙ ap Called (sym (node-number h.0 y h.2))
  entry-is r _ h = h

  abbrev name_row : Note → NameRow
  name_row n = record { scope = scope_number e n.home; kind = entry_of e n.kind }

  names-exact : OneForOne (λ i r n. HasBody z.nodes r.kind n.kind) 0 t.names stands → t.names ≡ map name_row (names e)
  names-exact h =
      rows-map (λ i r n. IsNameRow w z.scopes (nodes_of t) r n × HasBody z.nodes r.kind n.kind) name_row 0 t.names stands
      (λ i r n v b j. record { scope = sym (scope-number r.scope n.home b.0.1) j; kind = entry-is r.kind n.kind b.1 j })
      (pairs-both (λ i r n. IsNameRow w z.scopes (nodes_of t) r n) (λ i r n. HasBody z.nodes r.kind n.kind) 0 t.names stands rows.names h)
      ∙ ap (map name_row) stands-are

  -- the rows of call places

  abbrev place_row : Note → PlaceRow
  place_row c = record { scope = scope_number e c.home; name = (numbers_of e).name c.at; actuals = node_numbers e (noted_actuals c.kind) }

  place-row-is : (r : PlaceRow) (c : Note) → In c z.calls → IsPlaceRow w z.scopes (nodes_of t) r c → AreNumbers z.nodes r.actuals (noted_actuals c.kind)
      → r ≡ place_row c
  place-row-is r c v h p =
      let i = index-of z.calls c v in
      let name : r.name ≡ (numbers_of e).name c.at = h.3 ∙ (call-numbers w z i.0 c numbers i.1).name ∙ sym (call-number i.0 c i.1) in
      λ j. record { scope = sym (scope-number r.scope c.home h.2) j; name = name j; actuals = sym (node-numbers r.actuals (noted_actuals c.kind) p) j }

  places-exact : OneForOne (λ i r c. AreNumbers z.nodes r.actuals (noted_actuals c.kind)) 0 t.places z.calls → t.places ≡ map place_row (calls e)
  places-exact h =
      rows-map (λ i r c. IsPlaceRow w z.scopes (nodes_of t) r c × AreNumbers z.nodes r.actuals (noted_actuals c.kind)) place_row 0 t.places z.calls
      (λ i r c v b. place-row-is r c v b.0 b.1)
      (pairs-both (λ i r c. IsPlaceRow w z.scopes (nodes_of t) r c) (λ i r c. AreNumbers z.nodes r.actuals (noted_actuals c.kind)) 0 t.places z.calls rows.places h)
      ∙ ap (map place_row) walk.calls

  -- the table

  pub exact : t.inputs ≡ inputs → t.constants ≡ map (λ n. noted_value n.kind) z.constants
      → OneForOne (λ i r n. HasParts z.constants z.nodes r.node n.kind) 0 t.nodes z.nodes
      → OneForOne (λ i r n. HasBody z.nodes r.kind n.kind) 0 t.names stands
      → OneForOne (λ i r c. AreNumbers z.nodes r.actuals (noted_actuals c.kind)) 0 t.places z.calls
      → IsNumber z.nodes t.root e → t ≡ table_of e inputs
  exact same values parts bodies actuals root =
      let constants_are : t.constants ≡ map (λ n. noted_value n.kind) (constants e) = values ∙ ap (map (λ n. noted_value n.kind)) walk.constants in
      λ j. record {
        scopes = scopes-exact j;
        inputs = same j;
        constants = constants_are j;
        nodes = nodes-exact parts j;
        names = names-exact bodies j;
        places = places-exact actuals j;
        root = sym (node-number t.root e root) j;
      }
