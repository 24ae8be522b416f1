-- The table of the lists keeps the tree, and is sound.
use Rattle.lucid_compile.proofs.Common.{◌≡◌, ℕ, ◌+◌, ◌<◌, ◌≤◌, length, Option, List, [], ◌++◌, map, Some, None, get_or, slice_get, refl, sym, ap, ◌∙◌, subst, arith, length-append, option_map, length-map, slice_get-map, PlainTree, no_trees, In, AllDiffer, IsWellMade, named, again, site_at, binding_for, fault_of, scoped_tree, scoped_binding, scoped_inputs, Binding, PlainEntry, Equations, called_entry, sizes, IsInRange, at, all_at, grow, nodes_of, equations_of, StandsIn, IsSound, Root, Entry, Plain, Parameter, Current, Called, Table, Mark, Origin, Source, nodes_for, in_body, HasRow, Actuals, first_place, KeepsTree, or_no_mark, name_mark, function_mark, call_number, mark_by, key_of_function, KeyLists, keys_of, IsNumberingOf, Lists, OneScope, link, Note, Numbered, bound_node, bound_nodes, callee_place, FunctionStand, Log, no_log, added, AreKnown, EachRow, NodeFits, NameFits, PlaceFits, ScopesHold, NodesHold, NamesHold, PlacesHold, IsEntry, IsNameRow, IsPlaceRow, Holds, GrownTo, AddsTree, row_of_call, call_row, rows_of_calls, with_calls, ∥∥₁_elim, Coded-set, coded_option, coded_list, IsResolved, FreeNamesAreInputs, entry_by, noted_actuals, bound_entry, node_place, AreNumbers, HasBody, HasParts, IsNumber, OneForOne, noted_tree, Numbers, no_node, Compiles}
use Rattle.std.proofs.lemmas.Option.{slice_get_within as index-below}
use base.Stored.{coded_ℕ}
use Rattle.lucid_lists.proofs.Lists.{slice_get-append_left as some-left}
use Rattle.lucid_scope.specs.Sites.{Site as NameSite, called, sites as name_sites}
use Rattle.lucid_scope.specs.contracts.scoped.Binding as binding
use Rattle.lucid_scope.specs.contracts.refusal.ScopeRefusal as refusal
use Rattle.lucid_equations.proofs.NumbersRead.{grown-count as grow-count}
use Rattle.lucid_compile.specs.Static.{outermost, Site}
use Rattle.lucid_compile.proofs.HeldRows.{HasRows, have-scopes}
use Rattle.lucid_compile.specs.Numbered.{function_of}
use Rattle.lucid_compile.specs.Building.{no_lists, with_scope}
use Rattle.lucid_compile.proofs.LinkedRows.{scope-linked}
use Rattle.lucid_compile.proofs.Keying.{DifferingKeys, keys-differ}
use Rattle.lucid_compile.specs.Holds.{nodes_in}
use Rattle.lucid_compile.specs.Steps.{IsTableOf}
use Rattle.lucid_compile.proofs.Opening.{slice-past}
use Rattle.lucid_compile.proofs.Pairs.{row-at, pairs-count}
use Rattle.lucid_compile.proofs.Indices.{index-of, marked-at, call-numbers, name-numbers}
use Rattle.lucid_compile.proofs.Spots.{index, spots, spot_keys, spot-at}
use Rattle.lucid_compile.proofs.Actuals.{at_number, at_number_of, at_number-nodes_for, actuals-read}
use Rattle.lucid_compile.proofs.Promised.{compiled-keeps}
use Rattle.lucid_compile.proofs.Passing.{NoFaults}
use Rattle.lucid_compile.proofs.Scoping.{IsListed, IsThere}
use Rattle.lucid_compile.proofs.Stands.{LogFits, parameter_stand, fits-tree, home-tree}
use Rattle.lucid_compile.proofs.Compiled.{IsWhole, Leads, AreFit, Same, GoesBy, node-is, kept-bound, within-itself}
use Rattle.lucid_compile.proofs.Calling.{calls-held, bodies-held}
use Rattle.lucid_compile.proofs.Exact.{exact, goes-by, call-number, place-number}
use Rattle.lucid_compile.proofs.Meant.{pieces-mean}
use Rattle.lucid_compile.specs.Meant.{NodesMeanTheirPieces}
use Rattle.lucid_equations.specs.Rows.{node_at}
use Rattle.std.proofs.lemmas.Option.{get_or_from_slice_get}
use Rattle.lucid_tree.proofs.Members.{in_all}
use Rattle.lucid_compile.proofs.Sounding.{each-at}
use Rattle.lucid_compile.proofs.Walking.{Logs, logs-tree}
use Rattle.lucid_compile.specs.Notes.{notes}
use Rattle.lucid_compile.specs.Settled.{numbers_of, table_of as settled}
use Rattle.lucid_compile.proofs.Meeting.{AreMet, NodeBecomes, tree-met}
use Rattle.lucid_compile.proofs.Apart.{scopes-apart}
use Rattle.lucid_compile.proofs.Ranged.{nodes-in_range, names-in_range, places-in_range}
use Rattle.lucid_compile.proofs.Sounding.{scopes-nest, nodes-nest}
use Rattle.lucid_compile.proofs.Leading.{names-fit, bodies-stand, references-lead, calls-lead, places-pass}

module _ (w : Numbered) (z : Log) (fits : LogFits z) (n : IsNumberingOf (keys_of z) w.numbering) where
  listed-at : (i : ℕ) (s : Note) → slice_get z.names i ≡ Some s → ((name_mark w.numbering s.at).number ≡ i) × IsListed w.numbering z.names s.at s.home
  listed-at i s e =
      let m = name-numbers w z i s n e in
      (m.number, record { depth = m.depth; kind = s.kind; found = ap (slice_get z.names) m.number ∙ e })

  there : (f : FunctionStand) → In f z.functions → IsThere w.numbering z.names z.functions (λ _ _. Unit {0}) f
  there f i =
      let r = index-of z.functions f i in
      let mark : function_mark w.numbering f.at ≡ mark_by (0 + r.0) (key_of_function f) =
      ap or_no_mark (marked-at key_of_function (function_of w.numbering) 0 z.functions r.0 f n.functions r.1) in
      let place : 0 + r.0 ≡ r.0 = omega arith in
      let fit = fits f i in
      record {
        depth = ap (λ (m : Mark). m.level) mark;
        parameters = λ j b. (let l = listed-at (f.first + j) (parameter_stand (in_body f.names f.places f.home) j (get_or f.places j 0))
            (fit.stand j (omega (arith, b, fit.counts))) in (l.0 ∙ ap (λ (m : Mark). m.first + j) (sym mark), l.1));
        found = ap (λ (m : Mark). slice_get z.functions m.number) mark ∙ ap (slice_get z.functions) place ∙ r.1;
        counts = fit.counts;
        right_is = tt;
      }

  pub whole : IsWhole w z
  whole = record {
    names = λ s i. (let r = index-of z.names s i in (listed-at r.0 s r.1).1);
    functions = there;
  }

entry-read : (t : Table) (r : Entry) (e : PlainEntry) → IsEntry (nodes_of t) r e → entry_by t r ≡ e
entry-read t (Plain a) e h = h.1
entry-read t (Parameter i) e h = h
entry-read t (Current a) e h = h.1
entry-read t (Called a) e h = h.1

-- no name of a resolved tree is at fault
pub no-faults : (e : PlainTree) (inputs : List (List ℕ)) (bindings : ℕ → Option Binding) → ∥ IsResolved e inputs bindings ∥₁ → NoFaults (name_sites outermost e)
no-faults e inputs bindings r s i = ∥∥₁_elim r (Coded-set (coded_option refusal.the_row.coded) _ _) (λ q. in_all (λ x. fault_of x ≡ None) _ s q.no_fault i)

leads : (inputs : List (List ℕ)) (e : PlainTree) → FreeNamesAreInputs → (bindings : ℕ → Option Binding) → ∥ IsResolved e inputs bindings ∥₁ → (s : NameSite)
    → In s (name_sites outermost e) → Leads inputs s
leads inputs e law bindings r (named at x k) i = λ q.
    ∥∥₁_elim r (Coded-set (coded_option (coded_list coded_ℕ)) _ _) (λ y. law e inputs y.inputs_are at x k i q)
leads inputs e law bindings r (called at x n k) i = tt
leads inputs e law bindings r (again at) i = tt

pub fit : (w : Numbered) (e : PlainTree) → FreeNamesAreInputs → ∥ IsResolved e (scoped_inputs w.scoped) (scoped_binding w.scoped) ∥₁
    → AreFit w (name_sites outermost e)
fit w e law r s i = (
  ∥∥₁_elim r (Coded-set (coded_option binding.the_row.coded) _ _)
      (λ q. in_all (λ x. scoped_binding w.scoped (site_at x) ≡ binding_for (scoped_inputs w.scoped) x) _ s q.bindings_are.bound i),
  ∥∥₁_elim r
      (Coded-set (coded_option refusal.the_row.coded) _ _) (λ q. in_all (λ x. fault_of x ≡ None) _ s q.no_fault i),
  leads (scoped_inputs w.scoped) e law (scoped_binding w.scoped) r s i,
)

-- the lists before any tree: the outermost scope alone
abbrev pub begun : Lists
begun = with_scope (record { parent = 0; kind = Root }) no_lists

-- where no number leads
abbrev or_nowhere : Option Origin → Origin
or_nowhere None = record { at = 0; home = outermost }
or_nowhere (Some o) = o

abbrev or_no_site : Option Site → Site
or_no_site None = record { actuals = no_trees; caller = outermost }
or_no_site (Some s) = s

-- what is known of the table of a tree
pub record IsMade (w : Numbered) (e : PlainTree) (t : Table) : Type 0 where
  pub exact : t ≡ settled e (scoped_inputs w.scoped)
  pub keeps : KeepsTree (equations_of t) e
  pub means : NodesMeanTheirPieces e (equations_of t) (node_at t)
  pub rows : HasRows w (added outermost e no_log) t
  pub in_range : IsInRange t
  pub sound : AllDiffer t.inputs → length t.inputs ≤ 1048576 → IsSound t

module _ (w : Numbered) (e : PlainTree) (o n : Lists) (root : ℕ) (t : Table)
    (made : IsWellMade e) (law : FreeNamesAreInputs) (r : ∥ IsResolved e (scoped_inputs w.scoped) (scoped_binding w.scoped) ∥₁)
    (numbers : IsNumberingOf (keys_of (added outermost e no_log)) w.numbering)
    (grown : GrownTo w begun o (added outermost e no_log) (bound_node w e) (node_place e) 0 root)
    (others : n ≡ with_calls w o) (is : IsTableOf n (scoped_inputs w.scoped) root t) where
  abbrev z : Log
  z = added outermost e no_log

  abbrev stands : List Note
  stands = z.names ++ map (λ c. call_row w z.functions c.at) z.calls

  abbrev p : Equations
  p = equations_of t

  abbrev origin_of : Note → Origin
  origin_of s = record { at = s.at; home = s.home }

  abbrev site_of : Note → Site
  site_of c = record { actuals = (noted_actuals c.kind); caller = c.home }

  abbrev so : Source
  so = record {
    origin = λ k. or_nowhere (slice_get (map origin_of stands) k);
    site = λ q. or_no_site (slice_get (map site_of z.calls) q);
    scope_at = λ a. (or_nowhere (slice_get (spots e) (index (spot_keys e) a))).home;
  }

  abbrev walk : Logs no_log z (notes outermost e)
  walk = logs-tree outermost e no_log

  abbrev held : Holds w o z
  held = grown.grown.holds

  -- the lists of the table
  scopes-same : t.scopes ≡ o.scopes
  scopes-same = is.scopes ∙ ap (λ (l : Lists). l.scopes) others

  rows-same : t.nodes ≡ o.nodes
  rows-same = is.nodes ∙ ap (λ (l : Lists). l.nodes) others

  names-same : t.names ≡ (with_calls w o).names
  names-same = is.names ∙ ap (λ (l : Lists). l.names) others

  places-same : t.places ≡ o.places
  places-same = is.places ∙ ap (λ (l : Lists). l.places) others

  nodes-same : nodes_of t ≡ nodes_in w o
  nodes-same = (λ j. grow (is.constants j) (is.inputs_are j) [] (is.nodes j)) ∙ ap (nodes_in w) others

  rows : HasRows w z t
  rows = record {
    scopes = subst (λ rs. ScopesHold z.scopes rs z.scopes) (sym scopes-same) held.scopes;
    nodes = subst (λ rs. NodesHold w z.scopes rs z.nodes) (sym rows-same) held.nodes;
    names = subst (λ rs. NamesHold w z.scopes (nodes_of t) rs stands) (sym names-same)
        (subst (λ ts. NamesHold w z.scopes ts (with_calls w o).names stands) (sym nodes-same) (calls-held w o z held));
    places = subst (λ rs. PlacesHold w z.scopes (nodes_of t) rs z.calls) (sym places-same)
        (subst (λ ts. PlacesHold w z.scopes ts o.places z.calls) (sym nodes-same) held.places);
  }

  all : IsWhole w z
  all = whole w z (fits-tree outermost e no_log made.shaped (λ f i. absurd i)) numbers

  -- what names and calls lead to
  met : AreMet w z z
  met = tree-met w z all outermost e no_log (fit w e law r) tt (within-itself z) (record { calls = tt; nodes = tt; reads = tt; becomes = tt })

  sure : NoFaults (name_sites outermost e)
  sure = no-faults e (scoped_inputs w.scoped) (scoped_binding w.scoped) r

  -- the tree's numbers
  abbrev nu : Numbers
  nu = numbers_of e

  by : GoesBy w z nu
  by = goes-by w e t made sure numbers rows met held.outer

  row-is : (k : ℕ) (s : Note) → slice_get stands k ≡ Some s → nu.name s.at ≡ k → HasRow nu so p s.at s.home (bound_entry w s.kind)
  row-is k s stand number =
      let f = row-at (λ i r s. IsNameRow w z.scopes (nodes_of t) r s) 0 t.names stands k s rows.names stand in (
        ap p.entry number ∙ ap (λ x. option_map (entry_by t) (option_map (λ x. x.kind) x)) f.there
            ∙ ap Some (entry-read t f.row.kind (bound_entry w s.kind) f.is.0),
        ap so.origin number
            ∙ ap or_nowhere (slice_get-map origin_of stands k ∙ ap (option_map origin_of) stand),
      )

  row-there : (s : Note) → In s z.names → HasRow nu so p s.at s.home (bound_entry w s.kind)
  row-there s i =
      let f = index-of z.names s i in
      row-is f.0 s (some-left z.names _ f.0 s f.1) (by.names f.0 s f.1)

  call-there : (c : Note) (f : FunctionStand) → In c z.calls → callee_place (scoped_binding w.scoped c.at) ≡ f.at
      → IsThere w.numbering z.names z.functions (Same w nu) f
      → HasRow nu so p c.at (in_body f.names f.places f.home) (called_entry (bound_node w f.right))
  call-there c f i q h =
      let same : call_row w z.functions c.at ≡ row_of_call c.at (Some f) =
      ap (λ a. row_of_call c.at (slice_get z.functions (function_mark w.numbering a).number)) q ∙ ap (row_of_call c.at) h.found in
      let m = index-of z.calls c i in
      let stand : slice_get stands (length z.names + m.0) ≡ Some (row_of_call c.at (Some f)) = slice-past z.names _ m.0
      ∙ slice_get-map (λ c. call_row w z.functions c.at) z.calls m.0 ∙ ap (option_map (λ c. call_row w z.functions c.at)) m.1 ∙ ap Some same in
      row-is (length z.names + m.0) (row_of_call c.at (Some f)) stand (call-number w e t made sure numbers rows met held.outer m.0 c m.1)

  place-there : (c : Note) → In c z.calls → bound_nodes w (noted_actuals c.kind) ≡ nodes_for nu c.home (noted_actuals c.kind)
      → Actuals nu so p c.home (noted_actuals c.kind)
  place-there c i same =
      let m = index-of z.calls c i in
      let number : nu.place (noted_actuals c.kind) ≡ m.0 = place-number w e t made sure numbers rows met held.outer m.0 c m.1 in
      let f = row-at (λ i r c. IsPlaceRow w z.scopes (nodes_of t) r c) 0 t.places z.calls m.0 c rows.places m.1 in (
        λ j. ap (λ q. p.actual q j) number ∙ actuals-read (nodes_of t) (slice_get t.places m.0) j
            ∙ ap (λ x. at_number_of (option_map (λ r. all_at (nodes_of t) r.actuals) x) j) f.there ∙ ap (λ x. at_number x j) (f.is.1 ∙ same)
            ∙ sym (at_number-nodes_for nu c.home (noted_actuals c.kind) j),
        ap so.site number
            ∙ ap or_no_site (slice_get-map site_of z.calls m.0 ∙ ap (option_map site_of) m.1),
      )

  spot-there : (x : Origin) → In x (spots e) → so.scope_at x.at ≡ x.home
  spot-there x i = ap (λ y. (or_nowhere y).home) (spot-at e made x i)

  compiled : Compiles nu so p e
  compiled = record {
    root = ap (at (nodes_of t)) is.root_is ∙ ap (λ ts. at ts root) nodes-same ∙ grown.is
        ∙ node-is w z all nu by outermost e no_log (fit w e law r) tt (within-itself z);
    kept = kept-bound w z all nu by so p row-there call-there place-there outermost e no_log (fit w e law r) tt (within-itself z) spot-there;
  }

  keeps : KeepsTree p e
  keeps = compiled-keeps nu so p e compiled

  -- its nodes mean their pieces
  means : NodesMeanTheirPieces e p (node_at t)
  means = pieces-mean e t so made compiled spot-there (λ i n there.
      let x = row-at (λ i y n. y ≡ bound_node w (noted_tree n.kind)) 0 (nodes_of t) z.nodes i n
      (subst (λ ts. OneForOne (λ i y n. y ≡ bound_node w (noted_tree n.kind)) 0 ts z.nodes) (sym nodes-same) held.becomes)
      (ap (λ ns. slice_get ns i) walk.nodes ∙ there) in
      get_or_from_slice_get (nodes_of t) i x.row no_node x.there ∙ x.is
      ∙ each-at (NodeBecomes w z) z.nodes i n met.becomes (ap (λ ns. slice_get ns i) walk.nodes ∙ there) nu by)

  call-leads : (c : Note) → In c z.calls → ((name_mark w.numbering c.at).number < length t.names)
      × (call_number w.numbering (first_place (noted_actuals c.kind)) < length t.places)
  call-leads c i =
      let m = index-of z.calls c i in
      let k = call-numbers w z m.0 c numbers m.1 in
      let below : m.0 < length z.calls = index-below z.calls m.0 c m.1 in (
        omega (
          arith,
          k.name,
          below,
          pairs-count (λ i r s. IsNameRow w z.scopes (nodes_of t) r s) 0 t.names stands rows.names,
          length-append z.names
              (map (λ c. call_row w z.functions c.at) z.calls),
          length-map z.calls (λ c. call_row w z.functions c.at),
        ),
        omega (arith, k.place, below, pairs-count (λ i r c. IsPlaceRow w z.scopes (nodes_of t) r c) 0 t.places z.calls rows.places),
      )

  -- the numbers of the table are in range
  ranged : IsInRange t
  ranged =
      let long : length (nodes_of t) ≡ length t.nodes = omega (arith, grow-count t.constants t.inputs [] t.nodes) in
      let more : length z.names ≤ length t.names = omega (
        arith,
        pairs-count (λ i r s. IsNameRow w z.scopes (nodes_of t) r s) 0 t.names stands rows.names,
        length-append z.names
            (map (λ c. call_row w z.functions c.at) z.calls),
      ) in
      let known : AreKnown (length t.constants) t.nodes =
      subst (λ rs. AreKnown (length t.constants) rs) (sym rows-same)
      (subst (λ n. AreKnown n o.nodes) (sym (ap length (is.constants ∙ ap (λ (l : Lists). l.constants) others))) held.known) in (
        omega (arith, is.root_is, grown.within, grow-count o.constants (scoped_inputs w.scoped) [] o.nodes, ap length rows-same),
        omega (arith, is.few_inputs, ap length is.inputs_are),
        nodes-in_range w z (sizes t) more (ap length is.inputs_are) call-leads z.scopes 0 t.nodes z.nodes known rows.nodes met.nodes,
        names-in_range w z.scopes (sizes t) (nodes_of t) 0 t.names stands long rows.names,
        places-in_range w z.scopes (sizes t) (nodes_of t) 0 t.places z.calls long rows.places,
      )

  -- it is sound
  sound : AllDiffer t.inputs → length t.inputs ≤ 1048576 → IsSound t
  sound differ few =
      let apart = scopes-apart e made in
      let homes = home-tree outermost e no_log tt in
      let nodes : EachRow (NodeFits t.scopes t.nodes) t.nodes =
      subst (λ xs. EachRow (NodeFits xs t.nodes) t.nodes) (sym scopes-same) (subst (λ rs. EachRow (NodeFits o.scopes rs) rs) (sym rows-same) held.parts) in
      let names : EachRow (NameFits o.scopes o.nodes) (with_calls w o).names =
      subst (λ cs. EachRow (NameFits o.scopes o.nodes) (o.names ++ rows_of_calls w o.bodies cs)) (sym (ap (λ (k : KeyLists). k.calls) held.keys))
      (names-fit w z o.scopes o.nodes z.scopes (nodes_in w o) o.bodies o.names held.functions held.rights met.calls held.entries) in
      let bodies : EachRow (NameFits t.scopes t.nodes) t.names =
      subst (λ ns. EachRow (NameFits t.scopes t.nodes) ns) (sym names-same)
      (subst (λ xs. EachRow (NameFits xs t.nodes) (with_calls w o).names) (sym scopes-same)
      (subst (λ rs. EachRow (NameFits o.scopes rs) (with_calls w o).names) (sym rows-same) names)) in
      let actuals : EachRow (PlaceFits t.nodes) t.places =
      subst (λ ps. EachRow (PlaceFits t.nodes) ps) (sym places-same) (subst (λ rs. EachRow (PlaceFits rs) o.places) (sym rows-same) held.actuals) in
      record {
        scopes = scopes-nest t z.scopes held.outer rows.scopes;
        nodes = nodes-nest t w z.scopes z.nodes ranged rows.nodes nodes;
        references = references-lead t w z rows apart numbers met homes;
        calls = calls-lead t w z rows apart numbers met homes;
        bodies = bodies-stand t bodies;
        places = places-pass t w z rows apart numbers met homes actuals;
        root = record {
          root = subst (StandsIn t.nodes 0) (sym is.root_is) (subst (λ rs. StandsIn rs 0 root) (sym rows-same) grown.stands);
          differ = differ;
          few = few;
        };
        homes = have-scopes t w z rows;
      }

  -- it is the table of the tree
  exactly : t ≡ settled e (scoped_inputs w.scoped)
  exactly =
      exact w e t made sure numbers rows met held.outer is.inputs_are
      (is.constants ∙ ap (λ (l : Lists). l.constants) others ∙ held.numbers.constants)
      (subst (λ rs. OneForOne (λ i r n. HasParts z.constants z.nodes r.node n.kind) 0 rs z.nodes) (sym rows-same) held.numbers.parts)
      (subst (λ rs. OneForOne (λ i r n. HasBody z.nodes r.kind n.kind) 0 rs stands) (sym names-same) (bodies-held w o z held))
      (subst (λ rs. OneForOne (λ i r c. AreNumbers z.nodes r.actuals (noted_actuals c.kind)) 0 rs z.calls) (sym places-same) held.numbers.actuals)
      (subst (λ i. IsNumber z.nodes i e) (sym is.root_is) grown.noted)

  is-made : IsMade w e t
  is-made = record { exact = exactly; keeps = keeps; means = means; rows = rows; in_range = ranged; sound = sound }

-- nothing was added to a list of the outermost scope
nothing-held : (w : Numbered) → Holds w begun no_log
nothing-held w = record {
  known = tt;
  outer = refl;
  scopes = ((refl, refl), tt);
  names = tt;
  nodes = tt;
  places = tt;
  functions = tt;
  keys = refl;
  numbers = record { constants = refl; parts = tt; bodies = tt; actuals = tt; rights = tt };
  becomes = tt;
  parts = tt;
  entries = tt;
  actuals = tt;
  rights = tt;
}

-- the lists to which a tree was added hold it, in the outermost scope
module _ (w : Numbered) (b o m : Lists) (x : PlainTree) (scope root : ℕ) (made : IsWellMade (scoped_tree w.scoped))
    (r : ∥ IsResolved (scoped_tree w.scoped) (scoped_inputs w.scoped) (scoped_binding w.scoped) ∥₁)
    (empty : b ≡ no_lists) (start : OneScope b o (record { parent = 0; kind = Root }) scope) (whole_tree : x ≡ scoped_tree w.scoped)
    (adds : (w : Numbered) → AddsTree w (link w o) (link w m) (record { scope = scope; level = 0 }) x root) where
  begin-held : GrownTo w begun (link w m) (added outermost (scoped_tree w.scoped) no_log) (bound_node w (scoped_tree w.scoped)) (node_place (scoped_tree w.scoped)) 0 root
  begin-held =
      let begins : OneScope no_lists (link w o) (record { parent = 0; kind = Root }) scope =
      subst (λ l. OneScope (link w l) (link w o) (record { parent = 0; kind = Root }) scope) empty
      (scope-linked w b o (record { parent = 0; kind = Root }) scope start) in
      let tree : AddsTree w (link w o) (link w m) (record { scope = scope; level = 0 }) (scoped_tree w.scoped) root =
      subst (λ y. AddsTree w (link w o) (link w m) (record { scope = scope; level = 0 }) y root) whole_tree (adds w) in
      let all : AddsTree w begun (link w m) (record { scope = 0; level = 0 }) (scoped_tree w.scoped) root =
      subst (λ l. AddsTree w l (link w m) (record { scope = 0; level = 0 }) (scoped_tree w.scoped) root) begins.lists
      (subst (λ s. AddsTree w (link w o) (link w m) (record { scope = s; level = 0 }) (scoped_tree w.scoped) root) begins.number tree) in
      all outermost no_log (refl, refl) made.shaped (nothing-held w)

  -- their keys differ
  pub keys-apart : DifferingKeys m.keys
  keys-apart = keys-differ (scoped_tree w.scoped) m.keys made (no-faults (scoped_tree w.scoped) (scoped_inputs w.scoped) (scoped_binding w.scoped) r)
      begin-held.grown.holds.keys

  -- what is known of the table that they are, with numbers by the keys, and then the rows of the calls
  pub table-made : (n : Lists) (inputs : List (List ℕ)) (t : Table) → FreeNamesAreInputs → IsNumberingOf m.keys w.numbering → n ≡ with_calls w (link w m)
      → inputs ≡ scoped_inputs w.scoped → IsTableOf n inputs root t → IsMade w (scoped_tree w.scoped) t
  table-made n inputs t law numbers others same is =
      is-made w (scoped_tree w.scoped) (link w m) n root t made law r (subst (λ k. IsNumberingOf k w.numbering) begin-held.grown.holds.keys numbers) begin-held
      others (subst (λ y. IsTableOf n y root t) same is)
