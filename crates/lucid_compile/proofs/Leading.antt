-- In a table that has the rows of a resolved tree, references and calls lead to names in scope at their depth, bodies stand where they have
-- to, and call places pass all parameters.
use Rattle.lucid_compile.proofs.Common.{◌≡◌, ℕ, ◌+◌, ◌<◌, length, List, [], ◌∷◌, ◌++◌, map, Option, Some, None, slice_get, sym, ap, ◌∙◌, subst, arith, option_map, slice_get-map, In, scoped_binding, scoped_inputs, Binding, PlainNode, plain_entry, called_entry, current_entry, parameter_entry, nodes_of, HasDepth, Refer, Call, Entry, Plain, Parameter, Current, Called, ScopeRow, NodeRow, NameRow, Table, frame, in_body, first_place, Numbering, Body, name_mark, function_mark, call_number, Key, call_key, keys_of, IsNumberingOf, Note, Numbered, bound_node, node_by, callee_place, Target, no_target, of_name, of_call, Log, EachRow, IsOpen, HasTarget, IsNodeRow, IsEntry, IsNameRow, IsPlaceRow, IsBody, FunctionsHold, NameFits, PlaceFits, BodyFits, callee_number, row_of_call, call_row, row_by, rows_of_calls, IsReferable, NameIs, ReferenceLeads, ReferencesLead, CallLeads, CallsLead, BodiesStand, PlacesPass, noted_actuals, Kind, called_right, current_right, parameter_number, plain_right, bound_entry, piece_target, at}
use Rattle.lucid_lists.proofs.Lists.{slice_get-append_left as some-left}
use Rattle.lucid_scope.specs.declared.scoped.Binding.TheVariants.{Plain as PlainName, Current as CurrentName, Parameter as ParameterName, Function as FunctionName, Input as InputName}
use Rattle.lucid_compile.specs.Static.{Static, outermost, in_block, in_function}
use Rattle.lucid_compile.proofs.HeldRows.{HasRows}
use Rattle.lucid_compile.proofs.Opening.{slice-past}
use Rattle.lucid_compile.proofs.Growing.{each-row}
use Rattle.lucid_compile.proofs.Adding.{count-same}
use Rattle.lucid_compile.proofs.Pairs.{row-at, thing-at}
use Rattle.lucid_compile.proofs.Apart.{AreApart}
use Rattle.lucid_compile.proofs.Depths.{scope-row, depths, rounds}
use Rattle.lucid_compile.proofs.Stands.{IsParameter, IsAtHome, StandIsAtHome}
use Rattle.lucid_compile.proofs.Meeting.{NameLeads, IsMet, HasCallee, TargetMet, NodeMet, AreMet}
use Rattle.lucid_compile.proofs.Sounding.{each-at}
use Rattle.lucid_compile.proofs.Indices.{index-of, call-numbers}

each-joined : {A : Type 0} (P : A → Type 0) (xs ys : List A) → EachRow P xs → EachRow P ys → EachRow P (xs ++ ys)
each-joined P [] ys h g = g
each-joined P (x ∷ xs) ys h g = (h.0, each-joined P xs ys h.1 g)

each-image : {A B : Type 0} (P : A → Type 0) (Q : B → Type 0) (f : A → B) → ((x : A) → P x → Q (f x)) → (xs : List A) → EachRow P xs → EachRow Q (map f xs)
each-image P Q f h [] p = tt
each-image P Q f h (x ∷ xs) p = (h x p.0, each-image P Q f h xs p.1)

-- Names' rows stand: those of calls, since the bodies of their functions do.

row-fits : (w : Numbered) (z : Log) (xs : List ScopeRow) (rs : List NodeRow) (ks : List Static) (ts : List PlainNode) (bs : List Body)
    → FunctionsHold w ks ts bs z.functions → EachRow (BodyFits xs rs) bs → (c : Note) → HasCallee w z c
    → NameFits xs rs (row_by (slice_get bs (callee_number w c.at)))
row-fits w z xs rs ks ts bs h fit c m =
    let b = row-at (λ i b f. IsBody w ks ts b f) 0 bs z.functions (callee_number w c.at) m.function h m.there in
    subst (λ o. NameFits xs rs (row_by o)) (sym b.there) (each-at (BodyFits xs rs) bs (callee_number w c.at) b.row fit b.there)

pub names-fit : (w : Numbered) (z : Log) (xs : List ScopeRow) (rs : List NodeRow) (ks : List Static) (ts : List PlainNode) (bs : List Body)
    (names : List NameRow) → FunctionsHold w ks ts bs z.functions → EachRow (BodyFits xs rs) bs → EachRow (HasCallee w z) z.calls
    → EachRow (NameFits xs rs) names
    → EachRow (NameFits xs rs) (names ++ rows_of_calls w bs (map call_key z.calls))
names-fit w z xs rs ks ts bs names h fit met entries =
    each-joined (NameFits xs rs) names _ entries
    (each-image (λ (k : Key). NameFits xs rs (row_by (slice_get bs (callee_number w k.at)))) (NameFits xs rs)
    (λ k. row_by (slice_get bs (callee_number w k.at))) (λ k p. p) (map call_key z.calls)
    (each-image (HasCallee w z) (λ (k : Key). NameFits xs rs (row_by (slice_get bs (callee_number w k.at)))) call_key (row-fits w z xs rs ks ts bs h fit)
    z.calls met))

pub bodies-stand : (t : Table) → EachRow (NameFits t.scopes t.nodes) t.names → BodiesStand t
bodies-stand t fit n s e h = each-at (NameFits t.scopes t.nodes) t.names n (record { scope = s; kind = e }) fit h

-- what an entry is, by what it stands for
no-body : (w : Numbered) (n : PlainNode) (x : Kind) (k : Static) → called_entry n ≡ bound_entry w x → IsAtHome x k → ⊥
no-body w n (plain_right e) k h g = cc
no-body w n (current_right e) k h g = cc
no-body w n (parameter_number i) k h g = cc
no-body w n _ k h g = g

not-called : (w : Numbered) (ts : List PlainNode) (r : Entry) (x : Kind) (k : Static) → IsEntry ts r (bound_entry w x) → IsAtHome x k → IsReferable r
not-called w ts (Plain a) x k h g = tt
not-called w ts (Parameter i) x k h g = tt
not-called w ts (Current a) x k h g = tt
not-called w ts (Called a) x k h g = absurd (no-body w (at ts a) x k h.1 g)

a-body : (ts : List PlainNode) (r : Entry) (x : PlainNode) → IsEntry ts r (called_entry x) → (a : ℕ) × (r ≡ Called a)
a-body ts (Plain a) x h =
    let q : plain_entry _ ≡ called_entry x = h.1 in
    absurd (cc)
a-body ts (Parameter i) x h =
    let q : parameter_entry i ≡ called_entry x = h in
    absurd (cc)
a-body ts (Current a) x h =
    let q : current_entry _ ≡ called_entry x = h.1 in
    absurd (cc)
a-body ts (Called a) x h = (a, λ j. Called a)

-- the node of a name is no call
no-call : (g : Numbering) (b : Option Binding) (n q l : ℕ) → Call n q l ≡ node_by g b → ⊥
no-call g None n q l e = cc
no-call g (Some (PlainName d)) n q l e = cc
no-call g (Some (CurrentName d)) n q l e = cc
no-call g (Some (ParameterName d i)) n q l e = cc
no-call g (Some (FunctionName d)) n q l e = cc
no-call g (Some (InputName s)) n q l e = cc

-- a call's node, with its call
record CallFound (w : Numbered) (z : Log) (home : Static) (name place depth : ℕ) : Type 0 where
  call : Note
  inside : In call z.calls
  name_is : name ≡ (name_mark w.numbering call.at).number
  place_is : place ≡ call_number w.numbering (first_place (noted_actuals call.kind))
  depth_is : depth ≡ (function_mark w.numbering (callee_place (scoped_binding w.scoped call.at))).level
  home_is : call.home ≡ home

module _ (w : Numbered) (z : Log) where
  -- by what a node names
  reference-met : (t : Target) (k : Static) (n l : ℕ) → HasTarget w (Refer n l) t → TargetMet w z t k → IsMet z k n l
  reference-met no_target k n l h m = absurd h
  reference-met (of_name at) k n l h m = subst (NameLeads z (length (scoped_inputs w.scoped)) k) (sym h) m
  reference-met (of_call at first) k n l h m =
      let q : Refer n l ≡ Call (name_mark w.numbering at).number (call_number w.numbering first)
      (function_mark w.numbering (callee_place (scoped_binding w.scoped at))).level = h in
      absurd (cc)

  call-found : (t : Target) (k : Static) (n q l : ℕ) → HasTarget w (Call n q l) t → TargetMet w z t k → CallFound w z k n q l
  call-found no_target k n q l h m = absurd h
  call-found (of_name at) k n q l h m = absurd (no-call w.numbering (scoped_binding w.scoped at) n q l h)
  call-found (of_call at first) k n q l h m =
      let e : Call n q l ≡ Call (name_mark w.numbering at).number (call_number w.numbering first)
      (function_mark w.numbering (callee_place (scoped_binding w.scoped at))).level = h in
      let name : n ≡ (name_mark w.numbering at).number = cc in
      let place : q ≡ call_number w.numbering first = cc in
      let depth : l ≡ (function_mark w.numbering (callee_place (scoped_binding w.scoped at))).level = cc in
      record {
        call = m.call;
        inside = m.inside;
        name_is = name ∙ ap (λ a. (name_mark w.numbering a).number) (sym m.place);
        place_is = place ∙ ap (call_number w.numbering) (sym m.first_is);
        depth_is = depth ∙ ap (λ a. (function_mark w.numbering (callee_place (scoped_binding w.scoped a))).level) (sym m.place);
        home_is = m.home_is;
      }

-- the scope of a parameter is that of its function
parameter-of : (ks : List Static) (i s : ℕ) (k : Static) (ns : List (List ℕ)) (ats : List ℕ) (q : Static) → IsParameter i k → IsOpen ks s k
    → IsOpen ks s (in_body ns ats q) → i < length ats
parameter-of ks i s outermost ns ats q p a b = absurd p
parameter-of ks i s (in_block ds k) ns ats q p a b = absurd p
parameter-of ks i s (in_function d xs bs k) ns ats q p a b =
    let same : Some (in_function d xs bs k) ≡ Some (in_body ns ats q) = sym a ∙ b in
    let places : bs ≡ ats = cc in
    subst (λ l. i < length l) places p

-- a parameter goes with what is in scope from it on
abbrev IsPassed : Kind → Static → Type 0
IsPassed (plain_right e) k = Unit {0}
IsPassed (current_right e) k = Unit {0}
IsPassed (called_right e) k = Unit {0}
IsPassed (parameter_number i) k = IsParameter i k
IsPassed _ k = ⊥

home-passed : (x : Kind) (k : Static) → IsAtHome x k → IsPassed x k
home-passed (plain_right e) k h = tt
home-passed (current_right e) k h = tt
home-passed (called_right e) k h = tt
home-passed (parameter_number i) k h = h
home-passed _ k h = h

passed-is : (w : Numbered) (x : Kind) (k : Static) (i : ℕ) → parameter_entry i ≡ bound_entry w x → IsPassed x k → IsParameter i k
passed-is w (parameter_number j) k i e h =
    let same : j ≡ i = cc in
    subst (λ n. IsParameter n k) same h
passed-is w (plain_right x) k i e h = absurd (cc)
passed-is w (current_right x) k i e h = absurd (cc)
passed-is w (called_right x) k i e h = absurd (cc)
passed-is w _ k i e h = absurd h

module _ (t : Table) (w : Numbered) (z : Log) (rows : HasRows w z t) (apart : AreApart z.scopes) (numbers : IsNumberingOf (keys_of z) w.numbering)
    (met : AreMet w z z) (homes : EachRow StandIsAtHome z.names) where
  abbrev stands : List Note
  stands = z.names ++ map (λ c. call_row w z.functions c.at) z.calls

  met-leads : (s n l : ℕ) (k : Static) → IsOpen z.scopes s k → IsMet z k n l → ReferenceLeads t s n l
  met-leads s n l k o m =
      let r = row-at (λ i r s. IsNameRow w z.scopes (nodes_of t) r s) 0 t.names stands n m.stand rows.names (some-left z.names _ n m.stand m.there) in
      record {
        home = r.row.scope;
        entry = r.row.kind;
        named = r.there;
        referable = not-called w (nodes_of t) r.row.kind m.stand.kind m.stand.home r.is.0 (each-at StandIsAtHome z.names n m.stand homes m.there);
        round = rounds t.scopes z.scopes rows.scopes apart m.stand.home r.row.scope r.is.1 k s m.outside o;
        depth = subst (HasDepth t.scopes r.row.scope) m.deep (depths t.scopes z.scopes rows.scopes m.stand.home r.row.scope r.is.1);
      }

  pub references-lead : ReferencesLead t
  references-lead id s n l e =
      let v = thing-at (IsNodeRow w z.scopes) 0 t.nodes z.nodes id (record { scope = s; node = Refer n l }) rows.nodes e in
      met-leads s n l v.thing.home v.is.2 (reference-met w z (piece_target v.thing.kind) v.thing.home n l v.is.1
      (each-at (NodeMet w z) z.nodes id v.thing met.nodes v.there))

  -- the row of a call's name
  record CalledRow (c : Note) (name : ℕ) : Type 0 where
    callee : HasCallee w z c
    inside : ℕ
    body : ℕ
    named : NameIs t name inside (Called body)
    opens : IsOpen z.scopes inside (in_body callee.function.names callee.function.places callee.function.home)

  called-row : (i : ℕ) (c : Note) → slice_get z.calls i ≡ Some c → CalledRow c (length z.names + i)
  called-row i c e =
      let h = each-at (HasCallee w z) z.calls i c met.calls e in
      let n : ℕ = length z.names + i in
      let s : Note = row_of_call c.at (Some h.function) in
      let there : slice_get stands n ≡ Some s =
      slice-past z.names _ i ∙ slice_get-map (λ c. call_row w z.functions c.at) z.calls i ∙ ap (option_map (λ c. call_row w z.functions c.at)) e
      ∙ ap (λ o. Some (row_of_call c.at o)) h.there in
      let r = row-at (λ i r s. IsNameRow w z.scopes (nodes_of t) r s) 0 t.names stands n s rows.names there in
      let b = a-body (nodes_of t) r.row.kind (bound_node w h.function.right) r.is.0 in
      let named : slice_get t.names n ≡ Some (record { scope = r.row.scope; kind = Called b.0 }) = r.there
      ∙ ap (λ k. Some (record { scope = r.row.scope; kind = k })) b.1 in
      record { callee = h; inside = r.row.scope; body = b.0; named = named; opens = r.is.1 }

  found-leads : (s n q l : ℕ) (k : Static) → IsOpen z.scopes s k → CallFound w z k n q l → CallLeads t s n q l
  found-leads s n q l k o f =
      let at = index-of z.calls f.call f.inside in
      let m = call-numbers w z at.0 f.call numbers at.1 in
      let r = called-row at.0 f.call at.1 in
      let here : IsOpen z.scopes s f.call.home = subst (IsOpen z.scopes s) (sym f.home_is) o in
      let p = row-at (λ i r c. IsPlaceRow w z.scopes (nodes_of t) r c) 0 t.places z.calls at.0 f.call rows.places at.1 in
      let x = scope-row t.scopes z.scopes rows.scopes r.inside (in_body r.callee.function.names r.callee.function.places r.callee.function.home) r.opens in
      record {
        inside = r.inside;
        home = x.row.parent;
        kind = x.row.kind;
        body = r.body;
        named = subst (λ y. NameIs t y r.inside (Called r.body)) (sym (f.name_is ∙ m.name)) r.named;
        parent = x.there;
        round = rounds t.scopes z.scopes rows.scopes apart r.callee.function.home x.row.parent x.is.2 f.call.home s r.callee.outside here;
        depth = subst (HasDepth t.scopes x.row.parent) (sym (f.depth_is ∙ r.callee.deep))
            (depths t.scopes z.scopes rows.scopes r.callee.function.home x.row.parent x.is.2);
        row = p.row;
        passed = ap (slice_get t.places) (f.place_is ∙ m.place) ∙ p.there;
        row_scope = apart p.row.scope s (frame f.call.home) p.is.2 here;
        row_name = p.is.3 ∙ sym f.name_is;
      }

  pub calls-lead : CallsLead t
  calls-lead id s n q l e =
      let v = thing-at (IsNodeRow w z.scopes) 0 t.nodes z.nodes id (record { scope = s; node = Call n q l }) rows.nodes e in
      found-leads s n q l v.thing.home v.is.2 (call-found w z (piece_target v.thing.kind) v.thing.home n q l v.is.1
      (each-at (NodeMet w z) z.nodes id v.thing met.nodes v.there))

  call-passed : (c : Note) → HasCallee w z c → IsPassed (call_row w z.functions c.at).kind (call_row w z.functions c.at).home
  call-passed c h = subst (λ o. IsPassed (row_of_call c.at o).kind (row_of_call c.at o).home) (sym h.there) tt

  all-passed : EachRow (λ s. IsPassed s.kind s.home) stands
  all-passed =
      each-joined (λ s. IsPassed s.kind s.home) z.names _
      (each-row StandIsAtHome (λ s. IsPassed s.kind s.home) z.names (λ s h. home-passed s.kind s.home h) homes)
      (each-image (HasCallee w z) (λ s. IsPassed s.kind s.home) (λ c. call_row w z.functions c.at) call-passed z.calls met.calls)

  pub places-pass : EachRow (PlaceFits t.nodes) t.places → PlacesPass t
  places-pass fit q r e =
      let v = thing-at (λ i r c. IsPlaceRow w z.scopes (nodes_of t) r c) 0 t.places z.calls q r rows.places e in
      let c = v.thing in
      let x = called-row q c v.there in
      let m = call-numbers w z q c numbers v.there in
      let f = x.callee.function in
      record {
        home = x.inside;
        body = x.body;
        named = subst (λ y. NameIs t y x.inside (Called x.body)) (sym (v.is.3 ∙ m.name)) x.named;
        stand = each-at (PlaceFits t.nodes) t.places q r fit e;
        enough = λ n i h.
            let y = thing-at (λ i r s. IsNameRow w z.scopes (nodes_of t) r s) 0 t.names stands n (record { scope = x.inside; kind = Parameter i }) rows.names h in
            let p : IsParameter i y.thing.home =
            passed-is w y.thing.kind y.thing.home i y.is.0 (each-at (λ s. IsPassed s.kind s.home) stands n y.thing all-passed y.there) in
            omega (
              arith,
              parameter-of z.scopes i x.inside y.thing.home f.names f.places f.home p y.is.1 x.opens,
              x.callee.given,
              count-same w (nodes_of t)
                  r.actuals (noted_actuals c.kind) v.is.1,
            );
      }
