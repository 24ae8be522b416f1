-- What the names and the calls of a resolved tree lead to: rows of what is in scope there, at its level.
use Rattle.lucid_compile.proofs.Common.{◌≡◌, ℕ, ◌<◌, Bool, true, false, if◌then◌else◌, length, nat_eq, List, [], ◌∷◌, ◌++◌, Option, Some, None, slice_get, refl, sym, ap, ◌∙◌, subst, inl, inr, arith, nat_tests, position_or_len, PlainTree, form, name, call, block, PlainTrees, no_trees, tree, PlainDefs, no_defs, defines, defines_function, defines_current, Found, absent, plain_def, function_def, current_def, definition, param, same_name, count, In, in_right, Meaning, free, plain_name, parameter, current_name, function, meaning, defined_in, parameter_in, named, Earlier, also, no_names, again_if, repeats, sites, sites_in, outside_sites, inside_sites, binding_of, name_fault, call_fault, scoped_binding, scoped_inputs, Binding, Arity, Node, Input, Refer, freezes, level, in_body, first_place, function_mark, Note, Numbered, node_by, name_node, callee_place, Target, no_target, of_name, of_call, FunctionStand, Log, with_stand, with_call, with_function, opened_block, opened_function, with_parameters, added, added_all, added_defs, EachRow, callee_number, current_right, note, noted_actuals, piece, plain_right, piece_target, Kind, noted_name, call_level, Numbers, noted_tree, node_for, bound_node}
use Rattle.std.proofs.lemmas.Option.{slice_get_within as index-below}
use Rattle.lucid_scope.specs.Sites.{called}
use Rattle.std.proofs.lemmas.List.{append-nil}
use Rattle.lucid_scope.specs.Scope.{function as a_function}
use Rattle.lucid_compile.specs.Static.{Static, outermost, in_block, in_function, reference_of}
use Rattle.lucid_compile.specs.Settled.{reference_row}
use Rattle.lucid_compile.proofs.Growing.{each-one}
use Rattle.lucid_compile.proofs.Stands.{parameters-calls, parameters-nodes}
use Rattle.lucid_compile.proofs.Depths.{IsOutside}
use Rattle.lucid_compile.proofs.Scoping.{Agrees, not_some, forget, bare, meaning-bare, Known, DefsKnown, MeaningKnown, meaning-known}
use Rattle.lucid_compile.proofs.Compiled.{Within, within-then, before-nodes, before-form, within-trees, within-defs, within-stand, within-call, within-function, IsWhole, AreFit, fit-left, fit-right, Nothing, defs-known, no-rights, function-known, GoesBy, node-is}

-- What a name belongs to stands in scope.
abbrev pub MeaningOutside : Static → Meaning → Type 0
MeaningOutside k free = Unit {0}
MeaningOutside k (plain_name d e h) = IsOutside (forget h) k
MeaningOutside k (parameter d i p h) = IsOutside (forget h) k
MeaningOutside k (current_name d e h o) = IsOutside (forget h) k
MeaningOutside k (function d ns ats e h) = IsOutside (forget h) k

block-outside : (ds : PlainDefs) (k : Static) (m : Meaning) → MeaningOutside k m → MeaningOutside (in_block ds k) m
block-outside ds k free h = tt
block-outside ds k (plain_name d e q) h = inr h
block-outside ds k (parameter d i p q) h = inr h
block-outside ds k (current_name d e q o) h = inr h
block-outside ds k (function d ns ats e q) h = inr h

function-outside : (xs : List (List ℕ)) (bs : List ℕ) (k : Static) (m : Meaning) → MeaningOutside k m → MeaningOutside (in_body xs bs k) m
function-outside xs bs k free h = tt
function-outside xs bs k (plain_name d e q) h = inr h
function-outside xs bs k (parameter d i p q) h = inr h
function-outside xs bs k (current_name d e q o) h = inr h
function-outside xs bs k (function d ns ats e q) h = inr h

defined-outside : (f : Found) (ds : PlainDefs) (k : Static) (m : Meaning) → MeaningOutside (forget k) m
    → MeaningOutside (in_block ds (forget k)) (defined_in f (in_block ds k) k m)
defined-outside absent ds k m h = block-outside ds (forget k) m h
defined-outside (plain_def at e) ds k m h = inl refl
defined-outside (function_def at ns ats e) ds k m h = inl refl
defined-outside (current_def at e) ds k m h = inl refl

parameter-outside : (o : Option ℕ) (d : ℕ) (xs : List (List ℕ)) (ats : List ℕ) (k : Static) (m : Meaning) → MeaningOutside (forget k) m
    → MeaningOutside (in_body xs ats (forget k)) (parameter_in o d ats (in_function d xs ats k) m)
parameter-outside None d xs ats k m h = function-outside xs ats (forget k) m h
parameter-outside (Some i) d xs ats k m h = inl refl

meaning-outside : (x : List ℕ) (k : Static) → MeaningOutside (forget k) (meaning x k)
meaning-outside x outermost = tt
meaning-outside x (in_block ds k) = defined-outside (definition x ds) ds k (meaning x k) (meaning-outside x k)
meaning-outside x (in_function d xs ats k) = parameter-outside (param x xs) d xs ats k (meaning x k) (meaning-outside x k)

-- a name that a reference leads to: it stands in scope, at its level
pub record IsMet (z : Log) (home : Static) (name depth : ℕ) : Type 0 where
  pub stand : Note
  pub there : slice_get z.names name ≡ Some stand
  pub outside : IsOutside stand.home home
  pub deep : level stand.home ≡ depth

-- the node of a name leads to an input that is there, or to a name that is met
abbrev pub NameLeads : Log → (inputs : ℕ) → (home : Static) → Node → Type 0
NameLeads z n k (Input s) = s < n
NameLeads z n k (Refer x l) = IsMet z k x l
NameLeads z n k _ = ⊥

-- the function of a call stands in scope, at its level, and has as many parameters as the call has actuals
pub record HasCallee (w : Numbered) (z : Log) (c : Note) : Type 0 where
  pub function : FunctionStand
  pub there : slice_get z.functions (callee_number w c.at) ≡ Some function
  pub is : meaning (noted_name c.kind) c.home ≡ a_function function.at function.names function.places function.right function.home
  pub deep : (function_mark w.numbering (callee_place (scoped_binding w.scoped c.at))).level ≡ level function.home
  pub outside : IsOutside function.home c.home
  pub given : count (noted_actuals c.kind) ≡ length function.places

-- one row more, or none
one-or-none : (P : Note → Type 0) (b : Bool) (n : Note) (ss : List Note) → P n → EachRow P ss → EachRow P (ss ++ (if b then n ∷ [] else []))
one-or-none P true n ss m h = each-one P ss n h m
one-or-none P false n ss m h = subst (EachRow P) (sym (append-nil ss)) h

-- what is said by the bindings of a name or a call is said by what its name belongs to
abbrev pub IsRead : Numbered → Log → Kind → (home : Static) → Type 0
IsRead w z (piece (name at x)) k =
    (nu : Numbers) → Agrees nu z.names → name_node w at ≡ reference_row (scoped_inputs w.scoped) (reference_of nu (level k) x (meaning x k))
IsRead w z (piece (call at x es)) k = (function_mark w.numbering (callee_place (scoped_binding w.scoped at))).level ≡ call_level (level k) (meaning x k)
IsRead w z _ k = Unit {0}

abbrev pub NodeRead : Numbered → Log → Note → Type 0
NodeRead w z n = IsRead w z n.kind n.home

-- a node becomes what its piece does, by numbers that go by the log
abbrev pub NodeBecomes : Numbered → Log → Note → Type 0
NodeBecomes w z n = (nu : Numbers) → GoesBy w z nu → bound_node w (noted_tree n.kind) ≡ node_for nu n.home (noted_tree n.kind)

-- a call that stands in the log
pub record CallStands (z : Log) (home : Static) (at first : ℕ) : Type 0 where
  pub call : Note
  pub inside : In call z.calls
  pub place : call.at ≡ at
  pub first_is : first_place (noted_actuals call.kind) ≡ first
  pub home_is : call.home ≡ home

module _ (w : Numbered) (z : Log) where
  -- a name that is bound, at no fault
  name-met : (at : ℕ) (x : List ℕ) (k : Static) (b : Option Binding) (m : Meaning) → b ≡ Some (binding_of (scoped_inputs w.scoped) x m) → name_fault at m ≡ None
      → (m ≡ free → slice_get (scoped_inputs w.scoped) (position_or_len (same_name x) (scoped_inputs w.scoped)) ≡ Some x)
      → MeaningKnown w.numbering z.names z.functions Nothing m → MeaningOutside k m → NameLeads z (length (scoped_inputs w.scoped)) k (node_by w.numbering b)
  name-met at x k b free e f l h o = subst (λ v. NameLeads z (length (scoped_inputs w.scoped)) k (node_by w.numbering v)) (sym e)
      (index-below (scoped_inputs w.scoped) _ x (l refl))
  name-met at x k b (plain_name d t q) e f l h o =
      subst (λ v. NameLeads z (length (scoped_inputs w.scoped)) k (node_by w.numbering v)) (sym e)
      (record { stand = record { at = d; home = forget q; kind = h.kind }; there = h.found; outside = o; deep = sym h.depth })
  name-met at x k b (parameter d i p q) e f l h o =
      subst (λ v. NameLeads z (length (scoped_inputs w.scoped)) k (node_by w.numbering v)) (sym e)
      (record {
        stand = record { at = p; home = forget q; kind = h.2.kind };
        there = ap (slice_get z.names) (sym h.0) ∙ h.2.found;
        outside = o;
        deep = sym h.1;
      })
  name-met at x k b (current_name d t q r) e f l h o =
      subst (λ v. NameLeads z (length (scoped_inputs w.scoped)) k (node_by w.numbering v)) (sym e)
      (record { stand = record { at = d; home = forget q; kind = h.kind }; there = h.found; outside = o; deep = sym h.depth })
  name-met at x k b (function d ns ats t q) e f l h o = absurd (not_some _ f)

  name-read : (top at : ℕ) (x : List ℕ) (b : Option Binding) (m : Meaning) → b ≡ Some (binding_of (scoped_inputs w.scoped) x m) → name_fault at m ≡ None
      → MeaningKnown w.numbering z.names z.functions Nothing m → (nu : Numbers) → Agrees nu z.names
      → node_by w.numbering b ≡ reference_row (scoped_inputs w.scoped) (reference_of nu top x (bare m))
  name-read top at x b free e f h nu a = ap (node_by w.numbering) e
  name-read top at x b (plain_name d t q) e f h nu a = ap (node_by w.numbering) e ∙ (λ j. Refer (sym (a _ (note d (forget q) h.kind) h.found) j) (h.depth j))
  name-read top at x b (parameter d i p q) e f h nu a =
      ap (node_by w.numbering) e ∙ (λ j. Refer ((sym h.0 ∙ sym (a _ (note p (forget q) h.2.kind) h.2.found)) j) (h.1 j))
  name-read top at x b (current_name d t q r) e f h nu a =
      ap (node_by w.numbering) e ∙ (λ j. Refer (sym (a _ (note d (forget q) h.kind) h.found) j) (h.depth j))
  name-read top at x b (function d ns ats t q) e f h nu a = absurd (not_some _ f)

  as_given : (at n m : ℕ) (b : Bool) → nat_eq m n ≡ b → (if b then None else Some (Arity at m n)) ≡ None → n ≡ m
  as_given at n m true q e = grind (arith, nat_tests, q)
  as_given at n m false q e = absurd (not_some _ e)

  -- a call that is bound, at no fault
  call-met : (at : ℕ) (x : List ℕ) (es : PlainTrees) (k : Static) (m : Meaning) → scoped_binding w.scoped at ≡ Some (binding_of (scoped_inputs w.scoped) x m)
      → call_fault at (count es) m ≡ None → MeaningKnown w.numbering z.names z.functions Nothing m → MeaningOutside k m → meaning x k ≡ bare m
      → HasCallee w z (note at k (piece (call at x es)))
  call-met at x es k free e f h o s = absurd (not_some _ f)
  call-met at x es k (plain_name d t q) e f h o s = absurd (not_some _ f)
  call-met at x es k (parameter d i p q) e f h o s = absurd (not_some _ f)
  call-met at x es k (current_name d t q r) e f h o s = absurd (not_some _ f)
  call-met at x es k (function d ns ats t q) e f h o s =
      let place : callee_place (scoped_binding w.scoped at) ≡ d = ap callee_place e in
      record {
        function = record { at = d; first = h.0; names = ns; places = ats; right = t; home = forget q };
        there = ap (λ p. slice_get z.functions (function_mark w.numbering p).number) place ∙ h.1.found;
        is = s;
        deep = ap (λ p. (function_mark w.numbering p).level) place ∙ h.1.depth;
        outside = o;
        given = as_given at (count es) (length ns) (nat_eq (length ns) (count es)) refl f ∙ h.1.counts;
      }

  -- what a node names besides its parts is met
  abbrev pub TargetMet : Target → (home : Static) → Type 0
  TargetMet no_target k = Unit {0}
  TargetMet (of_name at) k = NameLeads z (length (scoped_inputs w.scoped)) k (name_node w at)
  TargetMet (of_call at first) k = CallStands z k at first

  abbrev pub NodeMet : Note → Type 0
  NodeMet s = TargetMet (piece_target s.kind) s.home

  -- what the calls and the nodes of a log lead to is met
  pub record AreMet (a : Log) : Type 0 where
    pub calls : EachRow (HasCallee w z) a.calls
    pub nodes : EachRow NodeMet a.nodes
    pub reads : EachRow (NodeRead w z) a.nodes
    pub becomes : EachRow (NodeBecomes w z) a.nodes

module _ (w : Numbered) (z : Log) (whole : IsWhole w z) where
  parameters-met : (k : Static) (ats : List ℕ) (l : Log) → AreMet w z l → AreMet w z (with_parameters k 0 ats l)
  parameters-met k ats l m = record {
    calls = subst (EachRow (HasCallee w z)) (sym (parameters-calls k 0 ats l)) m.calls;
    nodes = subst (EachRow (NodeMet w z)) (sym (parameters-nodes k 0 ats l)) m.nodes;
    reads = subst (EachRow (NodeRead w z)) (sym (parameters-nodes k 0 ats l)) m.reads;
    becomes = subst (EachRow (NodeBecomes w z)) (sym (parameters-nodes k 0 ats l)) m.becomes;
  }

  mutual
    pub tree-met : (k : Static) (e : PlainTree) (a : Log) → AreFit w (sites k e) → Known w.numbering z.names z.functions Nothing k
        → Within (added (forget k) e a) z → AreMet w z a → AreMet w z (added (forget k) e a)
    tree-met k (form at f es) a h s i m =
        let r = trees-met k es a h s (before-form _ _ _ z i) m in
        let n : Note = note at (forget k) (piece (form at f es)) in
        record {
          calls = r.calls;
          nodes = each-one (NodeMet w z) _ n r.nodes tt;
          reads = each-one (NodeRead w z) _ n r.reads tt;
          becomes = each-one (NodeBecomes w z) _ n r.becomes (λ nu by. node-is w z whole nu by k (form at f es) a h s i);
        }
    tree-met k (name at x) a h s i m =
        let fit = h (named at x k) (inl refl) in
        record {
          calls = m.calls;
          nodes = each-one (NodeMet w z) a.nodes (note at (forget k) (piece (name at x))) m.nodes
              (name-met w z at x (forget k) (scoped_binding w.scoped at) (meaning x k) fit.0 fit.1 fit.2
              (meaning-known w.numbering z.names z.functions Nothing x k s) (meaning-outside x k));
          becomes = each-one (NodeBecomes w z) a.nodes (note at (forget k) (piece (name at x))) m.becomes (λ nu by.
              node-is w z whole nu by k (name at x) a h s i);
          reads = each-one (NodeRead w z) a.nodes (note at (forget k) (piece (name at x))) m.reads (λ nu agrees.
              name-read w z (level (forget k)) at x (scoped_binding w.scoped at) (meaning x k) fit.0 fit.1
              (meaning-known w.numbering z.names z.functions Nothing x k s) nu agrees
              ∙ ap (λ y. reference_row (scoped_inputs w.scoped) (reference_of nu (level (forget k)) x y)) (sym (meaning-bare x k)));
        }
    tree-met k (call at x es) a h s i m =
        let fit = h (called at x (count es) k) (inl refl) in
        let c : Note = note at (forget k) (piece (call at x es)) in
        let b : Log = added_all (forget k) es a in
        let j : Within (with_call c b) z = before-nodes _ _ z i in
        let r = trees-met k es a (λ y q. h y (inr q)) s (within-then b (with_call c b) z (within-call c b) j) m in
        let callee : HasCallee w z c = call-met w z at x es (forget k) (meaning x k) fit.0 fit.1
        (meaning-known w.numbering z.names z.functions Nothing x k s) (meaning-outside x k) (meaning-bare x k) in
        record {
          calls = each-one (HasCallee w z) b.calls c r.calls callee;
          becomes = each-one (NodeBecomes w z) b.nodes c r.becomes (λ nu by. node-is w z whole nu by k (call at x es) a h s i);
          reads = each-one (NodeRead w z) b.nodes c r.reads (callee.deep ∙ sym (ap (call_level (level (forget k))) callee.is));
          nodes = each-one (NodeMet w z) b.nodes c r.nodes
              (record { call = c; inside = j.calls c (in_right c b.calls (c ∷ []) (inl refl)); place = refl; first_is = refl; home_is = refl });
        }
    tree-met k (block at e ds) a h s i m =
        let q : Static = in_block ds k in
        let u : Log = opened_block ds (forget k) a in
        let b : Log = added (forget q) e u in
        let on : Within (added_defs (forget q) (forget k) ds b) z = before-nodes _ _ z i in
        let outside = fit-left w (outside_sites k ds) _ h in
        let inside = fit-right w (outside_sites k ds) _ h in
        let known : Known w.numbering z.names z.functions Nothing q =
        (defs-known w z whole Nothing (forget q) (forget k) ds b on (no-rights w z whole (forget q) ds), s) in
        let first : AreMet w z b = tree-met q e u (fit-left w (sites q e) _ inside) known (within-then b _ z (within-defs (forget q) (forget k) ds b) on)
        (record { calls = m.calls; nodes = m.nodes; reads = m.reads; becomes = m.becomes }) in
        let r = defs-met q k no_names ds b outside (fit-right w (sites q e) _ inside) known s known.0 on first in
        let n : Note = note at (forget k) (piece (block at e ds)) in
        record {
          calls = r.calls;
          nodes = one-or-none (NodeMet w z) (freezes ds) n _ tt r.nodes;
          reads = one-or-none (NodeRead w z) (freezes ds) n _ tt r.reads;
          becomes = one-or-none (NodeBecomes w z) (freezes ds) n _ (λ nu by. node-is w z whole nu by k (block at e ds) a h s i) r.becomes;
        }

    trees-met : (k : Static) (es : PlainTrees) (a : Log) → AreFit w (sites_in k es) → Known w.numbering z.names z.functions Nothing k
        → Within (added_all (forget k) es a) z → AreMet w z a → AreMet w z (added_all (forget k) es a)
    trees-met k no_trees a h s i m = m
    trees-met k (tree e es) a h s i m =
        let b : Log = added (forget k) e a in
        trees-met k es b (fit-right w (sites k e) (sites_in k es) h) s i
        (tree-met k e a (fit-left w (sites k e) (sites_in k es) h) s (within-then b _ z (within-trees (forget k) es b) i) m)

    defs-met : (k q : Static) (earlier : Earlier) (ds : PlainDefs) (a : Log) → AreFit w (outside_sites q ds) → AreFit w (inside_sites k earlier ds)
        → Known w.numbering z.names z.functions Nothing k → Known w.numbering z.names z.functions Nothing q
        → DefsKnown w.numbering z.names z.functions Nothing (forget k) ds
        → Within (added_defs (forget k) (forget q) ds a) z → AreMet w z a → AreMet w z (added_defs (forget k) (forget q) ds a)
    defs-met k q earlier no_defs a out h s t d i m = m
    defs-met k q earlier (defines at x e ds) a out h s t d i m =
        let v : Note = note at (forget k) (plain_right e) in
        let c : Log = added (forget k) e a in
        let b : Log = with_stand v c in
        let on : Within b z = within-then b _ z (within-defs (forget k) (forget q) ds b) i in
        let own = fit-right w (again_if (earlier x) at) _ h in
        let r = tree-met k e a (fit-left w (sites k e) _ own) s (within-then c b z (within-stand v c) on) m in
        defs-met k q (also x earlier) ds b out (fit-right w (sites k e) _ own) s t d.1 i (record { calls = r.calls; nodes = r.nodes; reads = r.reads; becomes = r.becomes })
    defs-met k q earlier (defines_function at x ns ats e ds) a out h s t d i m =
        let v : Static = in_function at ns ats k in
        let f : FunctionStand = record { at = at; first = length a.names; names = ns; places = ats; right = e; home = forget k } in
        let u : Log = opened_function ns ats (forget k) a in
        let c : Log = with_parameters (forget v) 0 ats u in
        let l : Log = added (forget v) e c in
        let b : Log = with_function f l in
        let on : Within b z = within-then b _ z (within-defs (forget k) (forget q) ds b) i in
        let own = fit-right w (again_if (earlier x) at) _ h in
        let part = fit-right w (repeats no_names ns ats) (sites v e) (fit-left w _ (inside_sites k (also x earlier) ds) own) in
        let before : AreMet w z c = parameters-met (forget v) ats u (record { calls = m.calls; nodes = m.nodes; reads = m.reads; becomes = m.becomes }) in
        let r = tree-met v e c part (function-known w z whole Nothing k at d.0.0 ns ats e d.0.1 s) (within-then l b z (within-function f l) on) before in
        defs-met k q (also x earlier) ds b out (fit-right w _ (inside_sites k (also x earlier) ds) own) s t d.1 i (record { calls = r.calls; nodes = r.nodes; reads = r.reads; becomes = r.becomes })
    defs-met k q earlier (defines_current at x e ds) a out h s t d i m =
        let v : Note = note at (forget k) (current_right e) in
        let c : Log = added (forget q) e a in
        let b : Log = with_stand v c in
        let on : Within b z = within-then b _ z (within-defs (forget k) (forget q) ds b) i in
        let r = tree-met q e a (fit-left w (sites q e) _ out) t (within-then c b z (within-stand v c) on) m in
        defs-met k q (also x earlier) ds b (fit-right w (sites q e) _ out) (fit-right w (again_if (earlier x) at) _ h) s t d.1 i
        (record { calls = r.calls; nodes = r.nodes; reads = r.reads; becomes = r.becomes })
