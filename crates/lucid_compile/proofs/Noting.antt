-- Rows that have the numbers of what was noted have them with one thing more.
use Rattle.lucid_compile.proofs.Common.{◌≡◌, ℕ, zero, suc, List, [], ◌∷◌, ◌++◌, Some, None, sym, ◌∙◌, subst, map-append, PlainValue, const, PlainTree, form, block, PlainTrees, no_trees, tree, Node, Entry, NodeRow, NameRow, PlaceRow, ScopeRow, Body, Key, Lists, with_name, with_body, with_place, FunctionStand, Log, with_nodes, with_constants, with_scopes, with_stand, with_call, with_function, Begins, Kind, Note, piece, plain_right, current_right, called_right, noted_value, noted_actuals, node_place}
use Rattle.lucid_compile.specs.Static.{Static}
use Rattle.lucid_compile.specs.Building.{with_scope, with_constant, with_node}
use Rattle.lucid_compile.specs.Noted.{IsNotedAt, IsNumber, AreNumbers, HasParts, HasBody, HasNumbers}
use Rattle.lucid_compile.proofs.Pairs.{pairs-one, pairs-kept}

-- what was noted of a number stays, where more is noted
pub noted-left : (xs ys : List Note) (i at : ℕ) → IsNotedAt xs i at → IsNotedAt (xs ++ ys) i at
noted-left [] ys i at h =
    let q : None ≡ Some at = h in
    absurd (cc)
noted-left (x ∷ xs) ys zero at h = h
noted-left (x ∷ xs) ys (suc i) at h = noted-left xs ys i at h

pub number-left : (xs ys : List Note) (i : ℕ) (e : PlainTree) → IsNumber xs i e → IsNumber (xs ++ ys) i e
number-left xs ys i e h = noted-left xs ys i (node_place e) h

pub numbers-left : (xs ys : List Note) (is : List ℕ) (es : PlainTrees) → AreNumbers xs is es → AreNumbers (xs ++ ys) is es
numbers-left xs ys [] no_trees h = tt
numbers-left xs ys [] (tree e es) h = h
numbers-left xs ys (i ∷ is) no_trees h = h
numbers-left xs ys (i ∷ is) (tree e es) h = (number-left xs ys i e h.0, numbers-left xs ys is es h.1)

pub number-kept : (xs ys : List Note) (i : ℕ) (e : PlainTree) → Begins xs ys → IsNumber xs i e → IsNumber ys i e
number-kept xs ys i e b h = subst (λ l. IsNumber l i e) (sym b.1) (number-left xs b.0 i e h)

parts-nodes : (cs ns ms : List Note) (r : Node) (x : Kind) → HasParts cs ns r x → HasParts cs (ns ++ ms) r x
parts-nodes cs ns ms r (piece (form at (const v) es)) h = h
parts-nodes cs ns ms r (piece (form at f es)) h = (h.0, h.1, numbers-left ns ms h.0 es h.2)
parts-nodes cs ns ms r (piece (block at e ds)) h = (h.0, h.1, number-left ns ms h.0 e h.2)
parts-nodes cs ns ms r _ h = h

parts-constants : (cs ds ns : List Note) (r : Node) (x : Kind) → HasParts cs ns r x → HasParts (cs ++ ds) ns r x
parts-constants cs ds ns r (piece (form at (const v) es)) h = (h.0, h.1, noted-left cs ds h.0 at h.2)
parts-constants cs ds ns r _ h = h

body-left : (ns ms : List Note) (r : Entry) (x : Kind) → HasBody ns r x → HasBody (ns ++ ms) r x
body-left ns ms r (plain_right e) h = (h.0, h.1, number-left ns ms h.0 e h.2)
body-left ns ms r (current_right e) h = (h.0, h.1, number-left ns ms h.0 e h.2)
body-left ns ms r (called_right e) h = (h.0, h.1, number-left ns ms h.0 e h.2)
body-left ns ms r _ h = h

module _ (l : Lists) (g : Log) (h : HasNumbers l g) where
  pub node-noted : (r : NodeRow) (n : Note) → HasParts g.constants g.nodes r.node n.kind → HasNumbers (with_node r l) (with_nodes (n ∷ []) g)
  node-noted r n x =
      let ms : List Note = n ∷ [] in
      record {
        constants = h.constants;
        parts = pairs-one (λ i r m. HasParts g.constants (g.nodes ++ ms) r.node m.kind) 0 l.nodes g.nodes r n
            (pairs-kept (λ i r m. HasParts g.constants g.nodes r.node m.kind) (λ i r m. HasParts g.constants (g.nodes ++ ms) r.node m.kind)
            (λ i r m y. parts-nodes g.constants g.nodes ms r.node m.kind y) 0 l.nodes g.nodes h.parts) (parts-nodes g.constants g.nodes ms r.node n.kind x);
        bodies = pairs-kept (λ i r m. HasBody g.nodes r.kind m.kind) (λ i r m. HasBody (g.nodes ++ ms) r.kind m.kind)
            (λ i r m y. body-left g.nodes ms r.kind m.kind y) 0 l.names g.names h.bodies;
        actuals = pairs-kept (λ i r c. AreNumbers g.nodes r.actuals (noted_actuals c.kind)) (λ i r c. AreNumbers (g.nodes ++ ms) r.actuals (noted_actuals c.kind))
            (λ i r c y. numbers-left g.nodes ms r.actuals (noted_actuals c.kind) y) 0 l.places g.calls h.actuals;
        rights = pairs-kept (λ i b f. IsNumber g.nodes b.body f.right) (λ i b f. IsNumber (g.nodes ++ ms) b.body f.right)
            (λ i b f y. number-left g.nodes ms b.body f.right y) 0 l.bodies g.functions h.rights;
      }

  pub constant-noted : (v : PlainValue) (c : Note) → v ≡ noted_value c.kind → HasNumbers (with_constant v l) (with_constants (c ∷ []) g)
  constant-noted v c e = record {
    constants = (λ j. h.constants j ++ e j ∷ []) ∙ sym (map-append (λ n. noted_value n.kind) g.constants (c ∷ []));
    parts = pairs-kept (λ i r m. HasParts g.constants g.nodes r.node m.kind) (λ i r m. HasParts (g.constants ++ c ∷ []) g.nodes r.node m.kind)
        (λ i r m y. parts-constants g.constants (c ∷ []) g.nodes r.node m.kind y) 0 l.nodes g.nodes h.parts;
    bodies = h.bodies;
    actuals = h.actuals;
    rights = h.rights;
  }

  pub scope-noted : (r : ScopeRow) (ks : List Static) → HasNumbers (with_scope r l) (with_scopes ks g)
  scope-noted r ks = record { constants = h.constants; parts = h.parts; bodies = h.bodies; actuals = h.actuals; rights = h.rights }

  pub name-noted : (k : Key) (r : NameRow) (s : Note) → HasBody g.nodes r.kind s.kind → HasNumbers (with_name k r l) (with_stand s g)
  name-noted k r s x = record {
    constants = h.constants;
    parts = h.parts;
    bodies = pairs-one (λ i r m. HasBody g.nodes r.kind m.kind) 0 l.names g.names r s h.bodies x;
    actuals = h.actuals;
    rights = h.rights;
  }

  pub body-noted : (k : Key) (b : Body) (f : FunctionStand) → IsNumber g.nodes b.body f.right → HasNumbers (with_body k b l) (with_function f g)
  body-noted k b f x = record {
    constants = h.constants;
    parts = h.parts;
    bodies = h.bodies;
    actuals = h.actuals;
    rights = pairs-one (λ i b f. IsNumber g.nodes b.body f.right) 0 l.bodies g.functions b f h.rights x;
  }

  pub place-noted : (k p : Key) (r : PlaceRow) (c : Note) → AreNumbers g.nodes r.actuals (noted_actuals c.kind)
      → HasNumbers (with_place k p r l) (with_call c g)
  place-noted k p r c x = record {
    constants = h.constants;
    parts = h.parts;
    bodies = h.bodies;
    actuals = pairs-one (λ i r c. AreNumbers g.nodes r.actuals (noted_actuals c.kind)) 0 l.places g.calls r c h.actuals x;
    rights = h.rights;
  }
