-- The nodes that the walk behind `visits` meets. A reference is met before it is known where it leads: one that leads nowhere is met too, though
-- it leaves no event among the visits.
use Rattle.std.specs.Prelude.{◌≡◌, ◌≢◌, ℕ, suc, Some}
use Rattle.lucid_tree.specs.Tree.{Head}
use Rattle.lucid_tree.specs.Members.{In}
use Rattle.lucid_tree.specs.Levels.{Elements, goes_to, nowhere}
use Rattle.lucid_tags.specs.Contexts.{Context, root, frozen_frame}
use Rattle.lucid_equations.specs.Nodes.{PlainNode, row, freeze, reference, invoke, PlainNodes, part_of, Equations}
use Rattle.lucid_equations.specs.Datons.{Daton, NodePosition, node_aim}
use Rattle.lucid_equations.specs.Parts.{looked_at}

module _ (p : Equations) (b : Elements) (limit d time space : ℕ) where
  -- From the root in the empty context at the point (time, space), on paths of at most `limit` references, where the approximation limit + d decides
  -- the choices, the walk meets a node in a context at a point (t, s), with m references left: the root; a part, where its form looks at it; a
  -- subject, in the context that its frozen time enters; and, where a reference is left, what a reference or a call goes on with.
  pub data IsMet : (m : ℕ) → PlainNode → Context → (t s : ℕ) → Type 0 where
    the_root : IsMet limit p.root root time space
    part : {m t s u r : ℕ} {f : Head} {es : PlainNodes} {e : PlainNode} {c : Context} (i : ℕ) → IsMet m (row f es) c t s
        → In (i, u, r) (looked_at p b m d f es c t s) → part_of es i ≡ Some e → IsMet m e c u r
    subject : {m t s : ℕ} {e : PlainNode} {c : Context} → IsMet m (freeze e) c t s → IsMet m e (frozen_frame t c) t s
    gone_on : {m t s u : ℕ} {e : PlainNode} {c : Context} {k : Daton} {x : NodePosition} → IsMet (suc m) e c t s → node_aim p e c t ≡ goes_to k x u
        → IsMet m x.node x.context u s

-- references of inputs and of names, and calls
abbrev pub IsReference : PlainNode → Type 0
IsReference (reference r) = Unit {0}
IsReference (invoke n q l) = Unit {0}
IsReference _ = ⊥

-- Each reference that is met leads somewhere, whatever the elements, the limit, the added number and the point. It leads nowhere where its context
-- has fewer frames than its level, its name has no row, the innermost frame is of another kind than the row wants, or the frame's place has no
-- actual of the row's index.
abbrev pub EachReferenceLeads : Equations → Type 0
EachReferenceLeads p =
    (b : Elements) (limit d time space m : ℕ) (e : PlainNode) (c : Context) (t s : ℕ) → IsMet p b limit d time space m e c t s → IsReference e
    → node_aim p e c t ≢ nowhere
