-- What is met is what is visited.
use Rattle.lucid_flat.proofs.SoundCommon.{◌≡◌, ℕ, zero, suc, ◌+◌, List, Some, refl, sym, ◌∙◌, subst, inl, inr, In, Elements, element_of, goes_to, nowhere, Context, root, frozen_frame, PlainNode, row, freeze, reference, invoke, part_of, Equations, Daton, NodePosition, NodeAim, node_aim, visits, no_aim, IsMet, the_root, part, subject, gone_on}
use Rattle.lucid_tree.specs.Members.{Inside}
use Rattle.lucid_tree.specs.Rows.{plan}
use Rattle.lucid_tree.specs.Levels.{nothing_held, deeper, Event, looked_up, referred, entered}
use Rattle.lucid_tree.proofs.Members.{in_right, in_either}
use Rattle.lucid_equations.specs.Nodes.{PlainNodes, no_nodes, node}
use Rattle.lucid_equations.specs.Datons.{reference_aim, call_aim}
use Rattle.lucid_equations.specs.Visits.{NodeEvents, context_of, walk_at, walk_part, node_walk, node_visits}
use Rattle.lucid_equations.specs.Parts.{reads_parts}
use Rattle.lucid_equations.proofs.Looked.{look-found}
use Rattle.lucid_equations.proofs.FormNeeds.{look-visited}
use Rattle.lucid_equations.proofs.Moving.{part-walked}
use Rattle.lucid_flat.specs.SoundLaws.{Referrer}

module _ (p : Equations) (b : Elements) (limit d time space : ℕ) where
  abbrev deep_at : (m : ℕ) → NodeAim → ℕ → NodeEvents
  deep_at m = deeper (node_walk p (nothing_held b)) m d

  -- what a node goes on with is visited by it
  gone-inside : (m : ℕ) (e : PlainNode) (c : Context) (t s : ℕ) (k : Daton) (x : NodePosition) (u : ℕ) → node_aim p e c t ≡ goes_to k x u
      → Inside (node_visits p b m d x.node x.context u s) (node_visits p b (suc m) d e c t s)
  gone-inside m (row f es) c t s k x u e v i = absurd (no_aim k x u e)
  gone-inside m (freeze a) c t s k x u e v i = absurd (no_aim k x u e)
  gone-inside m (reference r) c t s k x u e v i = subst (λ a. In v (deep_at (suc m) a s)) (sym e) (inr i)
  gone-inside m (invoke n q l) c t s k x u e v i =
      in_right v (context_of (call_aim p n q l c t)) (deep_at (suc m) (call_aim p n q l c t) s) (subst (λ a. In v (deep_at (suc m) a s)) (sym e) (inr i))

  pub met-visited : (m : ℕ) (e : PlainNode) (c : Context) (t s : ℕ) → IsMet p b limit d time space m e c t s
      → Inside (node_visits p b m d e c t s) (visits p b limit d time space)
  met-visited m e c t s the_root v i = i
  met-visited m e c t s (part {t = t'} {s = s'} {f = f} {es = es} j met looked is) v i =
      met-visited m (row f es) c t' s' met v (look-visited p b m d f es c t' s' j t s looked v
      (subst (λ xs. In v xs) (sym (part-walked p (nothing_held b) m d (deep_at m) es j e is c t s)) i))
  met-visited m e c t s (subject {c = f} met) v i = met-visited m (freeze e) f t s met v (inr i)
  met-visited m e c t s (gone_on {t = u} {e = a} {c = f} {k = k} {x = x} met aim) v i =
      met-visited (suc m) a f u s met v (gone-inside m a f u s k x t aim v i)

  module _ (k : Daton) (x : NodePosition) (u s : ℕ) where
    abbrev event : Event Daton NodePosition Context
    event = referred k x u s

    abbrev Goes : Type 0
    Goes = Referrer p b limit d time space k x u s

    not_entered : (c : Context) → event ≡ entered c → ⊥
    not_entered c e = cc

    not_looked_up : (n : List ℕ) (j : ℕ) → event ≡ looked_up n j → ⊥
    not_looked_up n j e = cc

    no_context : (a : NodeAim) → In event (context_of a) → ⊥
    no_context (element_of n j) i = i
    no_context (goes_to l y w) (inl e) = not_entered l.context e
    no_context (goes_to l y w) (inr i) = i
    no_context nowhere i = i

    -- the references of nodes that are met at m meet only the event of a node that is met
    abbrev MeetMet : (m : ℕ) → (NodeAim → ℕ → NodeEvents) → Type 0
    MeetMet m deep = (e : PlainNode) (c : Context) (t r : ℕ) → IsMet p b limit d time space m e c t r → (a : NodeAim) → node_aim p e c t ≡ a
        → In event (deep a r) → Goes

    module _ (m : ℕ) (deep : NodeAim → ℕ → NodeEvents) (below : MeetMet m deep) where
      mutual
        walk-met : (e : PlainNode) (c : Context) (t r : ℕ) → IsMet p b limit d time space m e c t r → In event (walk_at p (nothing_held b) m d deep e c t r)
            → Goes
        walk-met (row f es) c t r met i =
            let q = look-found m (reads_parts p (nothing_held b) (m + d) es c) (λ j v w. walk_part p (nothing_held b) m d deep es c j v w) (plan (m + d) f t r)
            event i in
            parts-met es c q.0.0 q.0.1 q.0.2 (λ e is. part q.0.0 met q.1 is) q.2
        walk-met (freeze e) c t r met (inl h) = absurd (not_entered (frozen_frame t c) h)
        walk-met (freeze e) c t r met (inr i) = walk-met e (frozen_frame t c) t r (subject met) i
        walk-met (reference f) c t r met i = below (reference f) c t r met (reference_aim p f c t) refl i
        walk-met (invoke n q l) c t r met i =
            elim (in_either event (context_of (call_aim p n q l c t)) (deep (call_aim p n q l c t) r) i) [
              | inl j ↦ absurd (no_context (call_aim p n q l c t) j)
              | inr j ↦ below (invoke n q l) c t r met (call_aim p n q l c t) refl j
            ]

        parts-met : (es : PlainNodes) (c : Context) (i t r : ℕ) → ((e : PlainNode) → part_of es i ≡ Some e → IsMet p b limit d time space m e c t r)
            → In event (walk_part p (nothing_held b) m d deep es c i t r) → Goes
        parts-met no_nodes c i t r met j = absurd j
        parts-met (node e es) c zero t r met j = walk-met e c t r (met e refl) j
        parts-met (node e es) c (suc i) t r met j = parts-met es c i t r met j

    below-met : (m : ℕ) → MeetMet m (deep_at m)
    below-met zero e c t r met a is i = absurd i
    below-met (suc m) e c t r met (element_of n j) is (inl h) = absurd (not_looked_up n j h)
    below-met (suc m) e c t r met (element_of n j) is (inr i) = absurd i
    below-met (suc m) e c t r met (goes_to l y w) is (inl h) =
        let same_daton : k ≡ l = cc in
        let same_place : x ≡ y = cc in
        let same_time : u ≡ w = cc in
        let same_space : s ≡ r = cc in
        record {
          left = m;
          node = e;
          context = c;
          from = t;
          met = subst (λ z. IsMet p b limit d time space (suc m) e c t z) (sym same_space) met;
          aim = is ∙ (λ i. goes_to (sym same_daton i) (sym same_place i) (sym same_time i));
        }
    below-met (suc m) e c t r met (goes_to l y w) is (inr i) = walk-met m (deep_at m) (below-met m) y.node y.context w r (gone_on met is) i
    below-met (suc m) e c t r met nowhere is i = absurd i

    pub visited-met : In event (visits p b limit d time space) → Goes
    visited-met i = walk-met limit (deep_at limit) (below-met limit) p.root root time space the_root i
