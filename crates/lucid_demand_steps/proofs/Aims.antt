-- What a name goes on with in a context: by the context's innermost frame, and nowhere where there are too few frames.
use Rattle.lucid_demand_steps.proofs.DecidingCommon.{◌≢◌, ℕ, ◌-◌, inl, inr, List, [], ◌∷◌, Option, None, refl, sym, ap, ◌∙◌, subst, arith, In, nowhere, Context, call_frame, frozen_frame, frames, cut, IsUnknown, context_of, Tag, NodeAim, Table, Aim, plain_aim}
use Rattle.std.proofs.Common.{◌≡◌, ◌<◌, ◌⊎◌, Some, IfSome}
use Rattle.lucid_tree.proofs.Members.{in_either}
use Rattle.lucid_tags.specs.Contexts.{base_of, root}
use Rattle.lucid_tags.specs.Known.{AddsAtMost}
use Rattle.lucid_equations.specs.Nodes.{PlainNode, PlainEntry, plain_entry, called_entry, current_entry, parameter_entry, Equations}
use Rattle.lucid_equations.specs.Datons.{to_node, to_actual, by_entry, name_aim, called_from, call_aim}
use Rattle.lucid_demand_steps.proofs.Passing.{cut-is_base, cut-is_none}
use Rattle.lucid_demand_steps.specs.Aims.{IsOfUnknown, IsOfDaton}

same-context : (x y : Context) → Some x ≡ Some y → x ≡ y
same-context x y h = cc

same-time : (u f : ℕ) (c d : Context) → frozen_frame u c ≡ frozen_frame f d → u ≡ f
same-time u f c d h = cc

-- a current name goes on with its body in the context without its frozen time, at that time
pub current-goes : (p : Equations) (n : ℕ) (e : PlainNode) (c outer : Context) (f t top : ℕ) → p.entry n ≡ Some (current_entry e)
    → c ≡ frozen_frame f (base_of c)
    → top ≡ frames c → cut (top - 1) c ≡ Some outer → to_node n c 0 e outer f ≡ name_aim p n (Some c) t
current-goes p n e root outer f t top h is l o = absurd (cc)
current-goes p n e (call_frame at c d) outer f t top h is l o = absurd (cc)
current-goes p n e (frozen_frame u c) outer f t top h is l o =
    let same : u ≡ f = same-time u f c c is in
    let low : top - 1 ≡ frames c = omega (arith, l) in
    let base : c ≡ outer = same-context c outer (sym (cut-is_base u c) ∙ ap (λ z. cut z (frozen_frame u c)) (sym low) ∙ o) in
    sym (ap (λ z. by_entry p z n (frozen_frame u c) t) h
    ∙ ap (λ z. to_node n (frozen_frame u c) 0 e z u) base ∙ ap (λ z. to_node n (frozen_frame u c) 0 e outer z) same)

-- with too few frames a name leads nowhere
pub few-frames : (p : Equations) (n level : ℕ) (c : Context) (t : ℕ) → frames c < level → nowhere ≡ name_aim p n (cut level c) t
few-frames p n level c t h = sym (ap (λ z. name_aim p n z t) (cut-is_none level c h))

pub few-to_call : (p : Equations) (n at level : ℕ) (c : Context) (t : ℕ) → frames c < level → nowhere ≡ call_aim p n at level c t
few-to_call p n at level c t h = sym (ap (λ z. name_aim p n (called_from at c z) t) (cut-is_none level c h))

-- a call that leads nowhere from any context
pub no-call : (p : Equations) (n at level : ℕ) (c : Context) (t : ℕ)
    → ((caller base : Context) (u : ℕ) → name_aim p n (Some (call_frame at caller base)) u ≡ nowhere)
    → nowhere ≡ call_aim p n at level c t
no-call p n at level c t h = go (cut level c)
  where
    go : (o : Option Context) → nowhere ≡ name_aim p n (called_from at c o) t
    go None = refl
    go (Some base) = sym (h c base t)

-- where there are enough frames, a call's aim is the name's in the context that it enters
pub call-goes : (p : Equations) (n at level : ℕ) (c base inner : Context) (t : ℕ) → cut level c ≡ Some base → inner ≡ call_frame at c base
    → name_aim p n (Some inner) t ≡ call_aim p n at level c t
call-goes p n at level c base inner t h i = ap (λ z. name_aim p n (Some z) t) i ∙ sym (ap (λ z. name_aim p n (called_from at c z) t) h)

-- what leads somewhere goes on with a daton of its own context
of-actual : (p : Equations) (known : List Context) (o : Option PlainNode) (n : ℕ) (c f : Context) (t : ℕ) → IsUnknown known c → to_actual o n c f t ≢ nowhere
    → IsOfUnknown known (to_actual o n c f t)
of-actual p known None n c f t u s = absurd (s refl)
of-actual p known (Some e) n c f t u s = u

of-entry : (p : Equations) (known : List Context) (o : Option PlainEntry) (n : ℕ) (c : Context) (t : ℕ) → IsUnknown known c → by_entry p o n c t ≢ nowhere
    → IsOfUnknown known (by_entry p o n c t)
of-entry p known (Some (plain_entry e)) n c t u s = u
of-entry p known (Some (called_entry e)) n c t u s = u
of-entry p known (Some (parameter_entry i)) n (call_frame at f c) t u s = of-actual p known (p.actual at i) n (call_frame at f c) f t u s
of-entry p known (Some (current_entry e)) n (frozen_frame w c) t u s = u
of-entry p known o n c t u s = absurd (s refl)

pub call-of_unknown : (p : Equations) (known : List Context) (n at level : ℕ) (c base : Context) (t : ℕ) → cut level c ≡ Some base
    → IsUnknown known (call_frame at c base)
    → name_aim p n (Some (call_frame at c base)) t ≢ nowhere → IsOfUnknown known (call_aim p n at level c t)
call-of_unknown p known n at level c base t h u s =
    subst (IsOfUnknown known) (call-goes p n at level c base (call_frame at c base) t h refl) (of-entry p known (p.entry n) n (call_frame at c base) t u s)

-- the context of the daton that an aim goes on with
pub daton-of : (T : Table) (known : List Context) (o : Option Aim) (a : NodeAim) (inner : Tag) (c : Context) → plain_aim T known o ≡ a → a ≢ nowhere
    → IfSome o (λ x. x.key.tag ≡ inner) → c ≡ context_of known inner → IsOfDaton known o c
daton-of T known None a inner c h s own i = absurd (s (sym h))
daton-of T known (Some x) a inner c h s own i = i ∙ ap (context_of known) (sym own)

-- a context that becomes known at most
pub added-in : (old new : List Context) (c d : Context) → AddsAtMost old new c → In d new → In d old ⊎ (d ≡ c)
added-in old new c d (inl e) i = inl (subst (In d) e i)
added-in old new c d (inr e) i = elim (in_either d old (c ∷ []) (subst (In d) e i)) [ inl j ↦ inl j | inr (inl j) ↦ inr j | inr (inr j) ↦ absurd j ]
