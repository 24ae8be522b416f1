-- What a reference goes on with is what its daton goes on with.
use Rattle.lucid_equations.proofs.Common.{◌≡◌, ℕ, Option, Some, None, refl, sym, ap, ◌∙◌, goes_to, nowhere, element_of, Context, call_frame, frozen_frame, cut, PlainNode, row, freeze, reference, invoke, Reference, Equations, Daton, NodePosition, NodeAim, to_actual, by_entry, name_aim, reference_aim, called_from, call_aim, node_aim, GoesByItsDaton}
use Rattle.lucid_equations.specs.Nodes.{PlainEntry, plain_entry, called_entry, current_entry, parameter_entry, input, refer}
use Rattle.lucid_equations.specs.Datons.{to_node}

-- the daton that an aim names, or else this one
abbrev daton_in : Daton → NodeAim → Daton
daton_in d (element_of n j) = d
daton_in d (goes_to k x u) = k
daton_in d nowhere = d

-- an aim that is nowhere goes to nothing
pub no_aim : (d : Daton) (x : NodePosition) (u : ℕ) → ◌≡◌ {A = NodeAim} nowhere (goes_to d x u) → ⊥
no_aim d x u e = cc

module _ (p : Equations) where
  -- a name in a context goes on with what the daton of that name, that context and this time goes on with
  abbrev Same : NodeAim → Type 0
  Same a = (d : Daton) (x : NodePosition) (u : ℕ) → a ≡ goes_to d x u → by_entry p (p.entry d.name) d.name d.context d.time ≡ goes_to d x u

  -- where the daton of this aim goes on with the aim itself
  by-own : (a : NodeAim) (k : Daton) → a ≡ by_entry p (p.entry k.name) k.name k.context k.time → (d : Daton) (x : NodePosition) (u : ℕ) → a ≡ goes_to d x u
      → d ≡ k → by_entry p (p.entry d.name) d.name d.context d.time ≡ goes_to d x u
  by-own a k h d x u e i = ap (λ z. by_entry p (p.entry z.name) z.name z.context z.time) i ∙ sym h ∙ e

  actual-same : (o : Option PlainEntry) (q : Option PlainNode) (n : ℕ) (c f : Context) (t : ℕ) → p.entry n ≡ o → by_entry p o n c t ≡ to_actual q n c f t
      → Same (to_actual q n c f t)
  actual-same o None n c f t h i d x u e = absurd (no_aim d x u e)
  actual-same o (Some y) n c f t h i d x u e =
      by-own (to_node n c t y f t) (record { name = n; context = c; time = t }) (sym i ∙ ap (λ z. by_entry p z n c t) (sym h)) d x u e (ap (daton_in d) (sym e))

  entry-same : (o : Option PlainEntry) (n : ℕ) (c : Context) (t : ℕ) → p.entry n ≡ o → Same (by_entry p o n c t)
  entry-same (Some (plain_entry y)) n c t h d x u e =
      by-own (to_node n c t y c t) (record { name = n; context = c; time = t }) (ap (λ z. by_entry p z n c t) (sym h)) d x u e (ap (daton_in d) (sym e))
  entry-same (Some (called_entry y)) n c t h d x u e =
      by-own (to_node n c t y c t) (record { name = n; context = c; time = t }) (ap (λ z. by_entry p z n c t) (sym h)) d x u e (ap (daton_in d) (sym e))
  entry-same (Some (parameter_entry i)) n (call_frame at f c) t h d x u e =
      actual-same (Some (parameter_entry i)) (p.actual at i) n (call_frame at f c) f t h refl d x u e
  entry-same (Some (current_entry y)) n (frozen_frame v c) t h d x u e =
      by-own (to_node n (frozen_frame v c) 0 y c v) (record { name = n; context = frozen_frame v c; time = 0 })
      (ap (λ z. by_entry p z n (frozen_frame v c) 0) (sym h)) d x u e (ap (daton_in d) (sym e))
  entry-same o n c t h d x u e = absurd (no_aim d x u e)

  name-same : (n : ℕ) (o : Option Context) (t : ℕ) → Same (name_aim p n o t)
  name-same n None t d x u e = absurd (no_aim d x u e)
  name-same n (Some c) t d x u e = entry-same (p.entry n) n c t refl d x u e

  pub reference-by_daton : (r : Reference) (c : Context) (t : ℕ) → GoesByItsDaton p (reference_aim p r c t)
  reference-by_daton (input n) c t d x u e = absurd (cc)
  reference-by_daton (refer n l) c t d x u e = name-same n (cut l c) t d x u e

  pub call-by_daton : (n at l : ℕ) (c : Context) (t : ℕ) → GoesByItsDaton p (call_aim p n at l c t)
  call-by_daton n at l c t d x u e = name-same n (called_from at c (cut l c)) t d x u e

  pub node-by_daton : (e : PlainNode) (c : Context) (t : ℕ) → GoesByItsDaton p (node_aim p e c t)
  node-by_daton (row f es) c t d x u e = absurd (no_aim d x u e)
  node-by_daton (freeze y) c t d x u e = absurd (no_aim d x u e)
  node-by_daton (reference r) c t d x u e = reference-by_daton r c t d x u e
  node-by_daton (invoke n at l) c t d x u e = call-by_daton n at l c t d x u e
