-- What stands right of a node of a sound table, by its form.
use Rattle.lucid_flat.proofs.SoundCommon.{◌≡◌, ℕ, zero, suc, List, [], ◌∷◌, Some, slice_get, refl, sym, ◌∙◌, ap, subst, option_map, none-some, same_Some, PlainNode, row, freeze, reference, invoke, part_of, input, refer, parts, node_at, IsInRange, ScopeIs, StandsIn, EachStandsIn, ReferenceLeads, CallLeads, IsSound, Const, Input, Freeze, Refer, Call, Table}
use Rattle.lucid_equations.specs.Rows.{all_at, nodes_of, node_by}
use Rattle.lucid_equations.specs.Sound.{NodeNests}
use Rattle.lucid_equations.specs.declared.rows.ScopeKind.TheVariants.{Frozen as FrozenScope}
use Rattle.lucid_equations.specs.declared.rows.Node.{Node}
use Rattle.lucid_equations.proofs.PartsRead.{row-node}
use Rattle.lucid_flat.proofs.InRange.{row-there}

-- the node is one of the table's that stands in the scope
pub record Stands (T : Table) (scope : ℕ) (e : PlainNode) : Type 0 where
  pub number : ℕ
  pub stands : StandsIn T.nodes scope number
  pub is : e ≡ node_at T number

-- Each part of a form stands in the form's scope, and a subject in a frozen scope right inside; references and calls lead.
abbrev pub StandsRight : Table → (scope : ℕ) → PlainNode → Type 0
StandsRight T s (row f es) = (i : ℕ) (e : PlainNode) → part_of es i ≡ Some e → Stands T s e
StandsRight T s (freeze e) = (inner : ℕ) × ScopeIs T.scopes inner s FrozenScope × Stands T inner e
StandsRight T s (reference (input n)) = Unit {0}
StandsRight T s (reference (refer n l)) = ReferenceLeads T s n l
StandsRight T s (invoke n q l) = CallLeads T s n q l

parts-stand : (T : Table) (s : ℕ) (is : List ℕ) → EachStandsIn T.nodes s is → (i : ℕ) (e : PlainNode) → part_of (all_at (nodes_of T) is) i ≡ Some e
    → Stands T s e
parts-stand T s [] h i e p = absurd (none-some e p)
parts-stand T s (k ∷ ks) h zero e p = record { number = k; stands = h.0; is = sym (same_Some (node_at T k) e p) }
parts-stand T s (k ∷ ks) h (suc i) e p = parts-stand T s ks h.1 i e p

module _ (T : Table) (sound : IsSound T) where
  abbrev nests : (id s : ℕ) (n : Node) → slice_get T.nodes id ≡ Some (record { scope = s; node = n }) → NodeNests T id (record { scope = s; node = n })
  nests id s n at = sound.nodes id (record { scope = s; node = n }) at

  row-right : (id s : ℕ) (n : Node) → slice_get T.nodes id ≡ Some (record { scope = s; node = n }) → StandsRight T s (node_by T n)
  row-right id s (Const k) at = parts-stand T s [] tt
  row-right id s (Input k) at = tt
  row-right id s (Freeze a) at =
      let h = (nests id s (Freeze a) at).stand in (h.0, h.1, record { number = a; stands = h.2; is = refl })
  row-right id s (Refer n l) at = sound.references id s n l at
  row-right id s (Call n q l) at = sound.calls id s n q l at
  row-right id s n at = parts-stand T s (parts n) (nests id s n at).stand

  -- what stands in a scope is right there
  pub stands-right : IsInRange T → (s : ℕ) (e : PlainNode) → Stands T s e → StandsRight T s e
  stands-right range s e h =
      let z = row-there (slice_get T.nodes h.number) s h.stands in
      let named : e ≡ node_by T z.0.node = h.is ∙ row-node T range h.number z.0.node (ap (option_map (λ r. r.node)) z.1) in
      subst (StandsRight T s) (sym named) (subst (λ i. StandsRight T i (node_by T z.0.node)) z.2 (row-right h.number z.0.scope z.0.node z.1))
