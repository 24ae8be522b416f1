-- The numbers of a table whose rows and root are right are in range.
use Rattle.lucid_flat.proofs.SoundCommon.{◌≡◌, ℕ, suc, ◌+◌, ◌<◌, ◌≤◌, None, Some, List, [], ◌∷◌, length, slice_get, refl, subst, arith, option_map, none-some, same_Some, slice_get_within, EachBelow, IsInRange, StandsIn, EachStandsIn, EntryStands, IsSound, Entry, Plain, Parameter, Current, Called, NodeRow, NameRow, PlaceRow, Table, RowsAreRight, Option}
use Rattle.lucid_equations.specs.Ranges.{Sizes, sizes, NodeIsInRange, NodesAreInRange, EntryIsInRange, NamesAreInRange, PlacesAreInRange}
use Rattle.lucid_flat.proofs.Rights.{sound-rights}

-- the row of a node that stands in a scope
pub row-there : (o : Option NodeRow) (s : ℕ) → option_map (λ r. r.scope) o ≡ Some s → (r : NodeRow) × (o ≡ Some r) × (r.scope ≡ s)
row-there None s e = absurd (none-some s e)
row-there (Some r) s e = (r, refl, same_Some r.scope s e)

-- a node that stands in a scope is there
stands-below : (rs : List NodeRow) (s id : ℕ) → StandsIn rs s id → id < length rs
stands-below rs s id h = let r = row-there (slice_get rs id) s h in slice_get_within rs id r.0 r.1

each-below : (rs : List NodeRow) (s : ℕ) (is : List ℕ) → EachStandsIn rs s is → EachBelow (length rs) is
each-below rs s [] h = tt
each-below rs s (i ∷ is) h = (stands-below rs s i h.0, each-below rs s is h.1)

entry-in-range : (t : Table) (s : ℕ) (e : Entry) → EntryStands t.scopes t.nodes s e → EntryIsInRange (sizes t) e
entry-in-range t s (Plain a) h = stands-below t.nodes s a h
entry-in-range t s (Parameter i) h = tt
entry-in-range t s (Current a) h = stands-below t.nodes h.0 a h.2
entry-in-range t s (Called a) h = stands-below t.nodes s a h.2

nodes-in-range : (z : Sizes) (first : ℕ) (rs : List NodeRow) → ((id : ℕ) (r : NodeRow) → slice_get rs id ≡ Some r → NodeIsInRange z (first + id) r.node)
    → NodesAreInRange z first rs
nodes-in-range z first [] h = tt
nodes-in-range z first (r ∷ rs) h =
    let P : ℕ → Type 0 = λ i. NodeIsInRange z i r.node in (
      subst P (omega arith) (h 0 r refl),
      nodes-in-range z (suc first) rs (λ id x at. let Q : ℕ → Type 0 = λ i. NodeIsInRange z i x.node in subst Q (omega arith) (h (suc id) x at)),
    )

names-in-range : (z : Sizes) (rs : List NameRow) → ((id : ℕ) (r : NameRow) → slice_get rs id ≡ Some r → EntryIsInRange z r.kind) → NamesAreInRange z rs
names-in-range z [] h = tt
names-in-range z (r ∷ rs) h = (h 0 r refl, names-in-range z rs (λ id x at. h (suc id) x at))

places-in-range : (z : Sizes) (rs : List PlaceRow) → ((id : ℕ) (r : PlaceRow) → slice_get rs id ≡ Some r → EachBelow z.nodes r.actuals) → PlacesAreInRange z rs
places-in-range z [] h = tt
places-in-range z (r ∷ rs) h = (h 0 r refl, places-in-range z rs (λ id x at. h (suc id) x at))

module _ (t : Table) where
  pub in-range : RowsAreRight t → StandsIn t.nodes 0 t.root → length t.inputs ≤ 1048576 → IsInRange t
  in-range h root few = (
    stands-below t.nodes 0 t.root root,
    omega (arith, few),
    nodes-in-range (sizes t) 0 t.nodes (λ id r at.
        let P : ℕ → Type 0 = λ i. NodeIsInRange (sizes t) i r.node in
        let right = h.nodes id r at in
        subst P (omega arith) (right.nests.lower, right.nests.there)),
    names-in-range (sizes t) t.names (λ id r at. entry-in-range t r.scope r.kind (h.names id r at).stands),
    places-in-range (sizes t) t.places (λ id r at. each-below t.nodes r.scope r.actuals (h.places id r at).passes.stand),
  )

-- and so are those of a sound one
pub sound-in_range : (t : Table) → IsSound t → IsInRange t
sound-in_range t sound = in-range t (sound-rights t sound) sound.root.root sound.root.few
