-- A node is right where its scope is there and it is right by its form.
use Rattle.lucid_flat.proofs.SoundCommon.{◌≡◌, ℕ, ◌<◌, List, [], ◌∷◌, length, refl, subst, slice_get_within, parts, EachBelow, EachStandsIn, ReferenceLeads, CallLeads, Const, Input, Freeze, Refer, Call, NodeRow, Table, NodeIsRight, ArePartsRight}
use Rattle.lucid_equations.specs.declared.rows.Node.{Node}
use Rattle.lucid_flat.specs.SoundForms.{CalleeLeads, PlaceLeads, FormIsRight}

-- parts are right where they have lower numbers and stand in the scope
parts-below : (rs : List NodeRow) (s id : ℕ) (is : List ℕ) → ArePartsRight rs s id is → EachBelow id is
parts-below rs s id [] h = tt
parts-below rs s id (i ∷ is) h = (h.0, parts-below rs s id is h.2)

parts-stand : (rs : List NodeRow) (s id : ℕ) (is : List ℕ) → ArePartsRight rs s id is → EachStandsIn rs s is
parts-stand rs s id [] h = tt
parts-stand rs s id (i ∷ is) h = (h.1, parts-stand rs s id is h.2)

parts-right : (rs : List NodeRow) (s id : ℕ) (is : List ℕ) → EachBelow id is → EachStandsIn rs s is → ArePartsRight rs s id is
parts-right rs s id [] low h = tt
parts-right rs s id (i ∷ is) low h = (low.0, h.0, parts-right rs s id is low.1 h.1)

abbrev row_of : (scope : ℕ) → Node → NodeRow
row_of s n = record { scope = s; node = n }

module _ (t : Table) where
  call-leads : (s n q l : ℕ) → CalleeLeads t s n l → PlaceLeads t s n q → CallLeads t s n q l
  call-leads s n q l c p = record {
    inside = c.inside;
    home = c.home;
    kind = c.kind;
    body = c.body;
    named = c.named;
    parent = c.parent;
    round = c.round;
    depth = c.depth;
    row = p.row;
    passed = p.passed;
    row_scope = p.row_scope;
    row_name = p.row_name;
  }

  call-callee : (s n q l : ℕ) → CallLeads t s n q l → CalleeLeads t s n l
  call-callee s n q l c = record {
    inside = c.inside;
    home = c.home;
    kind = c.kind;
    body = c.body;
    named = c.named;
    parent = c.parent;
    round = c.round;
    depth = c.depth;
  }

  call-place : (s n q l : ℕ) → CallLeads t s n q l → PlaceLeads t s n q
  call-place s n q l c = record { row = c.row; passed = c.passed; row_scope = c.row_scope; row_name = c.row_name }

  pub form-node : (s id : ℕ) (n : Node) → s < length t.scopes → FormIsRight t s id n → NodeIsRight t id (row_of s n)
  form-node s id (Const k) here h = record {
    here = here;
    nests = record { lower = tt; stand = tt; there = h; filled = tt };
    refers = λ n l e. cc;
    calls = λ n q l e. cc;
  }
  form-node s id (Input k) here h = record {
    here = here;
    nests = record { lower = tt; stand = tt; there = h; filled = tt };
    refers = λ n l e. cc;
    calls = λ n q l e. cc;
  }
  form-node s id (Freeze a) here h = record {
    here = here;
    nests = record { lower = (h.lower, tt); stand = (h.inner, h.frozen, h.stands); there = tt; filled = tt };
    refers = λ n l e. cc;
    calls = λ n q l e. cc;
  }
  form-node s id (Refer m k) here h = record {
    here = here;
    nests = record { lower = tt; stand = tt; there = slice_get_within t.names m _ h.named; filled = tt };
    refers = λ n l e. let a : m ≡ n = cc in let b : k ≡ l = cc in subst (λ x. ReferenceLeads t s n x) b (subst (λ x. ReferenceLeads t s x k) a h);
    calls = λ n q l e. cc;
  }
  form-node s id (Call m p k) here h = record {
    here = here;
    nests = record { lower = tt; stand = tt; there = (slice_get_within t.names m _ h.0.named, slice_get_within t.places p _ h.1.passed); filled = tt };
    refers = λ n l e. cc;
    calls = λ n q l e.
        let a : m ≡ n = cc in
        let b : p ≡ q = cc in
        let d : k ≡ l = cc in
        subst (λ x. CallLeads t s n q x) d (subst (λ x. CallLeads t s n x k) b (subst (λ x. CallLeads t s x p k) a (call-leads s m p k h.0 h.1)));
  }
  form-node s id n here h = record {
    here = here;
    nests = record { lower = parts-below t.nodes s id (parts n) h.0; stand = parts-stand t.nodes s id (parts n) h.0; there = tt; filled = h.1 };
    refers = λ n l e. cc;
    calls = λ n q l e. cc;
  }

  pub node-form : (s id : ℕ) (n : Node) → NodeIsRight t id (row_of s n) → FormIsRight t s id n
  node-form s id (Const k) h = h.nests.there
  node-form s id (Input k) h = h.nests.there
  node-form s id (Freeze a) h = record { inner = h.nests.stand.0; lower = h.nests.lower.0; frozen = h.nests.stand.1; stands = h.nests.stand.2 }
  node-form s id (Refer m k) h = h.refers m k refl
  node-form s id (Call m p k) h = (call-callee s m p k (h.calls m p k refl), call-place s m p k (h.calls m p k refl))
  node-form s id n h = (parts-right t.nodes s id (parts n) h.nests.lower h.nests.stand, h.nests.filled)
