-- What follows from the row of a name: of a name itself, of a reference to it, and of a call place of it.
use Rattle.lucid_flat.proofs.SoundCommon.{◌≡◌, ℕ, ◌<◌, ◌≤◌, List, length, get_or, Some, slice_get, refl, sym, ◌∙◌, ap, subst, same_Some, slice_get_within, StandsIn, EachStandsIn, EntryStands, IsRound, HasDepth, ReferenceLeads, ScopeKind, ScopeRow, Entry, Plain, Parameter, Current, Called, NameRow, PlaceRow, Table, EntryFits, wanted, NameIsRight, PlaceIsRight, slice_get_read}
use Rattle.lucid_equations.specs.Sound.{IsReferable}
use Rattle.lucid_equations.specs.declared.rows.ScopeKind.TheVariants.{Called as CalledScope, Frozen as FrozenScope}
use Rattle.lucid_flat.proofs.Wanting.{wanted-enough, enough-wanted}

-- the row that was looked up
pub got : {X : Type 0} (xs ys : List X) (i : ℕ) (x : X) → xs ≡ ys → i < length xs → x ≡ get_or xs i x → slice_get ys i ≡ Some x
got xs ys i x same low at = ap (λ zs. slice_get zs i) (sym same) ∙ slice_get_read xs (length xs) i x refl low at

abbrev scope_of : (parent : ℕ) → ScopeKind → ScopeRow
scope_of p k = record { parent = p; kind = k }

abbrev name_of : (scope : ℕ) → Entry → NameRow
name_of s e = record { scope = s; kind = e }

abbrev parent_in : ScopeRow → ℕ
parent_in x = x.parent

abbrev kind_in : ScopeRow → ScopeKind
kind_in x = x.kind

abbrev scope_in : NameRow → ℕ
scope_in x = x.scope

abbrev entry_in : NameRow → Entry
entry_in x = x.kind

module _ (t : Table) where
  -- a name is right where it fits the row of its scope
  fits-stands : (s : ℕ) (x : ScopeRow) (e : Entry) → slice_get t.scopes s ≡ Some x → EntryFits t.nodes s x e → EntryStands t.scopes t.nodes s e
  fits-stands s x (Plain a) at h = h
  fits-stands s x (Parameter i) at h = (x.parent, at ∙ ap (λ k. Some (scope_of x.parent k)) h)
  fits-stands s x (Current a) at h = (x.parent, at ∙ ap (λ k. Some (scope_of x.parent k)) h.0, h.1)
  fits-stands s x (Called a) at h = (x.parent, at ∙ ap (λ k. Some (scope_of x.parent k)) h.0, h.1)

  stands-fits : (s : ℕ) (x : ScopeRow) (e : Entry) → slice_get t.scopes s ≡ Some x → EntryStands t.scopes t.nodes s e → EntryFits t.nodes s x e
  stands-fits s x (Plain a) at h = h
  stands-fits s x (Parameter i) at h = ap kind_in (same_Some x (scope_of h.0 CalledScope) (sym at ∙ h.1))
  stands-fits s x (Current a) at h =
      let same = same_Some x (scope_of h.0 FrozenScope) (sym at ∙ h.1) in
      let P : ℕ → Type 0 = λ p. StandsIn t.nodes p a in
      (ap kind_in same, subst P (sym (ap parent_in same)) h.2)
  stands-fits s x (Called a) at h = (ap kind_in (same_Some x (scope_of h.0 CalledScope) (sym at ∙ h.1)), h.2)

  pub fits-right : (r : NameRow) (x : ScopeRow) → slice_get t.scopes r.scope ≡ Some x → EntryFits t.nodes r.scope x r.kind → NameIsRight t r
  fits-right r x at h = record { here = slice_get_within t.scopes r.scope x at; stands = fits-stands r.scope x r.kind at h }

  pub right-fits : (r : NameRow) (x : ScopeRow) → slice_get t.scopes r.scope ≡ Some x → NameIsRight t r → EntryFits t.nodes r.scope x r.kind
  right-fits r x at h = stands-fits r.scope x r.kind at h.stands

  -- a name that is no call's may be referred to
  referable : (e : Entry) → ((b : ℕ) → e ≡ Called b → ⊥) → IsReferable e
  referable (Called a) other = other a refl
  referable _ other = tt

  pub leads-by : (s n l : ℕ) (x : NameRow) → slice_get t.names n ≡ Some x → ((b : ℕ) → x.kind ≡ Called b → ⊥)
      → IsRound t.scopes x.scope s × HasDepth t.scopes x.scope l → ReferenceLeads t s n l
  leads-by s n l x at other w = record { home = x.scope; entry = x.kind; named = at; referable = referable x.kind other; round = w.0; depth = w.1 }

  pub by-leads : (s n l : ℕ) (x : NameRow) → slice_get t.names n ≡ Some x → ReferenceLeads t s n l → IsRound t.scopes x.scope s × HasDepth t.scopes x.scope l
  by-leads s n l x at h =
      let same : h.home ≡ x.scope = ap scope_in (same_Some (name_of h.home h.entry) x (sym h.named ∙ at)) in
      let P : ℕ → Type 0 = λ p. IsRound t.scopes p s in
      let Q : ℕ → Type 0 = λ p. HasDepth t.scopes p l in
      (subst P same h.round, subst Q same h.depth)

  -- a call place is right where its name is a called one, and its actuals stand in its scope and are as many as the name wants
  pub passes-right : (r : PlaceRow) (x : NameRow) (b : ℕ) → r.scope < length t.scopes → slice_get t.names r.name ≡ Some x → x.kind ≡ Called b
      → wanted t.names x.scope ≤ length r.actuals → EachStandsIn t.nodes r.scope r.actuals → PlaceIsRight t r
  passes-right r x b here at kind few stand = record {
    here = here;
    passes = record {
      home = x.scope;
      body = b;
      named = at ∙ ap (λ e. Some (name_of x.scope e)) kind;
      stand = stand;
      enough = wanted-enough t.names x.scope (length r.actuals) few;
    };
  }

  pub right-few : (r : PlaceRow) (x : NameRow) → slice_get t.names r.name ≡ Some x → PlaceIsRight t r → wanted t.names x.scope ≤ length r.actuals
  right-few r x at h =
      let p = h.passes in
      let same : p.home ≡ x.scope = ap scope_in (same_Some (name_of p.home (Called p.body)) x (sym p.named ∙ at)) in
      let P : ℕ → Type 0 = λ s. wanted t.names s ≤ length r.actuals in
      subst P same (enough-wanted t.names p.home (length r.actuals) p.enough)

  pub right-called : (r : PlaceRow) (x : NameRow) → slice_get t.names r.name ≡ Some x → ((b : ℕ) → x.kind ≡ Called b → ⊥) → PlaceIsRight t r → ⊥
  right-called r x at other h =
      let p = h.passes in
      other p.body (ap entry_in (same_Some x (name_of p.home (Called p.body)) (sym at ∙ p.named)))
