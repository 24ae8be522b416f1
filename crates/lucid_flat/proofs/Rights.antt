-- A table is sound exactly where all rows and the root are right.
use Rattle.lucid_flat.proofs.SoundCommon.{◌≡◌, ◌≢◌, ℕ, List, [], ◌∷◌, Some, slice_get, refl, sym, ◌∙◌, ap, same_Some, none-some, ScopeIs, IsSound, ScopeRow, NodeRow, Table, no_scopes, wrong_scope, wrong_node, wrong_name, wrong_place, wrong_root, ScopeIsRight, AllRight, RowsAreRight}
use Rattle.lucid_equations.specs.Sound.{RootStands}
use Rattle.lucid_equations.specs.declared.rows.ScopeKind.TheVariants.{Root as RootScope}
use Rattle.lucid_equations.specs.declared.rows.Node.{Node}
use Rattle.lucid_flat.specs.declared.program.BuildRefusal.{BuildRefusal}
use Rattle.lucid_flat.specs.WrongRows.{IsFirstWrongRow}

-- scope 0
first-scope : (xs : List ScopeRow) → xs ≢ [] → AllRight ScopeIsRight xs → ScopeIs xs 0 0 RootScope
first-scope [] some right = absurd (some refl)
first-scope (r ∷ rs) some right = ap Some ((right 0 r refl).first refl)

no-scopes : (xs : List ScopeRow) → ScopeIs xs 0 0 RootScope → xs ≢ []
no-scopes [] first e = none-some _ first
no-scopes (r ∷ rs) first e = cc

abbrev with_node : (scope : ℕ) → Node → NodeRow
with_node s n = record { scope = s; node = n }

module _ (t : Table) where
  -- a table whose rows and root are right is sound
  pub rights-sound : RowsAreRight t → RootStands t → IsSound t
  rights-sound h root = record {
    scopes = record {
      first = first-scope t.scopes h.scopes.0 h.scopes.1;
      others = λ s p k low at. let r = h.scopes.1 s (record { parent = p; kind = k }) at in (r.lower low, r.inner low);
    };
    nodes = λ id r at. (h.nodes id r at).nests;
    references = λ id s n l at. (h.nodes id _ at).refers n l refl;
    calls = λ id s n q l at. (h.nodes id _ at).calls n q l refl;
    bodies = λ n s e at. (h.names n _ at).stands;
    places = λ q r at. (h.places q r at).passes;
    root = root;
    homes = record {
      nodes = λ id r at. (h.nodes id r at).here;
      names = λ n r at. (h.names n r at).here;
      places = λ q r at. (h.places q r at).here;
    };
  }

  -- and the rows of a sound one are right
  sound-scope : IsSound t → (id : ℕ) (r : ScopeRow) → slice_get t.scopes id ≡ Some r → ScopeIsRight id r
  sound-scope h id r at = record {
    first = λ none. same_Some r _ (sym at ∙ (ap (slice_get t.scopes) none ∙ h.scopes.first));
    lower = λ low. (h.scopes.others id r.parent r.kind low at).0;
    inner = λ low. (h.scopes.others id r.parent r.kind low at).1;
  }

  pub sound-rights : IsSound t → RowsAreRight t
  sound-rights h = record {
    scopes = (no-scopes t.scopes h.scopes.first, sound-scope h);
    nodes = λ id r at. record {
      here = h.homes.nodes id r at;
      nests = h.nodes id r at;
      refers = λ n l e. h.references id r.scope n l (at ∙ ap (λ x. Some (with_node r.scope x)) e);
      calls = λ n q l e. h.calls id r.scope n q l (at ∙ ap (λ x. Some (with_node r.scope x)) e);
    };
    names = λ n r at. record { here = h.homes.names n r at; stands = h.bodies n r.scope r.kind at };
    places = λ q r at. record { here = h.homes.places q r at; passes = h.places q r at };
  }

  -- a table with a first wrong row isn't sound
  unsound : (why : BuildRefusal) → IsFirstWrongRow t why → IsSound t → ⊥
  unsound why (no_scopes e) h = (sound-rights h).scopes.0 e
  unsound why (wrong_scope at w) h = w.wrong ((sound-rights h).scopes.1 at w.row w.there)
  unsound why (wrong_node at xs w) h = w.wrong ((sound-rights h).nodes at w.row w.there)
  unsound why (wrong_name at xs ns w) h = w.wrong ((sound-rights h).names at w.row w.there)
  unsound why (wrong_place at xs ns es w) h = w.wrong ((sound-rights h).places at w.row w.there)
  unsound why (wrong_root rows wrong) h = wrong h.root

  pub refused : (why : BuildRefusal) → IsFirstWrongRow t why → IsFirstWrongRow t why × (IsSound t → ⊥)
  refused why w = (w, unsound why w)
