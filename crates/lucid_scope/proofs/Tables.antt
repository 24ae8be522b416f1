-- What a table of names has after one name is set.
use Rattle.lucid_scope.proofs.Common.{◌≡◌, ℕ, Bool, true, false, cond, List, [], ◌∷◌, refl, sym, ap, ◌∙◌, arith, lookup, same_name, flattened, Owner}
use Rattle.std.proofs.Common.{Option, Some}
use Rattle.indexmap.specs.IndexMap.{insert_entry}
use Rattle.lucid_scope.proofs.Names.{same_one, same_itself}

cond-swap : {A : Type 0} (a b : Bool) (x y z : A) → (a ≡ true → b ≡ true → ⊥) → cond a x (cond b y z) ≡ cond b y (cond a x z)
cond-swap true true x y z h = absurd (h refl refl)
cond-swap true false x y z h = refl
cond-swap false true x y z h = refl
cond-swap false false x y z h = refl

cond-hide : {A : Type 0} (a : Bool) (x y z : A) → cond a x z ≡ cond a x (cond a y z)
cond-hide true x y z = refl
cond-hide false x y z = refl

module _ {K X : Type 0} (bytes : K → List ℕ) (eq : K → K → Bool) (same : (j k : K) → eq j k ≡ same_name (bytes j) (bytes k)) where
  abbrev found : List ℕ → List (K × X) → Option X
  found n es = lookup (λ key. same_name n (bytes key)) es

  step : (e : K × X) (es : List (K × X)) (k : K) (v : X) (n : List ℕ) → found n (insert_entry eq es k v) ≡ cond (same_name n (bytes k)) (Some v) (found n es)
      → (b : Bool) → eq k e.0 ≡ b → found n (cond b ((e.0, v) ∷ es) (e ∷ insert_entry eq es k v)) ≡ cond (same_name n (bytes k)) (Some v)
      (cond (same_name n (bytes e.0)) (Some e.1) (found n es))
  step e es k v n h true is =
      let one : bytes k ≡ bytes e.0 = same_one (bytes k) (bytes e.0) (sym (same k e.0) ∙ is) in
      cond-hide (same_name n (bytes e.0)) (Some v) (Some e.1) (found n es)
      ∙ ap (λ x. cond (same_name n x) (Some v) (cond (same_name n (bytes e.0)) (Some e.1) (found n es))) (sym one)
  step e es k v n h false is =
      ap (λ o. cond (same_name n (bytes e.0)) (Some e.1) o) h
      ∙ cond-swap (same_name n (bytes e.0)) (same_name n (bytes k)) (Some e.1) (Some v) (found n es)
      (λ p q.
      let one : bytes k ≡ bytes e.0 = sym (same_one n (bytes k) q) ∙ same_one n (bytes e.0) p in
      let yes : eq k e.0 ≡ true = same k e.0 ∙ ap (λ x. same_name (bytes k) x) (sym one) ∙ same_itself (bytes k) in
      grind (arith, is, yes))

  pub lookup-insert : (es : List (K × X)) (k : K) (v : X) (n : List ℕ) → found n (insert_entry eq es k v) ≡ cond (same_name n (bytes k)) (Some v) (found n es)
  lookup-insert [] k v n = refl
  lookup-insert (e ∷ es) k v n = step e es k v n (lookup-insert es k v n) (eq k e.0) refl

pub flattened-cond : (b : Bool) (o : Option Owner) (l : Option (Option Owner)) → flattened (cond b (Some o) l) ≡ cond b o (flattened l)
flattened-cond true o l = refl
flattened-cond false o l = refl
