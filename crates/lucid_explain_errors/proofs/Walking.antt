-- The steps of a way, one behind another.
use Rattle.std.proofs.Common.{◌≡◌, ℕ, ◌<◌, Bool, true, false, List, [], ◌∷◌, ◌++◌, Option, None, Some, inl, inr, refl, sym, ap, ◌∙◌, subst, append_assoc, append-nil, arith}
use Rattle.std.specs.Prelude.{find, cond, nat_lt, ◌&&◌, slice_get}
use Rattle.std.proofs.lemmas.Bool.Decides.{nat_tests}
use Rattle.std.proofs.lemmas.Option.{none-some}
use Rattle.lucid_tree.specs.Members.{In}
use Rattle.lucid_cert_rules.specs.Certificates.{PlainJudgment}
use Rattle.lucid_cert_rules.specs.Needs.{uses_at}
use Rattle.lucid_explain_errors.specs.declared.traced.Traced.{Traced}
use Rattle.lucid_explain_errors.specs.Ways.{Leads, ends, goes_on, step_from, may_step, is_traced_in}

-- what a test finds passes it
found_by : (p : ℕ → Bool) (b : Bool) (w u : ℕ) (rest : Option ℕ) → p w ≡ b → cond b (Some w) rest ≡ Some u → (rest ≡ Some u → p u ≡ true) → p u ≡ true
found_by p true w u rest is e later =
    let same : w ≡ u = cc in
    subst (λ (z : ℕ). p z ≡ true) same is
found_by p false w u rest is e later = later e

found_passes : (p : ℕ → Bool) (us : List ℕ) (u : ℕ) → find p us ≡ Some u → p u ≡ true
found_passes p [] u e = absurd (none-some u e)
found_passes p (w ∷ us) u e = found_by p (p w) w u (find p us) refl e (found_passes p us u)

-- where it finds none, none passes it
none_here : (b : Bool) (w : ℕ) (rest : Option ℕ) → cond b (Some w) rest ≡ None → b ≡ false
none_here true w rest e = absurd (cc)
none_here false w rest e = refl

none_later : (b : Bool) (w : ℕ) (rest : Option ℕ) → cond b (Some w) rest ≡ None → rest ≡ None
none_later true w rest e = absurd (cc)
none_later false w rest e = e

none_found : (p : ℕ → Bool) (us : List ℕ) (u : ℕ) → find p us ≡ None → In u us → p u ≡ false
none_found p [] u e i = absurd i
none_found p (w ∷ us) u e (inl same) = subst (λ (z : ℕ). p z ≡ false) (sym same) (none_here (p w) w (find p us) e)
none_found p (w ∷ us) u e (inr later) = none_found p us u (none_later (p w) w (find p us) e) later

-- a test of two parts
first_part : (b c : Bool) → (b && c) ≡ true → b ≡ true
first_part true c e = refl
first_part false c e = absurd (cc)

second_part : (b c : Bool) → (b && c) ≡ true → c ≡ true
second_part true c e = e
second_part false c e = absurd (cc)

second_fails : (b c : Bool) → b ≡ true → (b && c) ≡ false → c ≡ false
second_fails true c is e = e
second_fails false c is e = absurd (cc)

below : (u i : ℕ) → nat_lt u i ≡ true → u < i
below u i e = grind (arith, nat_tests)

is_below : (u i : ℕ) → u < i → nat_lt u i ≡ true
is_below u i h = grind (arith, nat_tests)

-- a step leads to an earlier judgment
pub step_falls : (x : Traced) (js : List PlainJudgment) (i u : ℕ) → step_from x js i ≡ Some u → u < i
step_falls x js i u e = below u i (first_part (nat_lt u i) (is_traced_in x (slice_get js u)) (found_passes (may_step x js i) (uses_at js i) u e))

module _ (x : Traced) (js : List PlainJudgment) (from at : ℕ) where
  -- one more is passed
  pub leads_on : (next end : ℕ) (before passed more : List ℕ)
      → ((more : List ℕ) (end : ℕ) → Leads x js at more end → Leads x js from (before ++ more) end)
      → step_from x js at ≡ Some next → passed ≡ before ++ at ∷ [] → Leads x js next more end → Leads x js from (passed ++ more) end
  leads_on next end before passed more way step is leads =
      let P : List ℕ → Type 0 = λ z. Leads x js from z end in
      let e : before ++ at ∷ more ≡ passed ++ more = sym (append_assoc before (at ∷ []) more) ∙ ap (λ (z : List ℕ). z ++ more) (sym is) in
      subst P e (way (at ∷ more) end (goes_on step leads))

  -- the way ends here
  pub leads_here : (passed : List ℕ) → ((more : List ℕ) (end : ℕ) → Leads x js at more end → Leads x js from (passed ++ more) end)
      → step_from x js at ≡ None → Leads x js from passed at
  leads_here passed way none =
      let P : List ℕ → Type 0 = λ z. Leads x js from z at in
      subst P (append-nil passed) (way [] at (ends none))

module _ (x : Traced) (js : List PlainJudgment) where
  -- what is passed has the value
  pub keeps : {i end : ℕ} {passed : List ℕ} → is_traced_in x (slice_get js i) ≡ true → Leads x js i passed end → (k : ℕ) → In k (passed ++ end ∷ [])
      → is_traced_in x (slice_get js k) ≡ true
  keeps has (ends none) k (inl same) = subst (λ (z : ℕ). is_traced_in x (slice_get js z) ≡ true) (sym same) has
  keeps has (ends none) k (inr later) = absurd later
  keeps has (goes_on step leads) k (inl same) = subst (λ (z : ℕ). is_traced_in x (slice_get js z) ≡ true) (sym same) has
  keeps has (goes_on {i = i} {u = u} step leads) k (inr later) =
      keeps (second_part (nat_lt u i) (is_traced_in x (slice_get js u)) (found_passes (may_step x js i) (uses_at js i) u step)) leads k later

  -- at the end it arises
  pub arises : {i end : ℕ} {passed : List ℕ} → Leads x js i passed end → (u : ℕ) → In u (uses_at js end) → u < end
      → is_traced_in x (slice_get js u) ≡ false
  arises (ends {i = i} none) u used earlier =
      second_fails (nat_lt u i) (is_traced_in x (slice_get js u)) (is_below u i earlier) (none_found (may_step x js i) (uses_at js i) u none used)
  arises (goes_on step leads) u used earlier = arises leads u used earlier
