-- What is looked at, said of single looks.
use Rattle.lucid_show_drawing.proofs.Common.{◌≡◌, ◌⊎◌, ℕ, zero, suc, ◌+◌, ◌<◌, Bool, true, false, List, [], ◌∷◌, ◌++◌, drop, take, length, Option, Some, None, inl, inr, refl, sym, ap, subst, ◌∙◌, arith, slice_get, if◌then◌else◌, take-append-drop}
use Rattle.std.specs.List.{AllByRecursion, flat_map}
use Rattle.std.proofs.lemmas.Bool.{or_cases}
use Rattle.lucid_tree.specs.Members.{In}
use Rattle.lucid_tree.proofs.Members.{in_either, in_left, in_right}
use Rattle.lucid_cert_rules.specs.Cells.{asked_at, is_among, same_cell}
use Rattle.lucid_cert_rules.specs.Certificates.{PlainJudgment}
use Rattle.lucid_cert_rules.specs.declared.cell.Cell.{Cell}
use Rattle.lucid_cert_rules.specs.declared.cell.Cell.TheVariants.{Named, Element}
use Rattle.lucid_cert_rules.proofs.Reaching.{same_is_one}
use Rattle.lucid_show_outline.specs.Laws.{UsesAreEarlier}
use Rattle.lucid_show_outline.specs.Searches.{tests}
use Rattle.lucid_show_outline.specs.Views.{View}
use Rattle.lucid_show_drawing.specs.Laws.{Looks, LooksAt, itself, tested, through}
use Rattle.lucid_show_drawing.specs.Looked.{box_at, box_for, boxes_at, looked, looked_at, looked_for, looked_through, once, others}
use Rattle.lucid_show_drawing.proofs.Looking.{none_left, one_level}

-- what stands in one of the lists of a list stands in all together
pub in_flat : {A B : Type 0} (f : A → List B) (xs : List A) (x : A) (y : B) → In x xs → In y (f x) → In y (flat_map f xs)
in_flat f [] x y h k = absurd h
in_flat f (z ∷ xs) x y (inl e) k = in_left y (f z) (flat_map f xs) (subst (λ w. In y (f w)) e k)
in_flat f (z ∷ xs) x y (inr h) k = in_right y (f z) (flat_map f xs) (in_flat f xs x y h k)

pub flat_in : {A B : Type 0} (f : A → List B) (xs : List A) (y : B) → In y (flat_map f xs) → (x : A) × In x xs × In y (f x)
flat_in f [] y h = absurd h
flat_in f (x ∷ xs) y h =
    elim (in_either y (f x) (flat_map f xs) h) [ inl here ↦ (x, inl refl, here) | inr later ↦ let there = flat_in f xs y later in (there.0, inr there.1, there.2) ]

-- the box of what asks, and of what asks for nothing
pub box_some : (v : View) (i : ℕ) (c : Cell) → asked_at v.table v.judgments i ≡ Some c → box_at v i ≡ c
unfolding box_for
box_some v i c asks = ap (box_for i) asks

pub box_none : (v : View) (i : ℕ) → asked_at v.table v.judgments i ≡ None → box_at v i ≡ Named i
unfolding box_for
box_none v i asks = ap (box_for i) asks

-- one level, by what the judgment asks for
for_some : (v : View) (further : List ℕ → List ℕ) (i : ℕ) (c : Cell) → looked_for v further i (Some c) ≡ i ∷ []
unfolding looked_for
for_some v further i c = refl

for_none : (v : View) (further : List ℕ → List ℕ) (i : ℕ) → looked_for v further i None ≡ looked_through v further (slice_get v.judgments i)
unfolding looked_for
for_none v further i = refl

through_some : (v : View) (further : List ℕ → List ℕ) (j : PlainJudgment) → looked_through v further (Some j) ≡ tests v j ++ further (others v j)
unfolding looked_through
through_some v further j = refl

through_none : (v : View) (further : List ℕ → List ℕ) → looked_through v further None ≡ []
unfolding looked_through
through_none v further = refl

asks_level : (n : ℕ) (v : View) (i : ℕ) (c : Cell) → asked_at v.table v.judgments i ≡ Some c → looked (suc n) v i ≡ i ∷ []
asks_level n v i c asks = one_level n v i ∙ ap (looked_for v (flat_map (looked n v)) i) asks ∙ for_some v (flat_map (looked n v)) i c

none_level : (n : ℕ) (v : View) (i : ℕ) → asked_at v.table v.judgments i ≡ None
    → looked (suc n) v i ≡ looked_through v (flat_map (looked n v)) (slice_get v.judgments i)
none_level n v i asks = one_level n v i ∙ ap (looked_for v (flat_map (looked n v)) i) asks ∙ for_none v (flat_map (looked n v)) i

search_level : (n : ℕ) (v : View) (i : ℕ) (j : PlainJudgment) → asked_at v.table v.judgments i ≡ None → slice_get v.judgments i ≡ Some j
    → looked (suc n) v i ≡ tests v j ++ flat_map (looked n v) (others v j)
search_level n v i j asks there =
    none_level n v i asks ∙ ap (looked_through v (flat_map (looked n v))) there ∙ through_some v (flat_map (looked n v)) j

-- each that is told was looked at
module _ (n : ℕ) (v : View) (i k : ℕ) (below : (u : ℕ) → In k (looked n v u) → LooksAt v u k) where
  sound_by : (o : Option PlainJudgment) → slice_get v.judgments i ≡ o → asked_at v.table v.judgments i ≡ None → In k (looked (suc n) v i) → LooksAt v i k
  sound_by None there asks h =
      absurd (subst (λ (xs : List ℕ). In k xs)
      (none_level n v i asks ∙ ap (looked_through v (flat_map (looked n v))) there ∙ through_none v (flat_map (looked n v))) h)
  sound_by (Some j) there asks h =
      elim (in_either k (tests v j) (flat_map (looked n v) (others v j)) (subst (λ (xs : List ℕ). In k xs) (search_level n v i j asks there) h)) [
        | inl test ↦ tested asks there test
        | inr other ↦ let u = flat_in (looked n v) (others v j) k other in through asks there u.1 (below u.0 u.2)
      ]

  only : (c : Cell) → asked_at v.table v.judgments i ≡ Some c → In k (i ∷ []) → LooksAt v i k
  only c asks (inl same) = subst (λ (m : ℕ). LooksAt v i m) (sym same) (itself asks)
  only c asks (inr h) = absurd h

  sound_for : (o : Option Cell) → asked_at v.table v.judgments i ≡ o → In k (looked (suc n) v i) → LooksAt v i k
  sound_for None asks h = sound_by (slice_get v.judgments i) refl asks h
  sound_for (Some c) asks h = only c asks (subst (λ (xs : List ℕ). In k xs) (asks_level n v i c asks) h)

looked_sound : (n : ℕ) (v : View) (i k : ℕ) → In k (looked n v i) → LooksAt v i k
looked_sound zero v i k h = absurd (subst (λ (xs : List ℕ). In k xs) (none_left 0 v i refl) h)
looked_sound (suc n) v i k h = sound_for n v i k (λ u. looked_sound n v u k) (asked_at v.table v.judgments i) refl h

-- and each that was looked at is told
all_in : {A : Type 0} (P : A → Type 0) (xs : List A) (x : A) → AllByRecursion P xs → In x xs → P x
all_in P [] x all h = absurd h
all_in P (y ∷ xs) x all (inl e) = subst P (sym e) all.0
all_in P (y ∷ xs) x all (inr h) = all_in P xs x all.1 h

behind_in : (n : ℕ) (us : List ℕ) (u : ℕ) → In u (drop n us) → In u us
behind_in n us u h = subst (λ (z : List ℕ). In u z) (take-append-drop n us) (in_right u (take n us) (drop n us) h)

looked_whole : (v : View) → UsesAreEarlier v.judgments → (n : ℕ) {i k : ℕ} → LooksAt v i k → i < n → In k (looked n v i)
looked_whole v earlier zero look h = absurd (omega (arith, h))
looked_whole v earlier (suc n) (itself {i = i} {c = c} asks) h = subst (λ (xs : List ℕ). In i xs) (sym (asks_level n v i c asks)) (inl refl)
looked_whole v earlier (suc n) (tested {i = i} {t = t} {j = j} asks there test) h =
    subst (λ (xs : List ℕ). In t xs) (sym (search_level n v i j asks there)) (in_left t (tests v j) (flat_map (looked n v) (others v j)) test)
looked_whole v earlier (suc n) (through {i = i} {u = u} {k = k} {j = j} asks there used look) h =
    let before : u < i = all_in (λ (w : ℕ). w < i) j.uses u (earlier i j there) (behind_in (length (tests v j)) j.uses u used) in
    subst (λ (xs : List ℕ). In k xs) (sym (search_level n v i j asks there))
    (in_right k (tests v j) (flat_map (looked n v) (others v j))
    (in_flat (looked n v) (others v j) u k used (looked_whole v earlier n look (omega (arith, h, before)))))

-- what is among cells stands in them
pub among_is_in : (cs : List Cell) (c : Cell) → is_among cs c ≡ true → In c cs
among_is_in [] c h = absurd (cc)
among_is_in (d ∷ cs) c h =
    elim (or_cases (same_cell c d) (is_among cs c) h) [ inl same ↦ inl (same_is_one c d same) | inr later ↦ inr (among_is_in cs c later) ]

-- cells each once are the same cells
once_by : (b : Bool) (had : List Cell) (c : Cell) (cs : List Cell) (d : Cell) → In d (if b then once had cs else once (had ++ c ∷ []) cs)
    → ((more : List Cell) → In d (once more cs) → In d more ⊎ In d cs) → In d had ⊎ In d (c ∷ cs)
once_by true had c cs d h rest = elim (rest had h) [ inl before ↦ inl before | inr later ↦ inr (inr later) ]
once_by false had c cs d h rest =
    elim (rest (had ++ c ∷ []) h) [
      | inl before ↦ elim (in_either d had (c ∷ []) before) [ inl first ↦ inl first | inr here ↦ inr (elim here [ inl same ↦ inl same | inr none ↦ absurd none ]) ]
      | inr later ↦ inr (inr later)
    ]

once_in : (cs : List Cell) (had : List Cell) (d : Cell) → In d (once had cs) → In d had ⊎ In d cs
once_in [] had d h = inl h
once_in (c ∷ cs) had d h = once_by (is_among had c) had c cs d h (λ more. once_in cs more d)

kept_by : (b : Bool) (had : List Cell) (c : Cell) (cs : List Cell) (d : Cell) → In d had → ((more : List Cell) → In d more → In d (once more cs))
    → In d (if b then once had cs else once (had ++ c ∷ []) cs)
kept_by true had c cs d h rest = rest had h
kept_by false had c cs d h rest = rest (had ++ c ∷ []) (in_left d had (c ∷ []) h)

kept : (cs : List Cell) (had : List Cell) (d : Cell) → In d had → In d (once had cs)
kept [] had d h = h
kept (c ∷ cs) had d h = kept_by (is_among had c) had c cs d h (λ more. kept cs more d)

first_by : (b : Bool) (had : List Cell) (c : Cell) (cs : List Cell) → is_among had c ≡ b → In c (if b then once had cs else once (had ++ c ∷ []) cs)
first_by true had c cs is = kept cs had c (among_is_in had c is)
first_by false had c cs is = kept cs (had ++ c ∷ []) c (in_right c had (c ∷ []) (inl refl))

later_by : (b : Bool) (had : List Cell) (c : Cell) (cs : List Cell) (d : Cell) → ((more : List Cell) → In d (once more cs))
    → In d (if b then once had cs else once (had ++ c ∷ []) cs)
later_by true had c cs d rest = rest had
later_by false had c cs d rest = rest (had ++ c ∷ [])

in_once : (cs : List Cell) (had : List Cell) (d : Cell) → In d cs → In d (once had cs)
in_once [] had d h = absurd h
in_once (c ∷ cs) had d (inl same) = subst (λ (x : Cell). In x (once had (c ∷ cs))) (sym same) (first_by (is_among had c) had c cs refl)
in_once (c ∷ cs) had d (inr h) = later_by (is_among had c) had c cs d (λ more. in_once cs more d h)

-- boxes by their judgments
box_in : (v : View) (ns : List ℕ) (k : ℕ) (d : Cell) → In k ns → box_at v k ≡ d → In d (boxes_at v ns)
box_in v [] k d h e = absurd h
box_in v (n ∷ ns) k d (inl same) e = inl (sym e ∙ ap (λ (m : ℕ). box_at v m) same)
box_in v (n ∷ ns) k d (inr h) e = inr (box_in v ns k d h e)

in_boxes : (v : View) (ns : List ℕ) (d : Cell) → In d (boxes_at v ns) → (k : ℕ) × In k ns × (box_at v k ≡ d)
in_boxes v [] d h = absurd h
in_boxes v (n ∷ ns) d (inl same) = (n, inl refl, sym same)
in_boxes v (n ∷ ns) d (inr h) = let there = in_boxes v ns d h in (there.0, inr there.1, there.2)

not_had : {A : Type 0} {B : Type 0} (x : A) → In x [] ⊎ B → B
not_had x (inl none) = absurd none
not_had x (inr b) = b

pub looks_told : (v : View) (c d : Cell) → In d (looked_at v c) → Looks v c d
looks_told v (Named i) d h =
    let at = in_boxes v (looked (i + 1) v i) d (not_had d (once_in (boxes_at v (looked (i + 1) v i)) [] d h)) in
    (at.0, looked_sound (i + 1) v i at.0 at.1, at.2)
looks_told v (Element k t) d h = absurd h

pub told_looks : (v : View) → UsesAreEarlier v.judgments → (c d : Cell) → Looks v c d → In d (looked_at v c)
told_looks v earlier (Named i) d look =
    in_once (boxes_at v (looked (i + 1) v i)) [] d
    (box_in v (looked (i + 1) v i) look.0 d (looked_whole v earlier (i + 1) look.1 (omega arith)) look.2)
told_looks v earlier (Element k t) d look = absurd look
