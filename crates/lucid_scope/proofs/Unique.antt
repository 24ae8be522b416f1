-- In a well-made tree no place has two sites, so one fault alone stands at the least place.
use Rattle.lucid_scope.proofs.Common.{◌≡◌, ℕ, ◌<◌, ◌≤◌, length, map, get_or, None, IsSome, inl, inr, refl, sym, ap, subst, ◌∙◌, arith, unwrap_or, All, length-map, get_or_default, IsPermutation-refl, PlainTree, IsWellMade, Site, site_at, fault_of, all_sites, HasNoFault, IsLeastFault, mark, Mark, ScopeRefusal, Contains}
use Rattle.std.proofs.Common.{Option, Some}
use Rattle.std.proofs.lemmas.Bool.{cases_lt as either_side}
use Rattle.lucid_scope.proofs.Marked.{Ordered}
use Rattle.lucid_scope.proofs.Resolved.{mark-at, here, different, apart, none_some}

abbrev unsorted : (e : PlainTree) → Ordered (all_sites e) (map mark (all_sites e))
unsorted e = record { order = all_sites e; marks = refl; permutes = IsPermutation-refl (all_sites e) }

mark-there : (e : PlainTree) (k : ℕ) (s : Site) → k < length (all_sites e)
    → (get_or (map mark (all_sites e)) k (mark s)).at ≡ site_at (get_or (all_sites e) k s)
mark-there e k s h =
    ap (λ (m : Mark). m.at) (here (all_sites e) (map mark (all_sites e)) (unsorted e) k (mark s) s (omega (arith, h, length-map (all_sites e) mark)))
    ∙ mark-at (get_or (all_sites e) k s)

before : (e : PlainTree) → IsWellMade e → (k i : ℕ) (s t : Site) → k < i → i < length (all_sites e)
    → site_at (get_or (all_sites e) k s) ≡ site_at (get_or (all_sites e) i t) → ⊥
before e w k i s t h l same =
    apart (map mark (all_sites e)) (different e (map mark (all_sites e)) w (unsorted e)) k i (mark s) (mark t) h
    (omega (arith, l, length-map (all_sites e) mark))
    (mark-there e k s (omega (arith, h, l)) ∙ same ∙ sym (mark-there e i t l))

one_site : (e : PlainTree) → IsWellMade e → (s t : Site) → Contains (all_sites e) s → Contains (all_sites e) t → site_at s ≡ site_at t → s ≡ t
one_site e w s t a b same =
    elim (either_side a.0 b.0) [
      | inl less ↦ absurd (before e w a.0 b.0 s t less b.1 (ap site_at a.2 ∙ same ∙ ap site_at (sym b.2)))
      | inr more ↦
          elim (either_side b.0 a.0) [
            | inl less ↦ absurd (before e w b.0 a.0 t s less a.1 (ap site_at b.2 ∙ sym same ∙ ap site_at (sym a.2)))
            | inr most ↦
                let e' : a.0 ≡ b.0 = omega (arith, more, most) in
                sym a.2 ∙ ap (λ k. get_or (all_sites e) k s) e' ∙ get_or_default (all_sites e) b.0 s t b.1 ∙ b.2
          ]
    ]

holds : (P : Site → Type 0) (e : PlainTree) (s : Site) → All P (all_sites e) → Contains (all_sites e) s → P s
holds P e s all c = subst P c.2 (all c.0 s c.1)

a_fault : (o : Option ScopeRefusal) (f : ScopeRefusal) → o ≡ Some f → IsSome o
a_fault o f is = subst IsSome (sym is) refl

pub one_fault : (e : PlainTree) (f g : ScopeRefusal) → IsWellMade e → IsLeastFault e f → IsLeastFault e g → f ≡ g
one_fault e f g w a b =
    let le : site_at a.site ≤ site_at b.site = holds (λ s. IsSome (fault_of s) → site_at a.site ≤ site_at s) e b.site a.least b.stands
    (a_fault (fault_of b.site) g b.is) in
    let ge : site_at b.site ≤ site_at a.site = holds (λ s. IsSome (fault_of s) → site_at b.site ≤ site_at s) e a.site b.least a.stands
    (a_fault (fault_of a.site) f a.is) in
    let same : a.site ≡ b.site = one_site e w a.site b.site a.stands b.stands (omega (arith, le, ge)) in
    ap (λ o. unwrap_or o f) (sym a.is ∙ ap fault_of same ∙ b.is)

pub no_fault : (e : PlainTree) (f : ScopeRefusal) → HasNoFault e → IsLeastFault e f → ⊥
no_fault e f none h = none_some (fault_of h.site) (holds (λ s. fault_of s ≡ None) e h.site none h.stands) (a_fault (fault_of h.site) f h.is)
