-- What a refusal says.
use Rattle.lucid_scan.proofs.Common.{◌≡◌, ℕ, ◌≤◌, ◌<◌, List, length, Bool, true, false, cond, ◌⊎◌, inl, inr, refl, sym, ◌∙◌, ap, arith, is_ascii_digit, Token, first_passes, Tokens, Stuck, refusal_of, ◌≢◌}
use Rattle.lucid_scan.specs.declared.refusal.ScanRefusal.{ScanRefusal}
use Rattle.lucid_scan.specs.declared.refusal.ScanRefusal.TheVariants as refusal
use Rattle.lucid_scan.specs.Refusals.{opens_text, IsStuckBy, Refuses}
use Rattle.lucid_scan.proofs.Once.{no_scan, one_stuck}

not_long : (digit opens : Bool) (at : ℕ) → refusal.TooLong ≡ cond digit (refusal.BigNumber at) (cond opens (refusal.OpenText at) (refusal.BadByte at)) → ⊥
not_long true opens at e = cc
not_long false true at e = cc
not_long false false at e = cc

pub refused : (why : ScanRefusal) (source rest : List ℕ) (at : ℕ) → length source ≤ 1048576 → Stuck source 0 at rest → why ≡ refusal_of rest at
    → Refuses source why
refused refusal.TooLong source rest at small s e = absurd (not_long (first_passes is_ascii_digit rest) (opens_text rest) at e)
refused refusal.NoMemory source rest at small s e = tt
refused _ source rest at small s e = (small, (at, rest, s, e))

-- the three causes
causes : (source : List ℕ) (why : ScanRefusal) → Refuses source why
    → (why ≡ refusal.NoMemory) ⊎ (((why ≡ refusal.TooLong) × (1048576 < length source)) ⊎ IsStuckBy source why)
causes source refusal.TooLong h = inr (inl (refl, h))
causes source refusal.NoMemory h = inl refl
causes source _ h = inr (inr h)

pub not_refused : (source : List ℕ) (ts : List Token) (why : ScanRefusal) → Tokens source 0 ts → length source ≤ 1048576 → Refuses source why
    → why ≡ refusal.NoMemory
not_refused source ts why scanned small h = elim (causes source why h) [
  | inl e ↦ e
  | inr c ↦ elim c [
    | inl long ↦ absurd (omega (arith, long.1, small))
    | inr stuck ↦ absurd (no_scan scanned stuck.1.0 stuck.1.1 stuck.1.2)
  ]
]

both_stuck : (source : List ℕ) (why other : ScanRefusal) → IsStuckBy source why → IsStuckBy source other → why ≡ other
both_stuck source why other (_, (at, rest, s, e)) (_, (place, more, r, f)) =
    let same = one_stuck s place more r in
    e ∙ ap (λ n. refusal_of rest n) same.0 ∙ ap (λ l. refusal_of l place) same.1 ∙ sym f

pub one_refusal : (source : List ℕ) (why other : ScanRefusal) → Refuses source why → Refuses source other → why ≢ refusal.NoMemory → other ≢ refusal.NoMemory
    → why ≡ other
one_refusal source why other h g no_want no_other = elim (causes source why h) [
  | inl e ↦ absurd (no_want e)
  | inr c ↦ elim (causes source other g) [
    | inl e ↦ absurd (no_other e)
    | inr d ↦ elim c [
      | inl long ↦ elim d [ inl more ↦ long.0 ∙ sym more.0 | inr stuck ↦ absurd (omega (arith, long.1, stuck.0)) ]
      | inr stuck ↦ elim d [ inl long ↦ absurd (omega (arith, long.1, stuck.0)) | inr more ↦ both_stuck source why other stuck more ]
    ]
  ]
]
