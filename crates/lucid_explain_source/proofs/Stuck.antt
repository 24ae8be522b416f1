-- Where a source is refused by the scanner, the place lies within it.
use Rattle.lucid_explain_source.proofs.Common.{◌≡◌, ℕ, ◌+◌, ◌≤◌, ◌<◌, List, Bool, true, false, length, refl, ap, ◌∙◌, arith, length-drop, if◌then◌else◌, is_ascii_digit}
use Rattle.lucid_scan.specs.Texts.{first_passes}
use Rattle.lucid_scan.specs.declared.refusal.ScanRefusal.{ScanRefusal}
use Rattle.lucid_scan.specs.declared.refusal.ScanRefusal.TheVariants as refusal
use Rattle.lucid_scan.specs.Tokens.{gap, past_gap, Stuck, stuck_here, stuck_next}
use Rattle.lucid_scan.specs.Refusals.{IsStuckBy, Refuses, opens_text}

stuck_before : {bytes rest : List ℕ} {at place : ℕ} → Stuck bytes at place rest → (limit : ℕ) → at + length bytes ≤ limit → place < limit
stuck_before (stuck_here h none) limit within = omega (arith, h)
stuck_before {bytes} {rest} {at} {place} (stuck_next k n longest more) limit within =
    stuck_before more limit
    (omega (arith, within, longest.stands.within, length-drop n (past_gap bytes), length-drop (gap bytes) bytes))

abbrev pub refusal_at : ScanRefusal → ℕ
refusal_at refusal.TooLong = 0
refusal_at (refusal.BadByte at) = at
refusal_at (refusal.OpenText at) = at
refusal_at (refusal.BigNumber at) = at
refusal_at refusal.NoMemory = 0

cases_at : (at : ℕ) (b c : Bool) → refusal_at (if b then refusal.BigNumber at else if c then refusal.OpenText at else refusal.BadByte at) ≡ at
cases_at at true c = refl
cases_at at false true = refl
cases_at at false false = refl

-- the place lies within the source, which isn't too long
pub within : (source : List ℕ) (why : ScanRefusal) → IsStuckBy source why → refusal_at why < length source
within source why s =
    let before = stuck_before s.1.2 (length source) (omega arith) in
    let same : refusal_at why ≡ s.1.0 = ap refusal_at s.1.3 ∙ cases_at s.1.0 (first_passes is_ascii_digit s.1.1) (opens_text s.1.1) in
    omega (arith, before, same)

pub bad_within : (source : List ℕ) (at : ℕ) → Refuses source (refusal.BadByte at) → (at < length source) × (length source ≤ 1048576)
bad_within source at r = (within source (refusal.BadByte at) r, r.0)

pub open_within : (source : List ℕ) (at : ℕ) → Refuses source (refusal.OpenText at) → (at < length source) × (length source ≤ 1048576)
open_within source at r = (within source (refusal.OpenText at) r, r.0)

pub big_within : (source : List ℕ) (at : ℕ) → Refuses source (refusal.BigNumber at) → (at < length source) × (length source ≤ 1048576)
big_within source at r = (within source (refusal.BigNumber at) r, r.0)
