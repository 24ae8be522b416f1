-- One frame more.
use Rattle.lucid_show_drawing.proofs.Common.{◌≡◌, ℕ, zero, suc, ◌+◌, ◌-◌, ◌<◌, false, List, refl, ap, ◌∙◌, arith, if◌then◌else◌}
use Rattle.std.specs.Prelude.{◌==◌}
use Rattle.lucid_cert_rules.specs.declared.rows.ContextRow.{ContextRow}
use Rattle.lucid_show_drawing.specs.Spots.{base_at, frames, without}

pub frames_none : (k : ℕ) (cs : List ContextRow) → frames k cs 0 ≡ 0
frames_none zero cs = refl
frames_none (suc k) cs = refl

pub frames_more : (most count : ℕ) (cs : List ContextRow) (at : ℕ) → count < most → (at == 0) ≡ false
    → frames (most - count) cs at ≡ frames (most - (count + 1)) cs (base_at cs at) + 1
frames_more most count cs at h some =
    let left : most - count ≡ suc (most - (count + 1)) = omega arith in
    ap (λ (k : ℕ). frames k cs at) left ∙ ap (λ b. if b then 0 else frames (most - (count + 1)) cs (base_at cs at) + 1) some

pub without_more : (count i : ℕ) (cs : List ContextRow) (at : ℕ) → i < count
    → without (count - i) cs at ≡ without (count - (i + 1)) cs (base_at cs at)
without_more count i cs at h = let left : count - i ≡ suc (count - (i + 1)) = omega arith in ap (λ (k : ℕ). without k cs at) left
