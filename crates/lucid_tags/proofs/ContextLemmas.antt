-- Contexts: cutting, and which contexts are further out.
use Rattle.lucid_tags.proofs.Common.{◌≡◌, ℕ, suc, ◌<◌, ◌≤◌, None, refl, ◌∙◌, subst, arith, Context, root, frozen_frame, frames, base_of, cut, IsOuter}
use Rattle.std.proofs.Common.{Some}
use Rattle.lucid_lists.proofs.Numbers.{number_itself, below_differs, above_differs}
use Rattle.lucid_tags.specs.Contexts.{call_frame}

-- below the innermost frame a cut is that of the base
pub cut-call_frame : (level place : ℕ) (caller base : Context) → level ≤ frames base → cut level (call_frame place caller base) ≡ cut level base
cut-call_frame level place caller base h = let b : level < suc (frames base) = omega arith in rw (below_differs level (suc (frames base)) b) refl

pub cut-frozen_frame : (level time : ℕ) (base : Context) → level ≤ frames base → cut level (frozen_frame time base) ≡ cut level base
cut-frozen_frame level time base h = let b : level < suc (frames base) = omega arith in rw (below_differs level (suc (frames base)) b) refl

-- at its own level a cut is the whole context
pub cut-frames : (c : Context) → cut (frames c) c ≡ Some c
cut-frames root = refl
cut-frames (call_frame place caller base) = rw (number_itself (suc (frames base))) refl
cut-frames (frozen_frame time base) = rw (number_itself (suc (frames base))) refl

-- above its level there is none
pub cut-above : (c : Context) (level : ℕ) → frames c < level → cut level c ≡ None
cut-above root level h = rw (above_differs level 0 h) refl
cut-above (call_frame place caller base) level h = rw (above_differs level (suc (frames base)) h) (cut-above base level (omega arith))
cut-above (frozen_frame time base) level h = rw (above_differs level (suc (frames base)) h) (cut-above base level (omega arith))

-- a context is further out than itself, and so is its base
pub outer-itself : (c : Context) → IsOuter c c
outer-itself c = record { lower = omega arith; same = λ level h. refl }

pub outer-base_of : (c : Context) → IsOuter (base_of c) c
outer-base_of root = outer-itself root
outer-base_of (call_frame place caller base) = record { lower = omega arith; same = λ level h. cut-call_frame level place caller base h }
outer-base_of (frozen_frame time base) = record { lower = omega arith; same = λ level h. cut-frozen_frame level time base h }

pub outer-outer : (a b c : Context) → IsOuter a b → IsOuter b c → IsOuter a c
outer-outer a b c p q = record {
  lower = omega (arith, p.lower, q.lower);
  same = λ level h. q.same level (omega (arith, h, p.lower)) ∙ p.same level h;
}

-- cutting at the level of a context further out gives it
pub cut-outer : (outer inner : Context) → IsOuter outer inner → cut (frames outer) inner ≡ Some outer
cut-outer outer inner h = h.same (frames outer) (omega arith) ∙ cut-frames outer

-- a cut that leaves out the innermost frame gives the base
pub cut-base_of : (c : Context) (level : ℕ) → suc level ≡ frames c → cut level c ≡ Some (base_of c)
cut-base_of root level h = absurd (omega arith)
cut-base_of (call_frame place caller base) level h =
    let own : frames base ≡ level = omega arith in
    subst (λ n. cut n (call_frame place caller base) ≡ Some base) own (cut-call_frame (frames base) place caller base (omega arith) ∙ cut-frames base)
cut-base_of (frozen_frame time base) level h =
    let own : frames base ≡ level = omega arith in
    subst (λ n. cut n (frozen_frame time base) ≡ Some base) own (cut-frozen_frame (frames base) time base (omega arith) ∙ cut-frames base)
