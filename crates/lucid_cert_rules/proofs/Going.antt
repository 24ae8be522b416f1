-- What a name goes on with in a context: by the context's innermost frame, and nowhere where there are too few frames.
use Rattle.lucid_cert_rules.proofs.FollowingCommon.{◌≡◌, ℕ, ◌<◌, ◌-◌, Option, Some, refl, sym, ap, ◌∙◌, arith, goes_to, nowhere, Context, root, call_frame, frozen_frame, Table, onward, same_Some}
use Rattle.lucid_tags.specs.Contexts.{base_of, frames, cut}
use Rattle.lucid_tags.proofs.ContextLemmas.{cut-above, cut-base_of}
use Rattle.lucid_equations.specs.Datons.{called_from}
use Rattle.lucid_equations.specs.NumberAims.{to_number, by_name_row, name_number_aim}
use Rattle.lucid_equations.specs.Rows.{name_at}
use Rattle.lucid_equations.specs.declared.rows.Entry.{Entry}
use Rattle.lucid_equations.specs.declared.rows.Entry.TheVariants.{Current}

-- a current name goes on with its body in the context without its frozen time, at that time
pub current_goes : (T : Table) (n id : ℕ) (c outer : Context) (f t top : ℕ) → name_at T n ≡ Some (Current id) → c ≡ frozen_frame f (base_of c) → top ≡ frames c
    → cut (top - 1) c ≡ Some outer
    → goes_to tt (record { number = id; context = outer }) f ≡ onward (name_number_aim T n (Some c) t)
current_goes T n id root outer f t top h is l o = absurd (cc)
current_goes T n id (call_frame at c d) outer f t top h is l o = absurd (cc)
current_goes T n id (frozen_frame u c) outer f t top h is l o =
    let same : u ≡ f = let h : frozen_frame u c ≡ frozen_frame f c = is in cc in
    let low : top - 1 ≡ frames c = omega (arith, l) in
    let base : c ≡ outer = same_Some c outer (sym (cut-base_of (frozen_frame u c) (frames c) refl) ∙ ap (λ z. cut z (frozen_frame u c)) (sym low) ∙ o) in
    sym (ap (λ (z : Option Entry). onward (by_name_row T z n (frozen_frame u c) t)) h
    ∙ ap (λ (z : Context). onward (to_number n (frozen_frame u c) 0 id z u)) base ∙ ap (λ (z : ℕ). onward (to_number n (frozen_frame u c) 0 id outer z)) same)

-- with too few frames a name leads nowhere
pub few_frames : (T : Table) (n level : ℕ) (c : Context) (t : ℕ) → frames c < level → nowhere ≡ onward (name_number_aim T n (cut level c) t)
few_frames T n level c t h = sym (ap (λ (z : Option Context). onward (name_number_aim T n z t)) (cut-above c level h))

pub few_to_call : (T : Table) (n at level : ℕ) (c : Context) (t : ℕ) → frames c < level
    → nowhere ≡ onward (name_number_aim T n (called_from at c (cut level c)) t)
few_to_call T n at level c t h = sym (ap (λ (z : Option Context). onward (name_number_aim T n (called_from at c z) t)) (cut-above c level h))
