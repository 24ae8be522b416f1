-- The test of the same daton decides equality.
use Rattle.lucid_equations.proofs.Common.{◌≡◌, ap, Daton, ◌==◌, ◌&&◌, Decides-eqb, Decides-and, Decides-like}
use Rattle.lucid_tags.specs.Contexts.{same_context}
use Rattle.lucid_tags.specs.EqualityDecides.{same_context_is_equality}
use Rattle.lucid_equations.specs.Datons.{same_daton}
use Rattle.lucid_equations.specs.Laws.{SameDatonIsEquality}

alike : (d k : Daton) → (d.name ≡ k.name) × ((d.context ≡ k.context) × (d.time ≡ k.time)) → d ≡ k
alike d k e = λ i. record { name = e.0 i; context = e.1.0 i; time = e.1.1 i }

pub same-daton : SameDatonIsEquality
same-daton d k = Decides-like (same_daton d k) (alike d k) (λ e. (ap (λ z. z.name) e, (ap (λ z. z.context) e, ap (λ z. z.time) e)))
    (Decides-and (d.name == k.name) (same_context d.context k.context && (d.time == k.time)) (Decides-eqb d.name k.name)
    (Decides-and (same_context d.context k.context) (d.time == k.time) (same_context_is_equality d.context k.context) (Decides-eqb d.time k.time)))
