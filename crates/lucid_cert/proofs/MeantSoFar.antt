-- What follows so far is meant.
use Rattle.lucid_cert.proofs.Common.{slice_get_within, ◌≡◌, ℕ, zero, suc, ◌+◌, ◌<◌, ◌≤◌, max, List, [], ◌∷◌, length, Option, Some, refl, subst, arith, slice_get, same_Some, none-some, Elements, Context, NodeMeans, IsInRange, equations_of, node_at, Table, nodes-by-numbers, row-node, PlainJudgment, FollowsIn, context_in}
use Rattle.lucid_cert_rules.proofs.Meant.{Laws, all_meant}
use Rattle.lucid_equations.proofs.Needs as law
use Rattle.lucid_equations.proofs.NodeGrowth.{node_hval-up}
use Rattle.lucid_equations.proofs.PartsRead.{part-value}

laws : Laws
laws = record {
  stay = node_hval-up;
  rows = row-node;
  parts = part-value;
  freezing = λ p e g m c t s. refl;
  numbers = nodes-by-numbers;
  references = law.reference-value;
  elements = law.element-value;
}

-- a number that no judgment's time and uses are more than together
pub most_of : List PlainJudgment → ℕ
most_of [] = 0
most_of (j ∷ js) = max (j.time + length j.uses) (most_of js)

pub within_most : (js : List PlainJudgment) (i : ℕ) (j : PlainJudgment) → slice_get js i ≡ Some j → j.time + length j.uses ≤ most_of js
unfolding most_of
within_most [] i j e = absurd (none-some j e)
within_most (k ∷ js) zero j e =
    let same : k ≡ j = same_Some k j e in
    let P : PlainJudgment → Type 0 = λ x. x.time + length x.uses ≤ max (k.time + length k.uses) (most_of js) in subst P same (omega arith)
within_most (k ∷ js) (suc i) j e = let h = within_most js i j e in omega (arith, h)

-- Where all judgments follow, each has a value that its node means.
pub judgment_means : (T : Table) → IsInRange T → (b : Elements) (cs : List (Option Context)) (js : List PlainJudgment)
    → ((i : ℕ) → i < length js → FollowsIn T b cs js i)
    → (i : ℕ) (j : PlainJudgment) (c : Context) → slice_get js i ≡ Some j → context_in cs j.context ≡ Some c
    → NodeMeans (equations_of T) b (node_at T j.node) c j.time j.space j.value
judgment_means T range b cs js follow i j c there context = (
  i + 1 + most_of js,
  all_meant T range laws b cs js (most_of js) (length js) follow (λ k q l e. within_most js k q e) (length js) (omega arith) i
      (slice_get_within js i j there) j c there context,
)
