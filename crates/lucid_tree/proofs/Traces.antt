-- What a plan sees grows with what is decided, with what its looks see, and with the approximation.
use Rattle.lucid_tree.proofs.Common.{◌≡◌, ℕ, List, [], ◌∷◌, Option, Some, None, refl, nat_le, PlainValue, Inside, Look, Plan, Reader, all_values, with_values, gather, trace}
use Rattle.std.proofs.Common.{true}
use Rattle.lucid_tree.proofs.Members.{inside-append, inside-if}
use Rattle.lucid_tree.proofs.Plans.{Within, from_nothing, same_value, same_looks, Keeps, all_values-keeps}

-- the looks that m takes are looks that n takes
abbrev pub TakesMore : (m n : ℕ) → Type 0
TakesMore m n = (l : ℕ) → nat_le l m ≡ true → nat_le l n ≡ true

pub gather-inside : {A : Type 0} (m n : ℕ) (see see' : Reader (List A)) → TakesMore m n → ((i t s : ℕ) → Inside (see i t s) (see' i t s)) → (ls : List Look)
    → Inside (gather m see ls) (gather n see' ls)
gather-inside m n see see' h k [] x i = i
gather-inside m n see see' h k (l ∷ ls) x i =
    inside-append _ _ _ _ (inside-if (nat_le l.least m) (nat_le l.least n) _ _ (h l.least) (k l.part l.time l.space)) (gather-inside m n see see' h k ls) x i

later-inside : {A : Type 0} (o o' : Option (List PlainValue)) (f f' : List PlainValue → List A) → Keeps o o' → ((vs : List PlainValue) → Inside (f vs) (f' vs))
    → Inside (with_values o [] f) (with_values o' [] f')
later-inside None o' f f' h k x i = absurd i
later-inside (Some vs) o' f f' h k x i = rw (h vs refl) (k vs x i)

-- a plan that goes on further, with more that is decided and more that is seen
pub trace-inside : {A : Type 0} (m n : ℕ) {p q : Plan} → Within p q → (d d' : Reader (Option PlainValue)) (see see' : Reader (List A)) → TakesMore m n
    → ((i t s : ℕ) → Keeps (d i t s) (d' i t s)) → ((i t s : ℕ) → Inside (see i t s) (see' i t s)) → Inside (trace m p d see) (trace n q d' see')
trace-inside m n from_nothing d d' see see' h k w x i = absurd i
trace-inside m n same_value d d' see see' h k w x i = absurd i
trace-inside m n (same_looks {ls = ls} {k = c} {k' = c'} g) d d' see see' h k w x i =
    inside-append _ _ _ _ (gather-inside m n see see' h w ls)
    (later-inside (all_values d ls) (all_values d' ls) (λ vs. trace m (c vs) d see) (λ vs. trace n (c' vs) d' see') (all_values-keeps d d' k ls)
    (λ vs. trace-inside m n (g vs) d d' see see' h k w)) x i
