-- A piece that is written in parts, and pieces one behind the other.
use Rattle.lucid_ports.proofs.Common.{◌≡◌, ℕ, ◌+◌, List, ◌++◌, take, drop, Option, None, Some, refl, sym, ap, ◌∙◌, append_assoc, take-add, [], length, with_front, append-nil, take-append-add, suc, subst, Result, Ok}
use Rattle.lucid_ports.specs.Writing.{Writes, with_all}
use Rattle.lucid_ports.specs.declared.fault.PortFault.{PortFault}

-- the first n bytes, and then m of the rest
with_front-with_front : (n m : ℕ) (piece : List ℕ) (o : Option (List ℕ)) → with_front m (drop n piece) (with_front n piece o) ≡ with_front (n + m) piece o
with_front-with_front n m piece None = refl
with_front-with_front n m piece (Some bytes) =
    ap Some (append_assoc bytes (take n piece) (take m (drop n piece)) ∙ ap (λ front. bytes ++ front) (sym (take-add n m piece)))

pub both_written : (n m k : ℕ) (piece rest : List ℕ) (o p q : Option (List ℕ)) → rest ≡ drop n piece → k ≡ n + m → p ≡ with_front n piece o
    → q ≡ with_front m rest p → q ≡ with_front k piece o
both_written n m k piece rest o p q same sum first second =
    second ∙ ap (λ r. with_front m r p) same ∙ ap (with_front m (drop n piece)) first ∙ with_front-with_front n m piece o
    ∙ ap (λ i. with_front i piece o) (sym sum)

-- the empty piece changes nothing
pub with_nothing : (o : Option (List ℕ)) → o ≡ with_all [] o
with_nothing None = refl
with_nothing (Some bytes) = ap Some (sym (append-nil bytes))

-- two whole pieces are one
pub all_all : (a b : List ℕ) (o : Option (List ℕ)) → with_all b (with_all a o) ≡ with_all (a ++ b) o
all_all a b None = refl
all_all a b (Some bytes) = ap Some (append_assoc bytes a b)

-- a whole piece and a front of the next are a front of both
pub front_all : (n : ℕ) (a b : List ℕ) (o : Option (List ℕ)) → with_front n b (with_all a o) ≡ with_front (length a + n) (a ++ b) o
front_all n a b None = refl
front_all n a b (Some bytes) = ap Some (append_assoc bytes a (take n b) ∙ ap (λ front. bytes ++ front) (sym (take-append-add a b n)))

-- one write more that doesn't fail
pub writes_more : {K : Type 0} (gives : K → List ℕ → Result ℕ PortFault → K → Type 0) (n : ℕ) (old middle new : K) (piece : List ℕ) (r : Result ℕ PortFault)
    (taken : ℕ) → Writes gives n old middle → gives middle piece r new → r ≡ Ok taken → (m : ℕ) × Writes gives m old new
writes_more gives n old middle new piece r taken so wrote is = (suc n, (middle, piece, taken, so, subst (λ q. gives middle piece q new) is wrote))
