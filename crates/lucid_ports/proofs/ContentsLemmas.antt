-- Bytes that are consumed one piece after another.
use Rattle.lucid_ports.proofs.Common.{◌≡◌, ℕ, ◌+◌, ◌<◌, ◌≤◌, List, [], ◌++◌, take, drop, length, Option, None, Some, IfSome, option_map, refl, sym, ap, subst, ◌∙◌, append_assoc, arith, take_all, take-add, drop-drop, Contents, advanced}
use Rattle.std.proofs.Common.{length-drop}

pub advanced-advanced : (n m : ℕ) (c : Contents) → advanced m (advanced n c) ≡ advanced (n + m) c
advanced-advanced n m c =
    let bytes = append_assoc c.consumed (take n c.left) (take m (drop n c.left)) in
    cc (bytes, take-add n m c.left, drop-drop m n c.left)

map_advanced-advanced : (n m : ℕ) (o : Option Contents) → option_map (advanced m) (option_map (advanced n) o) ≡ option_map (advanced (n + m)) o
map_advanced-advanced n m None = refl
map_advanced-advanced n m (Some c) = ap Some (advanced-advanced n m c)

-- n bytes are consumed, and then m more
pub both_consumed : (n m k : ℕ) (o p q : Option Contents) → p ≡ option_map (advanced n) o → k ≡ n + m → q ≡ option_map (advanced m) p
    → q ≡ option_map (advanced k) o
both_consumed n m k o p q first sum second = cc (map_advanced-advanced n m o)

-- what was read goes on with what is read next
pub both_read : (n m k : ℕ) (o p : Option Contents) (xs ys : List ℕ) → p ≡ option_map (advanced n) o → k ≡ n + m
    → IfSome o (λ c. xs ≡ take n c.left) → IfSome p (λ c. ys ≡ xs ++ take m c.left) → IfSome o (λ c. ys ≡ take k c.left)
both_read n m k None p xs ys first sum front back = tt
both_read n m k (Some c) p xs ys first sum front back =
    let more = subst (λ q. IfSome q (λ c. ys ≡ xs ++ take m c.left)) first back in
    cc (take-add n m c.left)

-- what was read is all, since no more was found where there was room for some
pub all_read : (n most found room : ℕ) (o p : Option Contents) (xs : List ℕ) → p ≡ option_map (advanced n) o → n ≤ most
    → IfSome o (λ c. xs ≡ take n c.left) → found ≡ 0 → 0 < room → IfSome p (λ c. found ≡ 0 → 0 < room → c.left ≡ [])
    → IfSome o (λ c. xs ≡ take most c.left)
all_read n most found room None p xs first within front none some end = tt
all_read n most found room (Some c) p xs first within front none some end =
    let ended = subst (λ q. IfSome q (λ c. found ≡ 0 → 0 < room → c.left ≡ [])) first end none some in
    let short : length c.left ≤ n = omega (arith, length-drop n c.left, ap length ended) in
    front ∙ take_all n c.left short ∙ sym (take_all most c.left (omega arith))
