-- The value of digits grows with each digit.
use Rattle.lucid_scan.proofs.Common.{◌≡◌, ℕ, ◌+◌, ◌-◌, ◌^◌, ◌≤◌, ◌<◌, List, [], ◌∷◌, ◌++◌, length, take, drop, get_or, sym, ◌∙◌, ap, arith, length-append, take_more, take-append-drop, number_of, ◌*◌, one-le-pow, mul-le-mul_left, pow-add}

expand : (c a b n m p : ℕ) → p ≡ a * b → c * p + (n * b + m) ≡ (c * a + n) * b + m
expand c a b n m p e = ap (λ q. c * q + (n * b + m)) e ∙ omega arith

number_of-append : (xs ys : List ℕ) → number_of (xs ++ ys) ≡ number_of xs * 10 ^ length ys + number_of ys
number_of-append [] ys = omega arith
number_of-append (x ∷ xs) ys =
    let places : 10 ^ length (xs ++ ys) ≡ 10 ^ length xs * 10 ^ length ys = ap (λ n. 10 ^ n) (length-append xs ys) ∙ pow-add 10 (length xs) (length ys) in
    ap (λ n. (x - 48) * 10 ^ length (xs ++ ys) + n) (number_of-append xs ys)
    ∙ expand (x - 48) (10 ^ length xs) (10 ^ length ys) (number_of xs) (number_of ys) (10 ^ length (xs ++ ys)) places

pub number_more : (t : List ℕ) (i d : ℕ) → i < length t → number_of (take (i + 1) t) ≡ 10 * number_of (take i t) + (get_or t i d - 48)
number_more t i d h =
    let step = number_of-append (take i t) (get_or t i d ∷ []) in
    ap number_of (take_more t i d h) ∙ omega (arith, step)

-- what the first digits write is at most what all write
number_front : (t : List ℕ) (i : ℕ) → number_of (take i t) ≤ number_of t
number_front t i =
    let x = number_of (take i t) in
    let all : number_of t ≡ x * 10 ^ length (drop i t) + number_of (drop i t) =
    ap number_of (sym (take-append-drop i t)) ∙ number_of-append (take i t) (drop i t) in
    let more : x * 1 ≤ x * 10 ^ length (drop i t) = mul-le-mul_left x (one-le-pow (length (drop i t)) 10 (omega arith)) in
    omega (arith, all, more)

pub number_over : (t : List ℕ) (i d : ℕ) → i < length t → 2 ^ 127 ≤ 10 * number_of (take i t) + (get_or t i d - 48) → number_of t < 2 ^ 127 → ⊥
number_over t i d h big small = omega (arith, number_more t i d h, number_front t (i + 1), big, small)
