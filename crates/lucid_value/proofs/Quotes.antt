-- Bytes that don't stand between two quotes.
use Rattle.lucid_value.proofs.Common.{◌≡◌, ◌≢◌, ℕ, List, [], ◌∷◌, ◌++◌, sym, ap, ◌∙◌, reverse, reverse-append, reverse-reverse, IsUnquoted}

no_snoc : (xs : List ℕ) (x : ℕ) → [] ≡ xs ++ x ∷ [] → ⊥
no_snoc [] x e = cc
no_snoc (y ∷ xs) x e = cc

pub last_is : (xs ys : List ℕ) (x y : ℕ) → xs ++ x ∷ [] ≡ ys ++ y ∷ [] → x ≡ y
last_is xs ys x y e =
    let k : x ∷ reverse xs ≡ y ∷ reverse ys = sym (reverse-append xs (x ∷ [])) ∙ ap reverse e ∙ reverse-append ys (y ∷ []) in cc

pub front_is : (xs ys : List ℕ) (x y : ℕ) → xs ++ x ∷ [] ≡ ys ++ y ∷ [] → xs ≡ ys
front_is xs ys x y e =
    let k : x ∷ reverse xs ≡ y ∷ reverse ys = sym (reverse-append xs (x ∷ [])) ∙ ap reverse e ∙ reverse-append ys (y ∷ []) in
    let m : reverse xs ≡ reverse ys = cc in
    sym (reverse-reverse xs) ∙ ap reverse m ∙ reverse-reverse ys

pub no_quotes_nil : (bytes : List ℕ) → bytes ≡ [] → IsUnquoted bytes
no_quotes_nil bytes e = λ inner k. cc

pub no_quotes_one : (bytes : List ℕ) (first : ℕ) → bytes ≡ first ∷ [] → IsUnquoted bytes
no_quotes_one bytes first e = λ inner k. let m : [] ≡ inner ++ 39 ∷ [] = cc in no_snoc inner 39 m

pub no_first_quote : (bytes : List ℕ) (first : ℕ) (rest : List ℕ) → bytes ≡ first ∷ rest → first ≢ 96 → IsUnquoted bytes
no_first_quote bytes first rest e n = λ inner k. n cc

pub no_last_quote : (bytes : List ℕ) (first : ℕ) (rest inner : List ℕ) (last : ℕ) → bytes ≡ first ∷ rest → rest ≡ inner ++ last ∷ [] → last ≢ 39
    → IsUnquoted bytes
no_last_quote bytes first rest inner last e f n = λ other k.
    let m : inner ++ last ∷ [] ≡ other ++ 39 ∷ [] = cc in n (last_is inner other last 39 m)
