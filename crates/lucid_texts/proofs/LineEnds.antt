-- The whole lines of bytes.
use Rattle.lucid_texts.proofs.Common.{◌≡◌, ℕ, ◌+◌, suc, Bool, true, false, cond, List, [], ◌∷◌, ◌++◌, take, drop, length, refl, sym, ap, ◌∙◌, arith, append_assoc, ◌==◌, AllByRecursion, onto_first, slice_split_none, slice_split_at, Lacks, ended, text_of, whole_lines, zero, slice_split}
use Rattle.lucid_texts.specs.TextLines.{all_but_last}
use Rattle.lucid_texts.proofs.Bytes.{has_none}

-- the parts of bytes at their line ends: there is one at least
data Parts : List (List ℕ) → Type 0 where
  parts : (x : List ℕ) (xs : List (List ℕ)) → Parts (x ∷ xs)

onto_parts : (b : ℕ) (xs : List (List ℕ)) → Parts (onto_first b xs)
onto_parts b [] = parts (b ∷ []) []
onto_parts b (x ∷ xs) = parts (b ∷ x) xs

cond_parts : (t : Bool) (b : ℕ) (xs : List (List ℕ)) → Parts (cond t ([] ∷ xs) (onto_first b xs))
cond_parts true b xs = parts [] xs
cond_parts false b xs = onto_parts b xs

split_parts : (bs : List ℕ) → Parts (slice_split (λ b. b == 10) bs)
split_parts [] = parts [] []
split_parts (b ∷ bs) = cond_parts (b == 10) b (slice_split (λ b. b == 10) bs)

but_last : (w : List ℕ) (xs : List (List ℕ)) → Parts xs → all_but_last (w ∷ xs) ≡ w ∷ all_but_last xs
but_last w _ (parts x xs) = refl

-- a line that is ended is whole
pub whole_more : (w rest : List ℕ) → Lacks 10 w → whole_lines (w ++ 10 ∷ rest) ≡ w ∷ whole_lines rest
whole_more w rest h = ap all_but_last (slice_split_at _ w 10 rest (has_none 10 w h) refl) ∙ but_last w _ (split_parts rest)

-- bytes without a line end are no whole line
pub whole_none : (bs : List ℕ) → Lacks 10 bs → whole_lines bs ≡ []
whole_none bs h = ap all_but_last (slice_split_none _ bs (has_none 10 bs h))

-- lines that are ended are the whole lines in front of those behind them
pub whole-append : (ls : List (List ℕ)) (rest : List ℕ) → AllByRecursion (Lacks 10) ls → whole_lines (text_of ls ++ rest) ≡ ls ++ whole_lines rest
whole-append [] rest h = refl
whole-append (l ∷ ls) rest h =
    ap whole_lines (append_assoc (ended l) (text_of ls) rest ∙ append_assoc l (10 ∷ []) (text_of ls ++ rest))
    ∙ (whole_more l (text_of ls ++ rest) h.0 ∙ ap (λ (xs : List (List ℕ)). l ∷ xs) (whole-append ls rest h.1))

-- a list in two
pub split_at : {A : Type 0} (n : ℕ) (xs : List A) → xs ≡ take n xs ++ drop n xs
split_at zero xs = refl
split_at (suc n) [] = refl
split_at (suc n) (x ∷ xs) = ap (λ (ys : List _). x ∷ ys) (split_at n xs)

pub take_front : {A : Type 0} (xs ys : List A) → take (length xs) (xs ++ ys) ≡ xs
take_front [] ys = refl
take_front (x ∷ xs) ys = ap (λ (zs : List _). x ∷ zs) (take_front xs ys)

pub take_one_more : {A : Type 0} (xs : List A) (y : A) (ys : List A) → take (length xs + 1) (xs ++ y ∷ ys) ≡ xs ++ y ∷ []
take_one_more [] y ys = refl
take_one_more (x ∷ xs) y ys =
    let e : suc (length xs) + 1 ≡ suc (length xs + 1) = omega arith in rw e (ap (λ (zs : List _). x ∷ zs) (take_one_more xs y ys))

-- nothing is behind what is all
pub none_behind : (xs ys : List ℕ) → xs ++ ys ≡ xs → ys ≡ []
none_behind [] ys e = e
none_behind (x ∷ xs) ys e = none_behind xs ys (cc)

-- the texts of lines, one after the other
pub ended-append : (xs ys : List (List ℕ)) → text_of (xs ++ ys) ≡ text_of xs ++ text_of ys
ended-append [] ys = refl
ended-append (x ∷ xs) ys = ap (λ (zs : List ℕ). ended x ++ zs) (ended-append xs ys) ∙ sym (append_assoc (ended x) (text_of xs) (text_of ys))
