-- Ages, of which the last ones are 0 and lie nowhere.
use Rattle.lucid_store.proofs.Common.{◌≡◌, ℕ, zero, suc, ◌+◌, ◌-◌, ◌≤◌, ◌<◌, List, [], ◌∷◌, ◌++◌, length, map, take, Option, Some, None, slice_get, refl, sym, ap, subst, ◌∙◌, arith, slice_set, swap_remove, AllWithin, length-set, length-take-le, get_or_default, zeros, older, append-nil, length-map, get_or-take, get_or-set_other, get_or-set_same}
use Rattle.std.proofs.Common.{slice_index_or}
use Rattle.std.proofs.Common.{inl, inr}
use Rattle.std.proofs.lemmas.Bool.{cases_lt}
use Rattle.std.proofs.lemmas.List.{get_or_append_left}
use Rattle.std.proofs.lemmas.Option.{slice_get-get_or}
use Rattle.std.specs.Prelude.{◌≢◌, min, replicate}
use Rattle.lucid_store.specs.Ages.{IsLastOver}

pub length-zeros : (n : ℕ) → length (zeros n) ≡ n
length-zeros zero = refl
length-zeros (suc n) = ap suc (length-zeros n)

pub length-all : (ws : List ℕ) (n : ℕ) → length (ws ++ zeros n) ≡ length ws + n
length-all [] n = omega (arith, length-zeros n)
length-all (w ∷ ws) n = omega (arith, length-all ws n)

-- past those that are written stands 0
pub zero_past : (ws : List ℕ) (n i : ℕ) → length ws ≤ i → i < length ws + n → slice_get (ws ++ zeros n) i ≡ Some 0
zero_past [] zero i low high = absurd (omega (arith, high))
zero_past [] (suc n) zero low high = refl
zero_past [] (suc n) (suc i) low high = zero_past [] n i (omega arith) (omega (arith, high))
zero_past (w ∷ ws) n zero low high = absurd (omega (arith, low))
zero_past (w ∷ ws) n (suc i) low high = zero_past ws n i (omega (arith, low)) (omega (arith, high))

-- a 0 that is set where 0 stands changes nothing
pub set-zero : (xs : List ℕ) (i : ℕ) → slice_get xs i ≡ Some 0 → slice_set xs i 0 ≡ xs
set-zero [] i h = refl
set-zero (x ∷ xs) zero h = let same : 0 ≡ x = cc in ap (λ y. y ∷ xs) same
set-zero (x ∷ xs) (suc i) h = ap (λ ys. x ∷ ys) (set-zero xs i h)

pub set-written : (ws : List ℕ) (n i a : ℕ) → i < length ws → slice_set (ws ++ zeros n) i a ≡ slice_set ws i a ++ zeros n
set-written [] n i a h = absurd (omega (arith, h))
set-written (w ∷ ws) n zero a h = refl
set-written (w ∷ ws) n (suc i) a h = ap (λ ys. w ∷ ys) (set-written ws n i a (omega (arith, h)))

pub one-more : (ws : List ℕ) (n : ℕ) → ws ++ zeros (suc n) ≡ (ws ++ zeros n) ++ 0 ∷ []
one-more [] zero = refl
one-more [] (suc n) = ap (λ ys. 0 ∷ ys) (one-more [] n)
one-more (w ∷ ws) n = ap (λ ys. w ∷ ys) (one-more ws n)

pub last-goes : (ws : List ℕ) (n m : ℕ) → m ≡ length ws + n → take m (ws ++ zeros (suc n)) ≡ ws ++ zeros n
last-goes [] zero zero e = refl
last-goes [] zero (suc m) e = absurd (omega (arith, e))
last-goes [] (suc n) zero e = absurd (omega (arith, e))
last-goes [] (suc n) (suc m) e = ap (λ ys. 0 ∷ ys) (last-goes [] n m (omega (arith, e)))
last-goes (w ∷ ws) n zero e = absurd (omega (arith, e))
last-goes (w ∷ ws) n (suc m) e = ap (λ ys. w ∷ ys) (last-goes ws n m (omega (arith, e)))

pub read_or : (xs : List ℕ) (i a d : ℕ) → slice_get xs i ≡ Some a → slice_index_or xs i d ≡ a
read_or [] i a d h = cc
read_or (x ∷ xs) zero a d h = let same : x ≡ a = cc in same
read_or (x ∷ xs) (suc i) a d h = read_or xs i a d h

-- what each place has where the last one moved
pub moved-last : (old new : List ℕ) (i n d : ℕ) → new ≡ swap_remove old i 0 → length old ≡ n → i + 1 < n → slice_index_or new i d ≡ slice_index_or old (n - 1) d
moved-last old new i n d moved len less =
    let low : i < length old - 1 = omega (arith, len, less) in
    let within : i < length old = omega (arith, len, less) in
    let at : length old - 1 ≡ n - 1 = omega (arith, len) in
    let inside : length old - 1 < length old = omega (arith, len, less) in
    ap (λ l. slice_index_or l i d) moved
    ∙ get_or-take (length old - 1) (slice_set old i (slice_index_or old (length old - 1) 0)) i d low
    ∙ get_or-set_same old i (slice_index_or old (length old - 1) 0) d within
    ∙ get_or_default old (length old - 1) 0 d inside
    ∙ ap (λ k. slice_index_or old k d) at

pub moved-other : (old new : List ℕ) (i j n d : ℕ) → new ≡ swap_remove old i 0 → length old ≡ n → j ≢ i → j + 1 < n
    → slice_index_or new j d ≡ slice_index_or old j d
moved-other old new i j n d moved len other less =
    let low : j < length old - 1 = omega (arith, len, less) in
    ap (λ l. slice_index_or l j d) moved
    ∙ get_or-take (length old - 1) (slice_set old i (slice_index_or old (length old - 1) 0)) j d low
    ∙ get_or-set_other old i j (slice_index_or old (length old - 1) 0) d other

pub length-moved : (old : List ℕ) (i : ℕ) → 0 < length old → length (swap_remove old i 0) + 1 ≡ length old
length-moved old i some =
    let set = length-set old i (slice_index_or old (length old - 1) 0) in
    let cut : length (take (length old - 1) (slice_set old i (slice_index_or old (length old - 1) 0))) ≡ length old - 1 =
    length-take-le (length old - 1) _ (omega (arith, set)) in
    omega (arith, cut, some)

-- ---- the view of ages, of which so many are there

pub all-there : (ws now : List ℕ) (count : ℕ) → ws ++ zeros (count - length ws) ≡ now → length ws ≤ count → length now ≡ count
all-there ws now count view few = let len = length-all ws (count - length ws) in let same = ap length view in omega (arith, len, same, few)

pub added-view : (ws vs now : List ℕ) (count : ℕ) → ws ++ zeros (count - length ws) ≡ now → vs ≡ ws → length ws ≤ count
    → vs ++ zeros (count + 1 - length vs) ≡ now ++ 0 ∷ []
added-view ws vs now count view same few =
    let more : count + 1 - length ws ≡ suc (count - length ws) = omega (arith, few) in
    (λ i. same i ++ zeros (count + 1 - length (same i))) ∙ ap (λ k. ws ++ zeros k) more ∙ one-more ws (count - length ws) ∙ ap (λ l. l ++ 0 ∷ []) view

pub zero-there : (ws now : List ℕ) (count i : ℕ) → ws ++ zeros (count - length ws) ≡ now → length ws ≤ count → length ws ≤ i → i < count
    → slice_get now i ≡ Some 0
zero-there ws now count i view few low high = subst (λ l. slice_get l i ≡ Some 0) view (zero_past ws (count - length ws) i low (omega (arith, few, high)))

pub set-view : (ws vs now : List ℕ) (count i a : ℕ) → ws ++ zeros (count - length ws) ≡ now → i < length ws → vs ≡ slice_set ws i a
    → vs ++ zeros (count - length vs) ≡ slice_set now i a
set-view ws vs now count i a view low set =
    (λ j. set j ++ zeros (count - length (set j))) ∙ ap (λ k. slice_set ws i a ++ zeros (count - k)) (length-set ws i a)
    ∙ sym (set-written ws (count - length ws) i a low) ∙ ap (λ l. slice_set l i a) view

pub dropped-view : (ws now : List ℕ) (count : ℕ) → ws ++ zeros (count - length ws) ≡ now → length ws ≤ count - 1 → 0 < count
    → ws ++ zeros (count - 1 - length ws) ≡ take (length now - 1) now
dropped-view ws now count view few some =
    let len : length now ≡ count = all-there ws now count view (omega (arith, few)) in
    let more : count - length ws ≡ suc (count - 1 - length ws) = omega (arith, few, some) in
    let cut : length now - 1 ≡ length ws + (count - 1 - length ws) = omega (arith, len, few, some) in
    sym (ap (take (length now - 1)) (sym view ∙ ap (λ k. ws ++ zeros k) more) ∙ last-goes ws (count - 1 - length ws) (length now - 1) cut)

-- copies of 0 are ages of 0
pub zeros-copies : (n : ℕ) → replicate n 0 ≡ zeros n
zeros-copies zero = refl
zeros-copies (suc n) = ap (λ l. 0 ∷ l) (zeros-copies n)

-- all are written, and each has risen
pub raised-items : (ws fs rs now : List ℕ) (count : ℕ) → ws ++ zeros (count - length ws) ≡ now → fs ≡ ws ++ zeros (count - length ws) → rs ≡ map older fs
    → rs ≡ map older now
raised-items ws fs rs now count view filled raised = raised ∙ ap (map older) (filled ∙ view)

pub raised-length : (ws fs rs now : List ℕ) (count : ℕ) → ws ++ zeros (count - length ws) ≡ now → length ws ≤ count → fs ≡ ws ++ zeros (count - length ws)
    → rs ≡ map older fs → length rs ≡ count
raised-length ws fs rs now count view few filled raised =
    ap length (raised-items ws fs rs now count view filled raised) ∙ length-map now older ∙ all-there ws now count view few

pub raised-view : (ws fs rs now : List ℕ) (count : ℕ) → ws ++ zeros (count - length ws) ≡ now → length ws ≤ count → fs ≡ ws ++ zeros (count - length ws)
    → rs ≡ map older fs
    → rs ++ zeros (count - length rs) ≡ map older now
raised-view ws fs rs now count view few filled raised =
    let all = raised-length ws fs rs now count view few filled raised in
    let none : count - length rs ≡ 0 = omega (arith, all) in
    ap (λ k. rs ++ zeros k) none ∙ append-nil rs ∙ raised-items ws fs rs now count view filled raised

-- ---- the last age over a limit

-- what is found among the written ages is found among all
module _ (ws : List ℕ) (k limit end n : ℕ) (cut : n ≡ min end (length ws)) (few : end ≤ length ws + k) where
  low : n ≤ length ws
  low = omega (arith, cut)

  size : length (take n ws) ≡ n
  size = length-take-le n ws low

  same : (j d : ℕ) → j < n → slice_index_or (ws ++ zeros k) j d ≡ slice_index_or (take n ws) j d
  same j d less = get_or_append_left ws (zeros k) d j (omega (arith, low, less)) ∙ sym (get_or-take n ws j d less)

  -- behind the written ages stands 0
  young : (from : ℕ) → AllWithin (λ a. a ≤ limit) (take n ws) from (length (take n ws)) → AllWithin (λ a. a ≤ limit) (ws ++ zeros k) from end
  young from all j d above below = elim (cases_lt j n) [
    | inl less ↦ subst (λ a. a ≤ limit) (sym (same j d less)) (all j d above (omega (arith, size, less)))
    | inr past ↦
        let none : slice_index_or (ws ++ zeros k) j d ≡ 0 =
        read_or (ws ++ zeros k) j 0 d (zero_past ws k j (omega (arith, cut, past, below)) (omega (arith, few, below))) in
        subst (λ a. a ≤ limit) (sym none) (omega arith)
  ]

  pub over_there : (found : Option ℕ) → IsLastOver limit (take n ws) (length (take n ws)) found → IsLastOver limit (ws ++ zeros k) end found
  over_there None all = young 0 all
  over_there (Some index) is =
      let inside : index < n = (let before = is.before in omega (arith, size, before)) in
      let all = length-all ws k in
      record {
        age = is.age;
        here = slice_get-get_or (ws ++ zeros k) index 0 (omega (arith, inside, low, all))
            ∙ ap Some (same index 0 inside ∙ read_or (take n ws) index is.age 0 is.here);
        over = is.over;
        before = omega (arith, inside, cut);
        later = young (index + 1) is.later;
      }
