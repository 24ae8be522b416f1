-- What stands side by side, and the front of it.
use Rattle.lucid_show_drawing.proofs.Common.{◌≡◌, ◌≢◌, ℕ, zero, suc, ◌+◌, ◌<◌, List, [], ◌∷◌, length, get_or, take, drop, Some, sym, ap, ◌∙◌, arith, All, slice_get, get_or-drop, get_or-take, length-take, length-drop}
use Rattle.lucid_show_drawing.specs.declared.asked.Asked.{Asked}
use Rattle.lucid_show_drawing.specs.Orders.{AreFront, RowsTogether, SideBySide, StandTogether}

module _ {X K : Type 0} (key : X → K) where
  in_drop : (n : ℕ) (xs : List X) (i : ℕ) (d : X) → key (get_or (drop n xs) i d) ≡ key (get_or xs (n + i) d)
  in_drop n xs i d = ap key (get_or-drop n xs i d)

  in_take : (n : ℕ) (xs : List X) (i : ℕ) (d : X) → i < n → key (get_or (take n xs) i d) ≡ key (get_or xs i d)
  in_take n xs i d h = ap key (get_or-take n xs i d h)

  within_drop : (n : ℕ) (xs : List X) (i : ℕ) → i < length (drop n xs) → n + i < length xs
  within_drop n xs i h = omega (arith, length-drop n xs)

  within_take : (n : ℕ) (xs : List X) (i : ℕ) → i < length (take n xs) → i < n
  within_take n xs i h = omega (arith, length-take n xs)

  within_all : (n : ℕ) (xs : List X) (i : ℕ) → i < length (take n xs) → i < length xs
  within_all n xs i h = omega (arith, length-take n xs)

  pub SideBySide-drop : (n : ℕ) (xs : List X) → SideBySide key xs → SideBySide key (drop n xs)
  SideBySide-drop n xs h i j k d ij jk in' same =
      in_drop n xs j d ∙ h (n + i) (n + j) (n + k) d (omega arith) (omega arith) (within_drop n xs k in') (sym (in_drop n xs i d) ∙ same ∙ in_drop n xs k d)
      ∙ sym (in_drop n xs k d)

  -- nothing behind the front has its key
  pub behind_front : (xs : List X) (k : K) (n : ℕ) → SideBySide key xs → AreFront key xs k n → 0 < n → All (λ (x : X). key x ≢ k) (drop n xs)
  behind_front xs k n h front some i d in' same =
      let far : n + i < length xs = within_drop n xs i in' in
      let at_end : key (get_or xs n d) ≡ k =
      h 0 n (n + i) d (omega arith) (omega arith) far (front.same 0 d some ∙ sym same ∙ in_drop n xs i d) ∙ sym (in_drop n xs i d) ∙ same in
      front.ends d (omega arith) at_end

  pub front_same : (xs : List X) (k : K) (n : ℕ) → AreFront key xs k n → All (λ (x : X). key x ≡ k) (take n xs)
  front_same xs k n front i d in' = in_take n xs i d (within_take n xs i in') ∙ front.same i d (within_take n xs i in')

  -- what has the key of the first is more than nothing
  pub some_front : (xs : List X) (n : ℕ) (first : X) → slice_get xs 0 ≡ Some first → AreFront key xs (key first) n → 0 < n
  some_front [] n first at front = absurd (cc)
  some_front (x ∷ xs) zero first at front = let is : x ≡ first = cc in absurd (front.ends x (omega arith) (ap key is))
  some_front (x ∷ xs) (suc n) first at front = omega arith

pub StandTogether-drop : (n : ℕ) (xs : List Asked) → StandTogether xs → StandTogether (drop n xs)
StandTogether-drop n xs h = record {
  contexts = SideBySide-drop (λ (a : Asked). a.spot.context) n xs h.contexts;
  rows = λ i j k d ij jk in' same_context same_row.
      in_drop (λ (a : Asked). a.spot.row) n xs j d
      ∙ h.rows (n + i) (n + j) (n + k) d (omega arith) (omega arith) (within_drop (λ (a : Asked). a.spot.row) n xs k in')
      (sym (in_drop (λ (a : Asked). a.spot.context) n xs i d) ∙ same_context ∙ in_drop (λ (a : Asked). a.spot.context) n xs k d)
      (sym (in_drop (λ (a : Asked). a.spot.row) n xs i d) ∙ same_row ∙ in_drop (λ (a : Asked). a.spot.row) n xs k d)
      ∙ sym (in_drop (λ (a : Asked). a.spot.row) n xs k d);
}

-- in the front, which is of one context, rows stand side by side
pub front_rows : (n c : ℕ) (xs : List Asked) → StandTogether xs → All (λ (a : Asked). a.spot.context ≡ c) (take n xs) → RowsTogether (take n xs)
front_rows n c xs h same i j k d ij jk in' same_row =
    let kn : k < n = within_take (λ (a : Asked). a.spot.row) n xs k in' in
    in_take (λ (a : Asked). a.spot.row) n xs j d (omega arith)
    ∙ h.rows i j k d ij jk (within_all (λ (a : Asked). a.spot.row) n xs k in')
    (sym (in_take (λ (a : Asked). a.spot.context) n xs i d (omega arith)) ∙ same i d (omega arith) ∙ sym (same k d in') ∙ in_take (λ (a : Asked). a.spot.context) n xs k d kn)
    (sym (in_take (λ (a : Asked). a.spot.row) n xs i d (omega arith)) ∙ same_row ∙ in_take (λ (a : Asked). a.spot.row) n xs k d kn)
    ∙ sym (in_take (λ (a : Asked). a.spot.row) n xs k d kn)
