-- From a place on to a later one in the same line the bytes since the last line end grow by one for each byte.
use Rattle.lucid_explain_places.proofs.Common.{◌≡◌, ℕ, zero, suc, ◌+◌, ◌≤◌, ◌<◌, List, Bool, true, false, length, take, get_or, refl, subst, arith, ◌-◌, suffix_len, count_by_more_no, count_by_more_yes, suffix_len-take_yes, common_steps}
use Rattle.lucid_explain_places.specs.Positions.{ends_line, stands_in_line, line_of, column_of}

-- what one byte more does to the line and the column
record Step (s : List ℕ) (n m : ℕ) : Type 0 where
  line : line_of s n ≤ line_of s m
  column : line_of s n ≡ line_of s m → column_of s m + n ≡ column_of s n + m

one_more : (s : List ℕ) (n : ℕ) (b : Bool) → n < length s → ends_line (get_or s n 0) ≡ b → Step s n (n + 1)
one_more s n true h e = let f = count_by_more_yes ends_line s n 0 h e in record { line = omega arith; column = λ same. absurd (omega arith) }
one_more s n false h e =
    let f = count_by_more_no ends_line s n 0 h e in
    let g : suffix_len stands_in_line (take (n + 1) s) ≡ 1 + suffix_len stands_in_line (take n s) =
    grind (arith, common_steps, suffix_len-take_yes stands_in_line s (n + 1) 0, e) in
    record { line = omega arith; column = λ same. omega arith }

grows : (s : List ℕ) (n k : ℕ) → n + k ≤ length s → Step s n (n + k)
grows s n zero h = record { line = grind arith; column = λ same. grind arith }
grows s n (suc k) h =
    let before = grows s n k (omega arith) in
    let last = one_more s (n + k) (ends_line (get_or s (n + k) 0)) (omega arith) refl in
    let e : n + k + 1 ≡ n + suc k = omega arith in
    let both : Step s n (n + k + 1) = record {
      line = omega (arith, before.line, last.line);
      column = λ same.
          let p : line_of s n ≡ line_of s (n + k) = omega (arith, before.line, last.line) in
          let q : line_of s (n + k) ≡ line_of s (n + k + 1) = omega (arith, before.line, last.line) in
          omega (arith, before.column p, last.column q);
    } in
    let P : ℕ → Type 0 = λ m. Step s n m in
    subst P e both

-- of two places with one line and one column the first is no less than the second
pub one_place : (s : List ℕ) (n m : ℕ) → n ≤ m → m ≤ length s → line_of s n ≡ line_of s m → column_of s n ≡ column_of s m → n ≡ m
one_place s n m h small same alike =
    let e : n + (m - n) ≡ m = omega arith in
    let P : ℕ → Type 0 = λ j. Step s n j in
    let step = subst P e (grows s n (m - n) (omega arith)) in
    omega (arith, step.column same)
