-- Bytes between an opening and a closing byte.
use Rattle.lucid_scan.proofs.Common.{◌≡◌, ℕ, suc, ◌+◌, ◌≤◌, List, [], ◌∷◌, ◌++◌, length, take, drop, get_or, Bool, true, false, eqb, refl, sym, ◌∙◌, ap, subst, arith, append_assoc, length-append, list_all, prefix_len, eqb-true, take-append-drop, take_more, take-append_seam, first_passes, IsBetween, Closed, length-take-le}
use Rattle.lucid_scan.proofs.Runs.{run_is}

get_or-seam : (xs ys : List ℕ) (y : ℕ) → get_or (xs ++ y ∷ ys) (length xs) 0 ≡ y
get_or-seam [] ys y = refl
get_or-seam (x ∷ xs) ys y = get_or-seam xs ys y

module _ (opening closing : ℕ) (test : List ℕ → Bool) where
  closed_here : (inside rest : List ℕ) → test inside ≡ true → Closed closing test (inside ++ closing ∷ rest) (length inside)
  closed_here inside rest h = record {
    within = omega (arith, length-append inside (closing ∷ rest));
    closes = get_or-seam inside rest closing;
    tested = ap test (take-append_seam inside (closing ∷ rest)) ∙ h;
  }

  shape : (bytes inside : List ℕ) (m : ℕ) → take m bytes ≡ opening ∷ (inside ++ closing ∷ []) → bytes ≡ opening ∷ (inside ++ closing ∷ drop m bytes)
  shape bytes inside m e =
      sym (take-append-drop m bytes) ∙ ap (λ l. l ++ drop m bytes) e ∙ ap (λ l. opening ∷ l) (append_assoc inside (closing ∷ []) (drop m bytes))

  len : (bytes inside : List ℕ) (m : ℕ) → m ≤ length bytes → take m bytes ≡ opening ∷ (inside ++ closing ∷ []) → m ≡ length inside + 2
  len bytes inside m h e = omega (arith, length-take-le m bytes h, ap length e, length-append inside (closing ∷ []))

  module _ (p : ℕ → Bool) (ends : p closing ≡ false) (runs : (t : List ℕ) → test t ≡ true → list_all p t ≡ true) where
    -- what stands between is the whole run of bytes that may stand there
    pub closed : (bytes : List ℕ) (m : ℕ) → m ≤ length bytes → IsBetween opening closing test (take m bytes)
        → (m ≡ prefix_len p (drop 1 bytes) + 2) × Closed closing test (drop 1 bytes) (prefix_len p (drop 1 bytes))
    closed bytes m h (inside, e, ok) =
        let rest = drop m bytes in
        let run : prefix_len p (drop 1 bytes) ≡ length inside = ap (λ l. prefix_len p (drop 1 l)) (shape bytes inside m e)
        ∙ run_is p inside (closing ∷ rest) (runs inside ok) ends in
        let there : Closed closing test (drop 1 bytes) (length inside) =
        subst (λ l. Closed closing test (drop 1 l) (length inside)) (sym (shape bytes inside m e)) (closed_here inside rest ok) in
        (len bytes inside m h e ∙ ap (λ n. n + 2) (sym run), subst (Closed closing test (drop 1 bytes)) (sym run) there)

  pub between : (bytes : List ℕ) (n : ℕ) → first_passes (λ b. eqb b opening) bytes ≡ true → Closed closing test (drop 1 bytes) n
      → (n + 2 ≤ length bytes) × IsBetween opening closing test (take (n + 2) bytes)
  between [] n f c = cc
  between (b ∷ xs) n f c =
      let two : n + 2 ≡ suc (n + 1) = omega arith in (
        omega (arith, c.within),
        (
          take n xs,
          ap (λ i. take i (b ∷ xs)) two
              ∙ ap (λ l. b ∷ l) (take_more xs n 0 c.within ∙ ap (λ y. take n xs ++ y ∷ []) c.closes)
              ∙ ap (λ y. y ∷ (take n xs ++ closing ∷ [])) (eqb-true b opening f),
          c.tested,
        ),
      )
