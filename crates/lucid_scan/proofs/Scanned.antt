-- One token more.
use Rattle.lucid_scan.proofs.Common.{◌≡◌, ℕ, ◌+◌, ◌≤◌, ◌<◌, List, [], ◌∷◌, ◌++◌, length, drop, sym, ◌∙◌, ap, subst, arith, append_assoc, length-drop, drop-drop, Token, TokenKind, gap, token, IsLongest, NoneStands, Tokens, tokens_end, tokens_next, Stuck, stuck_here, stuck_next, append-nil}

abbrev pub GoesOn : List ℕ → ℕ → List Token → Type 0
GoesOn source at before = (ts : List Token) → Tokens (drop at source) at ts → Tokens source 0 (before ++ ts)

abbrev pub GetsStuck : List ℕ → ℕ → Type 0
GetsStuck source at = (place : ℕ) (rest : List ℕ) → Stuck (drop at source) at place rest → Stuck source 0 place rest

module _ (source : List ℕ) (at n : ℕ) (k : TokenKind) where
  there : (g : ℕ) → IsLongest (drop (at + g) source) k n → IsLongest (drop g (drop at source)) k n
  there g = subst (λ l. IsLongest l k n) (sym (drop-drop g at source))

  rest : (g : ℕ) → drop ((at + g) + n) source ≡ drop n (drop g (drop at source))
  rest g = sym (ap (drop n) (drop-drop g at source) ∙ drop-drop n (at + g) source)

  onto : (g : ℕ) → gap (drop at source) ≡ g → (before items : List Token) → IsLongest (drop (at + g) source) k n
      → items ≡ before ++ token k (at + g) ((at + g) + n) ∷ [] → GoesOn source at before → GoesOn source ((at + g) + n) items
  onto g e = subst (λ h. (before items : List Token) → IsLongest (drop (at + h) source) k n
      → items ≡ before ++ token k (at + h) ((at + h) + n) ∷ [] → GoesOn source at before → GoesOn source ((at + h) + n) items) e
      (λ before items longest is goes ts more.
      let h = gap (drop at source) in
      subst (Tokens source 0) (sym (ap (λ l. l ++ ts) is ∙ append_assoc before (token k (at + h) ((at + h) + n) ∷ []) ts))
      (goes (token k (at + h) ((at + h) + n) ∷ ts)
      (tokens_next k n (there h longest) (subst (λ l. Tokens l ((at + h) + n) ts) (rest h) more))))

  stuck_onto : (g : ℕ) → gap (drop at source) ≡ g → IsLongest (drop (at + g) source) k n → GetsStuck source at → GetsStuck source ((at + g) + n)
  stuck_onto g e = subst (λ h. IsLongest (drop (at + h) source) k n → GetsStuck source at → GetsStuck source ((at + h) + n)) e
      (λ longest gets place more stuck.
      let h = gap (drop at source) in
      gets place more (stuck_next k n (there h longest) (subst (λ l. Stuck l ((at + h) + n) place more) (rest h) stuck)))

pub goes_on : (source : List ℕ) (at g n : ℕ) (k : TokenKind) (before items : List Token) → g ≡ gap (drop at source) → IsLongest (drop (at + g) source) k n
    → items ≡ before ++ token k (at + g) ((at + g) + n) ∷ [] → GoesOn source at before → GoesOn source ((at + g) + n) items
goes_on source at g n k before items e = onto source at n k g (sym e) before items

pub gets_stuck : (source : List ℕ) (at g n : ℕ) (k : TokenKind) → g ≡ gap (drop at source) → IsLongest (drop (at + g) source) k n → GetsStuck source at
    → GetsStuck source ((at + g) + n)
gets_stuck source at g n k e = stuck_onto source at n k g (sym e)

-- the end
pub over : (source : List ℕ) (at g : ℕ) (before : List Token) → g ≡ gap (drop at source) → at ≤ length source → length source ≤ at + g → GoesOn source at before
    → Tokens source 0 before
over source at g before e h k goes =
    subst (Tokens source 0) (append-nil before) (goes [] (tokens_end (omega (arith, length-drop at source, e, h, k))))

-- where nothing stands
pub stops : (source : List ℕ) (at g : ℕ) → g ≡ gap (drop at source) → at + g < length source → NoneStands (drop (at + g) source) → GetsStuck source at
    → Stuck source 0 (at + g) (drop (at + g) source)
stops source at g e = subst (λ h. at + h < length source → NoneStands (drop (at + h) source) → GetsStuck source at
    → Stuck source 0 (at + h) (drop (at + h) source)) (sym e)
    (λ within none gets.
    let h = gap (drop at source) in
    subst (Stuck source 0 (at + h)) (drop-drop h at source)
    (gets (at + h) (drop h (drop at source))
    (stuck_here (omega (arith, length-drop at source, within)) (subst NoneStands (sym (drop-drop h at source)) none))))
