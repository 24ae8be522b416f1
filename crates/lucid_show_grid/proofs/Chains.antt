-- Texts that are appended one after another.
use Rattle.std.proofs.Common.{◌≡◌, ℕ, List, ◌++◌, ap, ◌∙◌, append_assoc}

-- what is appended to a text that a text was appended to
pub written2 : (z a b : List ℕ) {y x : List ℕ} → y ≡ z ++ a → x ≡ y ++ b → x ≡ z ++ (a ++ b)
written2 z a b h k = k ∙ (ap (λ (w : List ℕ). w ++ b) h ∙ append_assoc z a b)

pub written3 : (z a b c : List ℕ) {y1 y2 y3 : List ℕ}
    → y1 ≡ z ++ a → y2 ≡ y1 ++ b → y3 ≡ y2 ++ c
    → y3 ≡ z ++ (a ++ (b ++ c))
written3 z a b c {y1} h1 h2 h3 = written2 z a (b ++ c) h1 (written2 y1 b c h2 h3)

pub written4 : (z a b c d : List ℕ) {y1 y2 y3 y4 : List ℕ}
    → y1 ≡ z ++ a → y2 ≡ y1 ++ b → y3 ≡ y2 ++ c → y4 ≡ y3 ++ d
    → y4 ≡ z ++ (a ++ (b ++ (c ++ d)))
written4 z a b c d {y1} h1 h2 h3 h4 = written2 z a (b ++ (c ++ d)) h1 (written3 y1 b c d h2 h3 h4)

pub written5 : (z a b c d e : List ℕ) {y1 y2 y3 y4 y5 : List ℕ}
    → y1 ≡ z ++ a → y2 ≡ y1 ++ b → y3 ≡ y2 ++ c → y4 ≡ y3 ++ d → y5 ≡ y4 ++ e
    → y5 ≡ z ++ (a ++ (b ++ (c ++ (d ++ e))))
written5 z a b c d e {y1} h1 h2 h3 h4 h5 = written2 z a (b ++ (c ++ (d ++ e))) h1 (written4 y1 b c d e h2 h3 h4 h5)

-- a front of six parts, and what stands behind it
pub front6 : (a b c d e f rest : List ℕ) → (a ++ (b ++ (c ++ (d ++ (e ++ f))))) ++ rest ≡ a ++ (b ++ (c ++ (d ++ (e ++ (f ++ rest)))))
front6 a b c d e f rest = simp append_assoc
