-- Parts of a text, appended one behind another.
use Rattle.std.proofs.Common.{◌≡◌, ℕ, List, ◌++◌, append_assoc, ap, ◌∙◌}

-- three parts, and five
pub three : (text a b c one two : List ℕ) → one ≡ text ++ a → two ≡ one ++ b → two ++ c ≡ text ++ (a ++ (b ++ c))
three text a b c one two e f =
    ap (λ (z : List ℕ). z ++ c) (f ∙ ap (λ (z : List ℕ). z ++ b) e) ∙ append_assoc (text ++ a) b c ∙ append_assoc text a (b ++ c)

pub five : (text a b c d e one two third four : List ℕ) → one ≡ text ++ a → two ≡ one ++ b → third ≡ two ++ c → four ≡ third ++ d
    → four ++ e ≡ text ++ (a ++ (b ++ (c ++ (d ++ e))))
five text a b c d e one two third four f g h k = three two c d e third four h k ∙ three text a b (c ++ (d ++ e)) one two f g
