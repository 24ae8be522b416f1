-- Rows are equal exactly where their comparison says so.
use Rattle.lucid_tags.proofs.Common.{◌≡◌, ◌≢◌, ℕ, Bool, true, false, ◌==◌, ap, sym, ◌∙◌, subst, arith, nat_tests, Row, RowFrame, Call, Frozen, eq-value, ◌&&◌, Decides}

two_equal : (m n p q : ℕ) → (m == n) && (p == q) ≡ true → (m ≡ n) × (p ≡ q)
two_equal m n p q h = grind (arith, nat_tests)

three_equal : (m n p q x y : ℕ) → (m == n) && ((p == q) && (x == y)) ≡ true → (m ≡ n) × (p ≡ q) × (x ≡ y)
three_equal m n p q x y h = grind (arith, nat_tests)

never : (b : Bool) → b && false ≢ true
never true h = cc
never false h = cc

by_frames : (m n : ℕ) (f g : RowFrame) → eq-value.it (record { base = m; frame = f }) (record { base = n; frame = g }) ≡ true → (m ≡ n) × (f ≡ g)
by_frames m n (Call p x) (Call q y) h = let e = three_equal m n p q x y h in (e.0, cc)
by_frames m n (Call p x) (Frozen u) h = absurd (never (m == n) h)
by_frames m n (Frozen t) (Call q y) h = absurd (never (m == n) h)
by_frames m n (Frozen t) (Frozen u) h = let e = two_equal m n t u h in (e.0, ap Frozen e.1)

pub same_row : (a b : Row) → eq-value.it a b ≡ true → a ≡ b
same_row a b h = let e = by_frames a.base b.base a.frame b.frame h in λ i. record { base = e.0 i; frame = e.1 i }

itself : (m : ℕ) (f : RowFrame) → eq-value.it (record { base = m; frame = f }) (record { base = m; frame = f }) ≡ true
itself m (Call p x) = grind (arith, nat_tests)
itself m (Frozen t) = grind (arith, nat_tests)

pub other_row : (a b : Row) → eq-value.it a b ≡ false → b ≢ a
other_row a b h e = let p : true ≡ false = sym (itself a.base a.frame) ∙ subst (λ r. eq-value.it a r ≡ false) e h in cc

-- the comparison of rows decides equality
pub row_decides : (a b : Row) → Decides (eq-value.it a b) (a ≡ b)
row_decides a b = (same_row a b, λ e. subst (λ r. eq-value.it a r ≡ true) e (itself a.base a.frame))
