-- At which judgments one looked, level by level.
use Rattle.lucid_show_drawing.proofs.Common.{◌≡◌, ℕ, zero, suc, ◌-◌, ◌<◌, [], refl, sym, subst, arith}
use Rattle.std.specs.List.{flat_map}
use Rattle.lucid_cert_rules.specs.Cells.{asked_at}
use Rattle.lucid_show_outline.specs.Views.{View}
use Rattle.lucid_show_drawing.specs.Looked.{looked, looked_for}

at_zero : (v : View) (i : ℕ) → looked zero v i ≡ []
unfolding looked
at_zero v i = refl

pub none_left : (n : ℕ) (v : View) (i : ℕ) → n ≡ 0 → looked n v i ≡ []
none_left n v i none = subst (λ m. looked m v i ≡ []) (sym none) (at_zero v i)

pub one_level : (n : ℕ) (v : View) (i : ℕ) → looked (suc n) v i ≡ looked_for v (flat_map (looked n v)) i (asked_at v.table v.judgments i)
unfolding looked
one_level n v i = refl

pub some_left : (n : ℕ) (v : View) (i : ℕ) → 0 < n → looked n v i ≡ looked_for v (flat_map (looked (n - 1) v)) i (asked_at v.table v.judgments i)
some_left n v i some =
    let one : suc (n - 1) ≡ n = omega (arith, some) in
    subst (λ m. looked m v i ≡ looked_for v (flat_map (looked (n - 1) v)) i (asked_at v.table v.judgments i)) one (one_level (n - 1) v i)
