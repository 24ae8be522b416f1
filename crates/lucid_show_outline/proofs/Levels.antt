-- The equation of a judgment, level by level.
use Rattle.std.proofs.Common.{◌≡◌, ℕ, zero, suc, ◌-◌, ◌<◌, map, refl, sym, subst, arith}
use Rattle.std.specs.Prelude.{slice_get}
use Rattle.lucid_show_outline.specs.Views.{View}
use Rattle.lucid_show_outline.specs.Equations.{by_judgment, equation, unknown}

at_zero : (v : View) (i : ℕ) → equation zero v i ≡ unknown
unfolding equation
at_zero v i = refl

pub none_left : (n : ℕ) (v : View) (i : ℕ) → n ≡ 0 → equation n v i ≡ unknown
none_left n v i none = subst (λ m. equation m v i ≡ unknown) (sym none) (at_zero v i)

pub one_level : (n : ℕ) (v : View) (i : ℕ) → equation (suc n) v i ≡ by_judgment v (map (equation n v)) (slice_get v.judgments i)
unfolding equation
one_level n v i = refl

pub some_left : (n : ℕ) (v : View) (i : ℕ) → 0 < n → equation n v i ≡ by_judgment v (map (equation (n - 1) v)) (slice_get v.judgments i)
some_left n v i some =
    let one : suc (n - 1) ≡ n = omega (arith, some) in
    subst (λ m. equation m v i ≡ by_judgment v (map (equation (n - 1) v)) (slice_get v.judgments i)) one (one_level (n - 1) v i)
