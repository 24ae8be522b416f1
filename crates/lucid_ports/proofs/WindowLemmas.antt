-- A window's bytes as a range of its buffer.
use Rattle.std.proofs.Common.{◌≡◌, ℕ, ◌+◌, ◌-◌, ◌≤◌, List, [], length, take, drop, slice_range, sym, ap, ◌∙◌, arith, length-take, length-drop, drop-drop}
use Rattle.std.proofs.lemmas.List.{drop-take}

-- a range that begins n later
pub slice_range_later : (xs : List ℕ) (a e n : ℕ) → n ≤ e - a → slice_range xs (a + n) e ≡ drop n (slice_range xs a e)
slice_range_later xs a e n within =
    let whole : n + (e - (a + n)) ≡ e - a = omega arith in
    ap (take (e - (a + n))) (sym (drop-drop n a xs))
    ∙ sym (drop-take n (e - (a + n)) (drop a xs))
    ∙ ap (λ k. drop n (take k (drop a xs))) whole

-- how long a range is
pub length-slice_range : (xs : List ℕ) (a e : ℕ) → e ≤ length xs → length (slice_range xs a e) ≡ e - a
length-slice_range xs a e within = omega (arith, length-take (e - a) (drop a xs), length-drop a xs)

-- a range is empty exactly where it ends where it begins
pub empty_range : (xs : List ℕ) (a e : ℕ) → e ≤ length xs → slice_range xs a e ≡ [] → e ≤ a
empty_range xs a e within none = omega (arith, length-slice_range xs a e within, ap length none)

pub nothing_between : (xs : List ℕ) (a e : ℕ) → e ≤ a → slice_range xs a e ≡ []
nothing_between xs a e over = let zero : e - a ≡ 0 = omega arith in ap (λ n. take n (drop a xs)) zero
