-- The points at which the values of one stream are demanded.
use Rattle.lucid_session.proofs.Common.{◌≡◌, ℕ, zero, suc, ◌<◌, ◌⊎◌, inl, inr, sym, ap, subst, arith, cases_lt, In, in_left, in_right, in_either}
use Rattle.std.proofs.Common.{[], ◌∷◌}
use Rattle.lucid_session.specs.Laws.{points_below, OneStreamsPoints}

-- Each of them stands at space 0, at a time below,
point_below : (w : ℕ) (x : ℕ × ℕ) → In x (points_below w) → (x.0 < w) × (x.1 ≡ 0)
point_below zero x i = absurd i
point_below (suc w) x i = by (point_below w x) (in_either x (points_below w) ((w, 0) ∷ []) i)
  where
    by : (In x (points_below w) → (x.0 < w) × (x.1 ≡ 0)) → In x (points_below w) ⊎ In x ((w, 0) ∷ []) → (x.0 < suc w) × (x.1 ≡ 0)
    by before (inl j) = let r = before j in (omega (arith, r.0), r.1)
    by before (inr (inl e)) = (omega (arith, ap (λ z. z.0) e), ap (λ z. z.1) e)
    by before (inr (inr j)) = absurd j

-- and each such point is one of them.
below_point : (w t : ℕ) → t < w → In (t, 0) (points_below w)
below_point zero t lt = absurd (omega (arith, lt))
below_point (suc w) t lt = elim (cases_lt t w) [
  | inl lower ↦ in_left (t, 0) (points_below w) ((w, 0) ∷ []) (below_point w t lower)
  | inr le ↦ let at : t ≡ w = omega (arith, lt, le) in in_right (t, 0) (points_below w) ((w, 0) ∷ []) (inl (ap (λ u. (u, 0)) at))
]

at_zero : (w t s : ℕ) → t < w → s ≡ 0 → In (t, s) (points_below w)
at_zero w t s lt e = subst (λ r. In (t, r) (points_below w)) (sym e) (below_point w t lt)

-- So these are the points of the times below one, and those before that time.
pub points_of_one : OneStreamsPoints
points_of_one b w = (
  (λ t s. (point_below w (t, s), (λ h. at_zero w t s h.0 h.1))),
  (λ u r. (
    (λ i. let p = point_below w (u, r) i in (inl p.0, p.1)),
    (λ h. at_zero w u r (elim h.0 [ inl lt ↦ lt | inr at ↦ absurd (omega (arith, at.1)) ]) h.1),
  )),
)
