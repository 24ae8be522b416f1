-- The columns of a tree have at most one refusal, and none where they are there.
use Rattle.lucid_top.proofs.Common.{◌≡◌, ℕ, ◌<◌, List, Some, false, ◌⊎◌, inl, inr, sym, ap, subst, ◌∙◌, IsTrue, slice_get, cases_order, slice_get_within, PlainTree, AreColumns, IsFirstMissing, Refusal, Stop, IsRefusalOf}
use Rattle.lucid_columns.specs.Columns.{is_column}
use Rattle.lucid_report.specs.declared.refusal.Refusal.TheVariants as refusal
use Rattle.lucid_report.specs.declared.stop.Stop.TheVariants as stop
use Rattle.lucid_top.specs.Judged.{IsMissing, RefusesColumns}

module _ (p : PlainTree) (columns : List (List ℕ)) where
  -- no name is a column and none
  not_both : (n : List ℕ) → IsTrue (is_column p n) → is_column p n ≡ false → ⊥
  not_both n is missing = absurd (cc (is, missing))

  number_once : (i j : ℕ) → IsFirstMissing p columns i → IsFirstMissing p columns j → i ≡ j
  number_once i j a b = ordered (cases_order i j)
    where
      ordered : (i ≡ j) ⊎ ((i < j) ⊎ (j < i)) → i ≡ j
      ordered (inl same) = same
      ordered (inr (inl below)) = absurd (not_both a.name (b.before i a.name below a.is) a.missing)
      ordered (inr (inr above)) = absurd (not_both b.name (a.before j b.name above b.is) b.missing)

  pub one_missing : (v w : Refusal) → RefusesColumns p columns v → RefusesColumns p columns w → v ≡ w
  one_missing v w x y =
      let same : x.number ≡ y.number = number_once x.number y.number x.first y.first in
      let there : slice_get columns y.number ≡ Some x.first.name = subst (λ k. slice_get columns k ≡ Some x.first.name) same x.first.is in
      let here = y.first.is in
      let name : x.first.name ≡ y.first.name = cc (there, here) in
      x.is ∙ ap refusal.NoColumn name ∙ sym y.is

  pub none_missing : (v : Refusal) → AreColumns p columns → RefusesColumns p columns v → ⊥
  none_missing v are x = not_both x.first.name (are x.number x.first.name (slice_get_within columns x.number x.first.name x.first.is) x.first.is)
      x.first.missing

  told_missing : (k : ℕ) (why : Refusal) → IsFirstMissing p columns k → IsMissing columns k why → RefusesColumns p columns why
  told_missing k (refusal.NoColumn name) first is =
      let here = first.is in
      let same : name ≡ first.name = cc (is, here) in record { number = k; first = first; is = ap refusal.NoColumn same }
  told_missing k why first is = absurd is

  pub missing_stops : (k : ℕ) (s : Stop) → IsFirstMissing p columns k → IsRefusalOf (IsMissing columns k) s → IsRefusalOf (RefusesColumns p columns) s
  missing_stops k (stop.Refused why) first told = told_missing k why first told
  missing_stops k stop.NoMemory first told = tt
  missing_stops k _ first told = absurd told
