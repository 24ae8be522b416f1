-- What is sorted by its spot stands together.
use Rattle.lucid_show_drawing.proofs.Common.{◌≡◌, ℕ, ◌<◌, ◌≤◌, false, List, length, get_or, refl, sym, ap, subst, ◌∙◌, arith}
use Rattle.std.specs.declared.cmp.Ordering.{Ordering}
use Rattle.std.specs.declared.cmp.Ordering.TheVariants.{Less, Equal, Greater}
use Rattle.std.specs.Ordering.{is_lt, nat_cmp, ordering_then, ordering_reverse}
use Rattle.std.specs.List.Sorted.{IsSortedByKey}
use Rattle.std.proofs.lemmas.Bool.Decides.{nat_tests}
use Rattle.std.proofs.lemmas.List.Sorted.{ranks_by, sorted_far}
use Rattle.std.proofs.lemmas.Map.Keys.{ge_from_not_lt}
use Rattle.std.proofs.lemmas.Map.Lookups.{exact_unsigned}
use Rattle.lucid_show_drawing.specs.declared.asked.Asked.{Asked}
use Rattle.lucid_show_drawing.specs.declared.spot.Row.{Row}
use Rattle.lucid_show_drawing.specs.declared.spot.Row.TheVariants.{Input, Name, Test}
use Rattle.lucid_show_drawing.specs.declared.spot.Spot.{Spot}
use Rattle.lucid_show_drawing.specs.contracts.spot.RowOrd.TheImpl.{cmp-value as row_order}
use Rattle.lucid_show_drawing.specs.contracts.spot.RowOrd.TheImpl.Laws.{total-law as row_total}
use Rattle.lucid_show_drawing.specs.contracts.spot.SpotOrd.TheImpl.{cmp-value as spot_order}
use Rattle.lucid_show_drawing.specs.contracts.spot.SpotOrd.TheImpl.Laws.{total-law as spot_total}
use Rattle.lucid_show_drawing.specs.Orders.{StandTogether}
use Rattle.std.specs.Borrow.{Bor}
use denote.Param.Members.{Mut}
use Rattle.std.specs.Fn.{Called, ComputesKey}
use Rattle.std.proofs.lemmas.Fn.{always_returns_same}

then_first : (r s : Ordering) → is_lt (ordering_then r s) ≡ false → is_lt r ≡ false
then_first Less s h = h
then_first Equal s h = refl
then_first Greater s h = refl

then_second : (r s : Ordering) → r ≡ Equal → is_lt (ordering_then r s) ≡ false → is_lt s ≡ false
then_second Less s e h = absurd (cc)
then_second Equal s e h = h
then_second Greater s e h = absurd (cc)

then_equal : (r s : Ordering) → ordering_then r s ≡ Equal → (r ≡ Equal) × (s ≡ Equal)
then_equal Less s h = absurd (cc)
then_equal Equal s h = (refl, h)
then_equal Greater s h = absurd (cc)

same_number : (x y : ℕ) → x ≡ y → nat_cmp x y ≡ Equal
same_number x y h = grind (arith, nat_tests)

neither : (r s : Ordering) → r ≡ ordering_reverse s → is_lt r ≡ false → is_lt s ≡ false → r ≡ Equal
neither Less s e h k = absurd (cc)
neither Equal s e h k = refl
neither Greater Less e h k = absurd (cc)
neither Greater Equal e h k = absurd (cc)
neither Greater Greater e h k = absurd (cc)

exact_row : (r s : Row) → row_order.it r s ≡ Equal → r ≡ s
exact_row (Input k) (Input l) h = ap Input (exact_unsigned k l h)
exact_row (Input k) (Name m t) h = absurd (cc)
exact_row (Input k) (Test m t) h = absurd (cc)
exact_row (Name n s) (Input l) h = absurd (cc)
exact_row (Name n s) (Name m t) h =
    let both = then_equal (nat_cmp n m) (nat_cmp s t) h in ap (λ q. Name q s) (exact_unsigned n m both.0) ∙ ap (λ q. Name m q) (exact_unsigned s t both.1)
exact_row (Name n s) (Test m t) h = absurd (cc)
exact_row (Test n s) (Input l) h = absurd (cc)
exact_row (Test n s) (Name m t) h = absurd (cc)
exact_row (Test n s) (Test m t) h =
    let both = then_equal (nat_cmp n m) (nat_cmp s t) h in ap (λ q. Test q s) (exact_unsigned n m both.0) ∙ ap (λ q. Test m q) (exact_unsigned s t both.1)

later_context : (p q : Spot) → is_lt (spot_order.it p q) ≡ false → q.context ≤ p.context
later_context p q h =
    ge_from_not_lt p.context q.context (then_first (nat_cmp p.context q.context) (ordering_then (row_order.it p.row q.row) (nat_cmp p.time q.time)) h)

later_row : (p q : Spot) → p.context ≡ q.context → is_lt (spot_order.it p q) ≡ false → is_lt (row_order.it p.row q.row) ≡ false
later_row p q same h =
    then_first (row_order.it p.row q.row) (nat_cmp p.time q.time)
    (then_second (nat_cmp p.context q.context) (ordering_then (row_order.it p.row q.row) (nat_cmp p.time q.time)) (same_number p.context q.context same) h)

-- a row between two that are one is that one
between : (r s : Row) → is_lt (row_order.it r s) ≡ false → is_lt (row_order.it s r) ≡ false → r ≡ s
between r s h k = exact_row r s (neither (row_order.it r s) (row_order.it s r) (row_total.antisymm r s) h k)

pub sorted_together : (xs : List Asked) → IsSortedByKey (λ (a : Asked). a.spot) spot_order.it xs → StandTogether xs
sorted_together xs sorted =
    let later : (i j : ℕ) (d : Asked) → i ≤ j → j < length xs → is_lt (spot_order.it (get_or xs j d).spot (get_or xs i d).spot) ≡ false =
    λ i j d ij in'. sorted_far (λ (x y : Asked). is_lt (spot_order.it x.spot y.spot)) (ranks_by spot_total (λ (a : Asked). a.spot)) xs sorted i j d ij in' in
    let context_before : (i j : ℕ) (d : Asked) → i ≤ j → j < length xs → (get_or xs i d).spot.context ≤ (get_or xs j d).spot.context =
    λ i j d ij in'. later_context (get_or xs j d).spot (get_or xs i d).spot (later i j d ij in') in
    let same_context : (i j k : ℕ) (d : Asked) → i ≤ j → j ≤ k → k < length xs → (get_or xs i d).spot.context ≡ (get_or xs k d).spot.context
    → (get_or xs j d).spot.context ≡ (get_or xs k d).spot.context =
    λ i j k d ij jk in' same.
    let front : (get_or xs i d).spot.context ≤ (get_or xs j d).spot.context = context_before i j d ij (omega arith) in
    let back : (get_or xs j d).spot.context ≤ (get_or xs k d).spot.context = context_before j k d jk in' in
    omega arith in
    record {
      contexts = same_context;
      rows = λ i j k d ij jk in' same row.
          let here : (get_or xs j d).spot.context ≡ (get_or xs k d).spot.context = same_context i j k d ij jk in' same in
          between (get_or xs j d).spot.row (get_or xs k d).spot.row
          (subst (λ (r : Row). is_lt (row_order.it (get_or xs j d).spot.row r) ≡ false) row
          (later_row (get_or xs j d).spot (get_or xs i d).spot (here ∙ sym same) (later i j d ij (omega arith))))
          (later_row (get_or xs k d).spot (get_or xs j d).spot (sym here) (later j k d jk in'));
    }

-- from the clause `sorted` of `sort_by_key`, where each call gives the spot
pub together_from_sort : {F : Type 0} {g : Mut F (Bor Asked × Unit {0}) Spot} {f : F} (xs : List Asked)
    → ((key : Asked → Spot) → ComputesKey g key f → IsSortedByKey key spot_order.it xs)
    → ((a : Bor Asked × Unit {0}) (r : Spot) (f' : F) → Called g f a r f' → (r ≡ a.0.now.spot) × (f' ≡ f)) → StandTogether xs
together_from_sort {g = g} {f = f} xs up h = sorted_together xs (up (λ (a : Asked). a.spot) (always_returns_same g (λ a r. r ≡ a.0.now.spot) f h))
