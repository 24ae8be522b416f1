-- A row's facts where one of its parts gets a value or is asked.
use Rattle.lucid_demand_steps.proofs.Common.{◌≡◌, ◌⊎◌, inl, inr, ℕ, zero, suc, ◌<◌, List, [], ◌∷◌, Some, refl, sym, ap, ◌∙◌, subst, slice_set, cases_eq, PlainValue, Elements, PlainRow, PartState, idle, asked, got, state_at, value_in, value_of_part, Holding, Demand, table_of, RowFacts, PartAnswers, with_part, length-set}
use Rattle.lucid_demand_steps.proofs.Parting.{part-stays}

-- what stands at each place after a write: the new state there, and the old one elsewhere
written : (ps : List PartState) (i k : ℕ) (y : PartState) (v : PlainValue) → value_in (state_at (slice_set ps i y) k) ≡ Some v → (k ≡ i → ⊥)
    → value_in (state_at ps k) ≡ Some v
written [] i k y v e n = e
written (p ∷ ps) zero zero y v e n = absurd (n refl)
written (p ∷ ps) zero (suc k) y v e n = e
written (p ∷ ps) (suc i) zero y v e n = e
written (p ∷ ps) (suc i) (suc k) y v e n = written ps i k y v e (λ q. n (ap suc q))

written_there : (ps : List PartState) (i : ℕ) (w v : PlainValue) → value_in (state_at (slice_set ps i (got w)) i) ≡ Some v → w ≡ v
written_there [] i w v e = absurd (cc)
written_there (p ∷ ps) zero w v e = cc
written_there (p ∷ ps) (suc i) w v e = written_there ps i w v e

-- A row one of whose parts gets a value that answers the part's task keeps its facts.
pub part-got : (d : Demand) (b : Elements) (h : Holding) (lost : ℕ) (r : PlainRow) (i : ℕ) (v : PlainValue) → RowFacts d b h lost r → i < 3
    → ((w : PlainValue) → state_at r.parts i ≡ got w → ⊥) → PartAnswers d b h lost r i v → RowFacts d b h lost (with_part i (got v) r)
part-got d b h lost r i v f lt n a = record {
  there = f.there;
  three = length-set r.parts i (got v) ∙ f.three;
  limit = f.limit;
  still = f.still;
  needed = f.needed;
  seen = f.seen;
  search = λ g es stream e q s. let x = f.search g es stream e q s in record { counted = x.counted; exact = x.exact; kept = x.kept; within = x.within };
  got_parts = λ k w e. go k w e (cases_eq k i);
  remembers = f.remembers;
}
  where
    carry : (k : ℕ) (w : PlainValue) → PartAnswers d b h lost r k w → PartAnswers d b h lost (with_part i (got v) r) k w
    carry k w p = record { task = p.task; is = part-stays (table_of d) r i k (got v) p.task p.is n; answers = p.answers }

    go : (k : ℕ) (w : PlainValue) → value_of_part (with_part i (got v) r) k ≡ Some w → (k ≡ i) ⊎ (k ≡ i → ⊥)
        → PartAnswers d b h lost (with_part i (got v) r) k w
    go k w e (inl same) =
        let here : value_in (state_at (slice_set r.parts i (got v)) i) ≡ Some w = ap (λ z. value_in (state_at (slice_set r.parts i (got v)) z)) (sym same)
        ∙ e in
        let value : v ≡ w = written_there r.parts i v w here in
        subst (λ z. PartAnswers d b h lost (with_part i (got v) r) z w) (sym same)
        (subst (λ z. PartAnswers d b h lost (with_part i (got v) r) i z) value (carry i v a))
    go k w e (inr other) = carry k w (f.got_parts k w (written r.parts i k (got v) w e other))

written_asked : (ps : List PartState) (i slot : ℕ) (v : PlainValue) → value_in (state_at (slice_set ps i (asked slot)) i) ≡ Some v → ⊥
written_asked [] i slot v e = absurd (cc)
written_asked (p ∷ ps) zero slot v e = absurd (cc)
written_asked (p ∷ ps) (suc i) slot v e = written_asked ps i slot v e

-- So does one that asks a task for a part.
pub part-asked : (d : Demand) (b : Elements) (h : Holding) (lost : ℕ) (r : PlainRow) (i slot : ℕ) → RowFacts d b h lost r → state_at r.parts i ≡ idle
    → RowFacts d b h lost (with_part i (asked slot) r)
part-asked d b h lost r i slot f free = record {
  there = f.there;
  three = length-set r.parts i (asked slot) ∙ f.three;
  limit = f.limit;
  still = f.still;
  needed = f.needed;
  seen = f.seen;
  search = λ g es stream e q s. let x = f.search g es stream e q s in record { counted = x.counted; exact = x.exact; kept = x.kept; within = x.within };
  got_parts = λ k w e. go k w e (cases_eq k i);
  remembers = f.remembers;
}
  where
    none : (w : PlainValue) → state_at r.parts i ≡ got w → ⊥
    none w e = let x : idle ≡ got w = sym free ∙ e in absurd (cc)

    go : (k : ℕ) (w : PlainValue) → value_of_part (with_part i (asked slot) r) k ≡ Some w → (k ≡ i) ⊎ (k ≡ i → ⊥)
        → PartAnswers d b h lost (with_part i (asked slot) r) k w
    go k w e (inl same) = absurd (written_asked r.parts i slot w (ap (λ z. value_in (state_at (slice_set r.parts i (asked slot)) z)) (sym same) ∙ e))
    go k w e (inr other) =
        let p = f.got_parts k w (written r.parts i k (asked slot) w e other) in
        record { task = p.task; is = part-stays (table_of d) r i k (asked slot) p.task p.is none; answers = p.answers }
