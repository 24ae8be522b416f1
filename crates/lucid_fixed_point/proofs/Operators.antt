-- The operator of each form, said of the streams of its parts.
use Rattle.lucid_fixed_point.proofs.Common.{◌≡◌, ℕ, suc, ◌<◌, ◌≤◌, ◌↔◌, true, false, nat_lt, refl, arith, nat_tests, PlainValue, truth, fault, Plan, gives, gives_part, look, by_test, by_place, only_truth, last, Streams, operator, Tested, AsTruth, Placed, const, fby, choose, first, whenever, sby}
use Rattle.lucid_tree.specs.Tree.{next, asa, initial, succ, both, either, attime, atspace}
use Rattle.lucid_fixed_point.specs.Operators.{OperatesAsTheBook}
use Rattle.lucid_fixed_point.proofs.Looks.{row-ran, value-ran, part-ran, one-part, one-value, first-look}
use Rattle.lucid_fixed_point.proofs.Tests.{test-ran, place-ran, truth-ran, tested-ran, placed-ran, value-after, part-after, truth-after}
use Rattle.lucid_fixed_point.proofs.Searches.{search-is}
use Rattle.lucid_fixed_point.proofs.Counts.{upon-is}
use Rattle.lucid_fixed_point.proofs.Arguments.{data-is}

module _ (a : Streams) (t s : ℕ) (v : PlainValue) where
  if-is : operator choose a t s v ↔ Tested (a 0 t s) (a 1 t s) (a 2 t s) v
  if-is =
      let p : Plan = gives_part 1 t s in
      let q : Plan = gives_part 2 t s in
      let o = row-ran a choose t s v (look 0 t s 0 (λ w. by_test w p q)) (λ m. refl) in (
        (λ d. let f = first-look a 0 t s 0 (λ w. by_test w p q) v (o.0 d) in
            test-ran a (a 0 t s) (a 1 t s) (a 2 t s) p q v f.0 f.1 (part-ran a 1 t s v).0 (part-ran a 2 t s v).0 f.2),
        (λ d. o.1 (tested-ran a 0 t s p q (a 1 t s) (a 2 t s) (λ w. part-after a 0 1 t s w refl) (λ w. part-after a 0 2 t s w refl) v d)),
      )

  and-is : operator both a t s v ↔ Tested (a 0 t s) (AsTruth (a 1 t s)) (λ w. truth false ≡ w) v
  and-is =
      let p : Plan = look 1 t s 0 (λ w. gives (only_truth w)) in
      let q : Plan = gives (truth false) in
      let o = row-ran a both t s v (look 0 t s 0 (λ w. by_test w p q)) (λ m. refl) in (
        (λ d. let f = first-look a 0 t s 0 (λ w. by_test w p q) v (o.0 d) in
            test-ran a (a 0 t s) (AsTruth (a 1 t s)) (λ w. truth false ≡ w) p q v f.0 f.1 (truth-ran a 1 t s v) (value-ran a (truth false) v).0 f.2),
        (λ d. o.1 (tested-ran a 0 t s p q (AsTruth (a 1 t s)) (λ w. truth false ≡ w) (λ w. truth-after a 0 1 t s w refl) (value-after a 0 (truth false)) v d)),
      )

  or-is : operator either a t s v ↔ Tested (a 0 t s) (λ w. truth true ≡ w) (AsTruth (a 1 t s)) v
  or-is =
      let p : Plan = gives (truth true) in
      let q : Plan = look 1 t s 0 (λ w. gives (only_truth w)) in
      let o = row-ran a either t s v (look 0 t s 0 (λ w. by_test w p q)) (λ m. refl) in (
        (λ d. let f = first-look a 0 t s 0 (λ w. by_test w p q) v (o.0 d) in
            test-ran a (a 0 t s) (λ w. truth true ≡ w) (AsTruth (a 1 t s)) p q v f.0 f.1 (value-ran a (truth true) v).0 (truth-ran a 1 t s v) f.2),
        (λ d. o.1 (tested-ran a 0 t s p q (λ w. truth true ≡ w) (AsTruth (a 1 t s)) (value-after a 0 (truth true)) (λ w. truth-after a 0 1 t s w refl) v d)),
      )

  attime-is : operator attime a t s v ↔ Placed (a 1 t s) (λ u. a 0 u s) v
  attime-is =
      let o = row-ran a attime t s v (look 1 t s 0 (λ y. by_place y (λ u. gives_part 0 u s))) (λ m. refl) in (
        (λ d. let f = first-look a 1 t s 0 (λ y. by_place y (λ u. gives_part 0 u s)) v (o.0 d) in
            place-ran a (a 1 t s) (λ u. a 0 u s) (λ u. gives_part 0 u s) v f.0 f.1 (λ n. (part-ran a 0 n s v).0) f.2),
        (λ d. o.1 (placed-ran a 1 t s (λ u. gives_part 0 u s) (λ u. a 0 u s) (λ n w. part-after a 1 0 n s w refl) v d)),
      )

  atspace-is : operator atspace a t s v ↔ Placed (a 1 t s) (λ r. a 0 t r) v
  atspace-is =
      let o = row-ran a atspace t s v (look 1 t s 0 (λ y. by_place y (λ r. gives_part 0 t r))) (λ m. refl) in (
        (λ d. let f = first-look a 1 t s 0 (λ y. by_place y (λ r. gives_part 0 t r)) v (o.0 d) in
            place-ran a (a 1 t s) (λ r. a 0 t r) (λ r. gives_part 0 t r) v f.0 f.1 (λ n. (part-ran a 0 t n v).0) f.2),
        (λ d. o.1 (placed-ran a 1 t s (λ r. gives_part 0 t r) (λ r. a 0 t r) (λ n w. part-after a 1 0 t n w refl) v d)),
      )

before_last : (t : ℕ) → t < last → nat_lt t last ≡ true
before_last t l = grind (arith, nat_tests, l)

from_last : (t : ℕ) → last ≤ t → nat_lt t last ≡ false
from_last t l = grind (arith, nat_tests, l)

pub operates-as-the-book : (a : Streams) → OperatesAsTheBook a
operates-as-the-book a =
    record {
      constant_is = λ c t s v. one-value a (const c) t s c v (λ m. refl);
      data_is = λ op n t s v. data-is a t s op n v;
      if_is = if-is a;
      and_is = and-is a;
      or_is = or-is a;
      first_is = λ t s v. one-part a first t s 0 0 s v (λ m. refl);
      next_is = λ t s v l. one-part a next t s 0 (suc t) s v (λ m. rw (before_last t l) refl);
      next_ends = λ t s v l. one-value a next t s fault v (λ m. rw (from_last t l) refl);
      fby_begins = λ s v. one-part a fby 0 s 0 0 s v (λ m. refl);
      fby_goes_on = λ t s v. one-part a fby (suc t) s 1 t s v (λ m. refl);
      whenever_is = λ t s v. search-is a s whenever t t v (λ m. refl);
      asa_is = λ t s v. search-is a s asa t 0 v (λ m. refl);
      upon_is = upon-is a;
      attime_is = attime-is a;
      initial_is = λ t s v. one-part a initial t s 0 t 0 v (λ m. refl);
      succ_is = λ t s v l. one-part a succ t s 0 t (suc s) v (λ m. rw (before_last s l) refl);
      succ_ends = λ t s v l. one-value a succ t s fault v (λ m. rw (from_last s l) refl);
      sby_begins = λ t v. one-part a sby t 0 0 t 0 v (λ m. refl);
      sby_goes_on = λ t s v. one-part a sby t (suc s) 1 t s v (λ m. refl);
      atspace_is = atspace-is a;
    }
