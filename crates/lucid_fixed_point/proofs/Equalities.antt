-- The equations of the book, as equalities of streams.
use Rattle.lucid_fixed_point.proofs.Common.{◌≡◌, ℕ, zero, suc, ◌≤◌, ◌<◌, ◌↔◌, refl, subst, arith, PlainValue, last, Stream, Streams, operator, Tested, choose, first, fby, whenever, upon, sby, Search, Advance}
use Rattle.lucid_fixed_point.specs.Streams.{IsSame, one, two, three, later, cut}
use Rattle.lucid_fixed_point.specs.Equalities.{next_of, whenever_unfolded, upon_unfolded, EquationsOfTheBook}
use Rattle.lucid_fixed_point.proofs.Operators.{operates-as-the-book}
use Rattle.lucid_fixed_point.proofs.Shifts.{tested-grows, AtZero, at-zero-grows, search-opens, search-closes, search-moved, advance-moved}

next-at : (x : Stream) (t s : ℕ) (v : PlainValue) → t < last → next_of x t s v ↔ x (suc t) s v
next-at x t s v l = (operates-as-the-book (one x)).next_is t s v l

-- `fby` of two streams
fby-at : (x y : Stream) (t s : ℕ) (v : PlainValue) → operator fby (two x y) t s v ↔ AtZero t (x 0 s) (λ k. y k s) v
fby-at x y zero s v = (operates-as-the-book (two x y)).fby_begins s v
fby-at x y (suc t) s v = (operates-as-the-book (two x y)).fby_goes_on t s v

-- `if` by the first value of a stream
if-first : (p y z : Stream) (t s : ℕ) (v : PlainValue) → operator choose (three (operator first (one p)) y z) t s v ↔ Tested (p 0 s) (y t s) (z t s) v
if-first p y z t s v =
    let o = (operates-as-the-book (three (operator first (one p)) y z)).if_is t s v in
    let f : (w : PlainValue) → operator first (one p) t s w ↔ p 0 s w = λ w. (operates-as-the-book (one p)).first_is t s w in (
      (λ d. tested-grows (operator first (one p) t s) (p 0 s) (y t s) (y t s) (z t s) (z t s) (λ w. (f w).0) (λ w e. e) (λ w e. e) v (o.0 d)),
      (λ d. o.1 (tested-grows (p 0 s) (operator first (one p) t s) (y t s) (y t s) (z t s) (z t s) (λ w. (f w).1) (λ w e. e) (λ w e. e) v d)),
    )

-- the right side of the equation of `whenever`, where a search in Y and Q from 0 on is one in X and P from 1 on
module _ (x p y q : Stream) (later_on : (s n : ℕ) (v : PlainValue) → Search (two x p) s 1 n v ↔ Search (two y q) s 0 n v) where
  rest-is : (t s : ℕ) (v : PlainValue) → operator whenever (two y q) t s v ↔ Search (two x p) s 1 t v
  rest-is t s v =
      let o = (operates-as-the-book (two y q)).whenever_is t s v in ((λ d. (later_on s t v).1 (o.0 d)), (λ d. o.1 ((later_on s t v).0 d)))

  whenever-opened : (r : Stream) → ((s : ℕ) (w : PlainValue) → p 0 s w ↔ r 0 s w) → IsSame (operator whenever (two x p)) (whenever_unfolded x r y q)
  whenever-opened r begins t s v =
      let rest : Stream = operator whenever (two y q) in
      let left = (operates-as-the-book (two x p)).whenever_is t s v in
      let right = if-first r (operator fby (two x rest)) rest t s v in
      let on : (w : PlainValue) → AtZero t (x 0 s) (λ k. Search (two x p) s 1 k) w ↔ operator fby (two x rest) t s w =
      λ w. let f = fby-at x rest t s w in (
        (λ d. f.1 (at-zero-grows t (x 0 s) (x 0 s) (λ k. Search (two x p) s 1 k) (λ k. rest k s) (λ u e. e) (λ k u. (rest-is k s u).1) w d)),
        (λ d. at-zero-grows t (x 0 s) (x 0 s) (λ k. rest k s) (λ k. Search (two x p) s 1 k) (λ u e. e) (λ k u. (rest-is k s u).0) w (f.0 d)),
      ) in (
        (λ d. right.1 (tested-grows (p 0 s) (r 0 s) (AtZero t (x 0 s) (λ k. Search (two x p) s 1 k)) (operator fby (two x rest) t s)
            (Search (two x p) s 1 t) (rest t s) (λ w. (begins s w).0) (λ w. (on w).0) (λ w. (rest-is t s w).1) v (search-opens (two x p) s 0 t v (left.0 d)))),
        (λ d. left.1 (search-closes (two x p) s 0 t v (tested-grows (r 0 s) (p 0 s) (operator fby (two x rest) t s)
            (AtZero t (x 0 s) (λ k. Search (two x p) s 1 k)) (rest t s) (Search (two x p) s 1 t) (λ w. (begins s w).1) (λ w. (on w).1)
            (λ w. (rest-is t s w).0) v (right.0 d)))),
      )

-- the times of the one are those of the other, one later
abbrev After : ℕ → ℕ → Type 0
After i j = i ≡ suc j

abbrev Before : ℕ → ℕ → Type 0
Before i j = suc i ≡ j

search-later : (x p : Stream) (s n : ℕ) (v : PlainValue) → Search (two x p) s 1 n v ↔ Search (two (later x) (later p)) s 0 n v
search-later x p s n v =
    let a : Streams = two x p in
    let b : Streams = two (later x) (later p) in (
      (λ d. search-moved a b s After (λ i j g. grind (arith, g)) (λ i j g w e. subst (λ k. p k s w) g e) (λ i j g w h e. subst (λ k. x k s w) g e) 1 n v d 0 refl),
      (λ d. search-moved b a s Before (λ i j g. grind (arith, g)) (λ i j g w e. subst (λ k. p k s w) g e) (λ i j g w h e. subst (λ k. x k s w) g e) 0 n v d 1 refl),
    )

-- the same by `next`, where the search looks at times at which it is no error
search-next : (x p : Stream) (n : ℕ) → n ≤ last → (s k : ℕ) (v : PlainValue)
    → Search (two x (cut (suc n) p)) s 1 k v ↔ Search (two (next_of x) (cut n (next_of p))) s 0 k v
search-next x p n l s k v =
    let a : Streams = two x (cut (suc n) p) in
    let b : Streams = two (next_of x) (cut n (next_of p)) in (
      (λ d. search-moved a b s After (λ i j g. grind (arith, g))
          (λ i j g w e. let h : j < n = grind (arith, g, e.0) in (h, (next-at p j s w (omega (arith, h, l))).1 (subst (λ m. p m s w) g e.1)))
          (λ i j g w h e. let u : j < n = grind (arith, g, h.0) in (next-at x j s w (omega (arith, u, l))).1 (subst (λ m. x m s w) g e)) 1 k v d 0 refl),
      (λ d. search-moved b a s Before (λ i j g. grind (arith, g))
          (λ i j g w e. (grind (arith, g, e.0), subst (λ m. p m s w) g ((next-at p i s w (omega (arith, e.0, l))).0 e.1)))
          (λ i j g w h e. subst (λ m. x m s w) g ((next-at x i s w (omega (arith, h.0, l))).0 e)) 0 k v d 1 refl),
    )

-- the right side of the equation of `upon`, where counts in Y or X and Q are counts in X and P from time 1 on
upon-opened : (x p y q : Stream) (t : ℕ)
    → ((u : ℕ) → suc u ≤ t → (s : ℕ) (v : PlainValue) → Advance (two x p) s u 1 1 v ↔ Advance (two y q) s u 0 0 v)
    → ((u : ℕ) → suc u ≤ t → (s : ℕ) (v : PlainValue) → Advance (two x p) s u 1 0 v ↔ Advance (two x q) s u 0 0 v) → (u s : ℕ) (v : PlainValue) → u ≤ t
    → operator upon (two x p) u s v ↔ upon_unfolded x p y q u s v
upon-opened x p y q t on off zero s v l =
    let left = (operates-as-the-book (two x p)).upon_is 0 s v in
    let right = fby-at x (operator choose (three (operator first (one p)) (operator upon (two y q)) (operator upon (two x q)))) 0 s v in
    ((λ d. right.1 (left.0 d)), (λ d. left.1 (right.0 d)))
upon-opened x p y q t on off (suc u) s v l =
    let left = (operates-as-the-book (two x p)).upon_is (suc u) s v in
    let yes : Stream = operator upon (two y q) in
    let no' : Stream = operator upon (two x q) in
    let right = fby-at x (operator choose (three (operator first (one p)) yes no')) (suc u) s v in
    let test = if-first p yes no' u s v in
    let true_is : (w : PlainValue) → yes u s w ↔ Advance (two y q) s u 0 0 w = λ w. (operates-as-the-book (two y q)).upon_is u s w in
    let false_is : (w : PlainValue) → no' u s w ↔ Advance (two x q) s u 0 0 w = λ w. (operates-as-the-book (two x q)).upon_is u s w in (
      (λ d. right.1 (test.1 (tested-grows (p 0 s) (p 0 s) (Advance (two x p) s u 1 1) (yes u s) (Advance (two x p) s u 1 0) (no' u s) (λ w e. e)
          (λ w e. (true_is w).1 ((on u l s w).0 e)) (λ w e. (false_is w).1 ((off u l s w).0 e)) v (left.0 d)))),
      (λ d. left.1 (tested-grows (p 0 s) (p 0 s) (yes u s) (Advance (two x p) s u 1 1) (no' u s) (Advance (two x p) s u 1 0) (λ w e. e)
          (λ w e. (on u l s w).1 ((true_is w).0 e)) (λ w e. (off u l s w).1 ((false_is w).0 e)) v (test.0 (right.0 d)))),
    )

module _ (x p : Stream) (u s : ℕ) (v : PlainValue) where
  later-true : Advance (two x p) s u 1 1 v ↔ Advance (two (later x) (later p)) s u 0 0 v
  later-true =
      let a : Streams = two x p in
      let b : Streams = two (later x) (later p) in (
        (λ d. advance-moved a b s (suc (suc u)) After After (λ i j g. grind (arith, g)) (λ i j g. grind (arith, g)) (λ i j g h w e. subst (λ k. p k s w) g e)
            (λ i j g h w e. subst (λ k. x k s w) g e) u 1 1 v (omega arith) (omega arith) d 0 0 refl refl),
        (λ d. advance-moved b a s (suc u) Before Before (λ i j g. grind (arith, g)) (λ i j g. grind (arith, g)) (λ i j g h w e. subst (λ k. p k s w) g e)
            (λ i j g h w e. subst (λ k. x k s w) g e) u 0 0 v (omega arith) (omega arith) d 1 1 refl refl),
      )

  later-false : Advance (two x p) s u 1 0 v ↔ Advance (two x (later p)) s u 0 0 v
  later-false =
      let a : Streams = two x p in
      let b : Streams = two x (later p) in (
        (λ d. advance-moved a b s (suc (suc u)) After ◌≡◌ (λ i j g. grind (arith, g)) (λ i j g. grind (arith, g)) (λ i j g h w e. subst (λ k. p k s w) g e)
            (λ i j g h w e. subst (λ k. x k s w) g e) u 1 0 v (omega arith) (omega arith) d 0 0 refl refl),
        (λ d. advance-moved b a s (suc u) Before ◌≡◌ (λ i j g. grind (arith, g)) (λ i j g. grind (arith, g)) (λ i j g h w e. subst (λ k. p k s w) g e)
            (λ i j g h w e. subst (λ k. x k s w) g e) u 0 0 v (omega arith) (omega arith) d 1 0 refl refl),
      )

  -- the same by `next`, at times up to the last
  module _ (l : suc u ≤ last) where
    next-true : Advance (two x p) s u 1 1 v ↔ Advance (two (next_of x) (next_of p)) s u 0 0 v
    next-true =
        let a : Streams = two x p in
        let b : Streams = two (next_of x) (next_of p) in (
          (λ d. advance-moved a b s (suc last) After After (λ i j g. grind (arith, g)) (λ i j g. grind (arith, g))
              (λ i j g h w e. (next-at p j s w (grind (arith, g, h))).1 (subst (λ k. p k s w) g e))
              (λ i j g h w e. (next-at x j s w (grind (arith, g, h))).1 (subst (λ k. x k s w) g e)) u 1 1 v (omega (arith, l)) (omega (arith, l)) d 0 0 refl refl),
          (λ d. advance-moved b a s last Before Before (λ i j g. grind (arith, g)) (λ i j g. grind (arith, g))
              (λ i j g h w e. subst (λ k. p k s w) g ((next-at p i s w h).0 e)) (λ i j g h w e. subst (λ k. x k s w) g ((next-at x i s w h).0 e)) u 0 0 v
              (omega (arith, l)) (omega (arith, l)) d 1 1 refl refl),
        )

    next-false : Advance (two x p) s u 1 0 v ↔ Advance (two x (next_of p)) s u 0 0 v
    next-false =
        let a : Streams = two x p in
        let b : Streams = two x (next_of p) in (
          (λ d. advance-moved a b s (suc last) After ◌≡◌ (λ i j g. grind (arith, g)) (λ i j g. grind (arith, g))
              (λ i j g h w e. (next-at p j s w (grind (arith, g, h))).1 (subst (λ k. p k s w) g e)) (λ i j g h w e. subst (λ k. x k s w) g e) u 1 0 v
              (omega (arith, l)) (omega (arith, l)) d 0 0 refl refl),
          (λ d. advance-moved b a s last Before ◌≡◌ (λ i j g. grind (arith, g)) (λ i j g. grind (arith, g))
              (λ i j g h w e. subst (λ k. p k s w) g ((next-at p i s w h).0 e)) (λ i j g h w e. subst (λ k. x k s w) g e) u 0 0 v (omega (arith, l))
              (omega (arith, l)) d 1 0 refl refl),
        )

cut-begins : (p : Stream) (n s : ℕ) (w : PlainValue) → cut (suc n) p 0 s w ↔ p 0 s w
cut-begins p n s w = ((λ d. d.1), (λ d. (omega arith, d)))

pub equations-of-the-book : (x p : Stream) → EquationsOfTheBook x p
equations-of-the-book x p =
    let o = operates-as-the-book (two x p) in
    record {
      first_of_fby = λ t s v.
          let f = (operates-as-the-book (one (operator fby (two x p)))).first_is t s v in
          let g = (operates-as-the-book (one x)).first_is t s v in
          let h = o.fby_begins s v in ((λ d. g.1 (h.0 (f.0 d))), (λ d. f.1 (h.1 (g.0 d))));
      next_of_fby = λ t s v l.
          let f = next-at (operator fby (two x p)) t s v l in
          let h = o.fby_goes_on t s v in ((λ d. h.0 (f.0 d)), (λ d. f.1 (h.1 d)));
      initial_of_sby = λ t s v.
          let f = (operates-as-the-book (one (operator sby (two x p)))).initial_is t s v in
          let g = (operates-as-the-book (one x)).initial_is t s v in
          let h = o.sby_begins t v in ((λ d. g.1 (h.0 (f.0 d))), (λ d. f.1 (h.1 (g.0 d))));
      succ_of_sby = λ t s v l.
          let f = (operates-as-the-book (one (operator sby (two x p)))).succ_is t s v l in
          let h = o.sby_goes_on t s v in ((λ d. h.0 (f.0 d)), (λ d. f.1 (h.1 d)));
      asa_is_first = λ t s v.
          let f = (operates-as-the-book (one (operator whenever (two x p)))).first_is t s v in
          let g = o.whenever_is 0 s v in
          let h = o.asa_is t s v in ((λ d. f.1 (g.1 (h.0 d))), (λ d. h.1 (g.0 (f.0 d))));
      whenever_unfolds = whenever-opened x p (later x) (later p) (search-later x p) p (λ s w. ((λ d. d), (λ d. d)));
      upon_unfolds = λ t s v. upon-opened x p (later x) (later p) t (λ u l. later-true x p u) (λ u l. later-false x p u) t s v (omega arith);
      whenever_by_next = λ n l.
          whenever-opened x (cut (suc n) p) (next_of x) (cut n (next_of p)) (search-next x p n l) p (λ s w. cut-begins p n s w);
      upon_by_next = λ t s v l.
          upon-opened x p (next_of x) (next_of p) last (λ u k s v. next-true x p u s v k) (λ u k s v. next-false x p u s v k) t s v l;
    }
