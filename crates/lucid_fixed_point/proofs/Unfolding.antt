-- A name may be unfolded: put in its place, at any places of its scope, its right side.
use Rattle.lucid_fixed_point.proofs.Common.{◌≡◌, ℕ, zero, suc, ◌↔◌, Bool, true, false, if◌then◌else◌, List, Option, Some, None, subst, arith, PlainValue, PlainTree, name, block, frozen_at, same_name, Stream, Streams, Meanings, no_stream, chosen, frozen, iterate, least, Within, MeaningsWithin, PointsWithin, IsContinuous, denotation, denotations, equations, Clear, InsideClear, Context, DefContexts, no_definitions, is_plain, is_function, is_current, fill, fill_definitions, fby_of, tree, no_trees}
use Rattle.lucid_fixed_point.specs.Unfolding.{right_side, Unfolds, NamesUnfold, FirstOfFbyInPrograms}
use Rattle.lucid_tree.specs.Tree.{first_of}
use Rattle.lucid_fixed_point.proofs.Monotone.{denotation-grows, equations-grow, least-grows}
use Rattle.lucid_fixed_point.proofs.Chains.{points-within, within-itself}
use Rattle.lucid_fixed_point.proofs.Solved.{iterate-chain, iterate-monotone, least-below, block-solved}
use Rattle.lucid_fixed_point.proofs.Operators.{operates-as-the-book}
use Rattle.lucid_fixed_point.proofs.Contexts.{opened-alike, derivations-exchanged}
use Rattle.lucid_fixed_point.proofs.Catches.{Gains, swapped, swapped-scope}

-- One definition in front of others: where the name's right side is this context, its stream is what that denotes.
plain-right : (c : Bool) (e E : Context) (o : Option Context) (a b : Stream) (den : Context → Stream) → (if c then Some e else o) ≡ Some E
    → ((t s : ℕ) (v : PlainValue) → a t s v ↔ den e t s v) → (o ≡ Some E → (t s : ℕ) (v : PlainValue) → b t s v ↔ den E t s v) → (t s : ℕ) (v : PlainValue)
    → chosen c a b t s v ↔ den E t s v
plain-right true e E o a b den h k l t s v = let same : e ≡ E = grind (arith, h) in subst (λ x. a t s v ↔ den x t s v) same (k t s v)
plain-right false e E o a b den h k l t s v = l h t s v

other-right : (c : Bool) (E : Context) (o : Option Context) (a b : Stream) (den : Context → Stream) → (if c then None else o) ≡ Some E
    → (o ≡ Some E → (t s : ℕ) (v : PlainValue) → b t s v ↔ den E t s v) → (t s : ℕ) (v : PlainValue) → chosen c a b t s v ↔ den E t s v
other-right true E o a b den h l t s v = absurd (grind (arith, h))
other-right false E o a b den h l t s v = l h t s v

module _ (x : PlainTree) (z : Option ℕ) (r q : Meanings) (n : List ℕ) (E : Context) where
  right-is : (ds : DefContexts) → right_side n ds ≡ Some E → (t s : ℕ) (v : PlainValue)
      → (equations (fill_definitions ds x) z r q).stream n t s v ↔ denotation (fill E x) q t s v
  right-is no_definitions h t s v = absurd (grind (arith, h))
  right-is (is_plain at y e ds) h t s v =
      plain-right (same_name n y) e E (right_side n ds) (denotation (fill e x) q) ((equations (fill_definitions ds x) z r q).stream n)
      (λ c. denotation (fill c x) q) h (λ t s v. ((λ d. d), (λ d. d))) (right-is ds) t s v
  right-is (is_function at y ps ats e ds) h t s v =
      other-right (same_name n y) E (right_side n ds) no_stream ((equations (fill_definitions ds x) z r q).stream n) (λ c. denotation (fill c x) q) h
      (right-is ds) t s v
  right-is (is_current at y e ds) h t s v =
      other-right (same_name n y) E (right_side n ds) (frozen z (denotation (fill e x) r)) ((equations (fill_definitions ds x) z r q).stream n)
      (λ c. denotation (fill c x) q) h (right-is ds) t s v

-- the right side is as clear as the block is
plain-clear : (c : Bool) (x : PlainTree) (e E : Context) (o : Option Context) → (if c then Some e else o) ≡ Some E → Clear x e → (o ≡ Some E → Clear x E)
    → Clear x E
plain-clear true x e E o h k l = let same : e ≡ E = grind (arith, h) in subst (λ y. Clear x y) same k
plain-clear false x e E o h k l = l h

other-clear : (c : Bool) (x : PlainTree) (E : Context) (o : Option Context) → (if c then None else o) ≡ Some E → (o ≡ Some E → Clear x E) → Clear x E
other-clear true x E o h l = absurd (grind (arith, h))
other-clear false x E o h l = l h

right-clear : (x : PlainTree) (n : List ℕ) (E : Context) (ds : DefContexts) → right_side n ds ≡ Some E → InsideClear x ds → Clear x E
right-clear x n E no_definitions h k = absurd (grind (arith, h))
right-clear x n E (is_plain at y e ds) h k = plain-clear (same_name n y) x e E (right_side n ds) h k.0 (λ o. right-clear x n E ds o k.1)
right-clear x n E (is_function at y ps ats e ds) h k = other-clear (same_name n y) x E (right_side n ds) h (λ o. right-clear x n E ds o k.2)
right-clear x n E (is_current at y e ds) h k = other-clear (same_name n y) x E (right_side n ds) h (λ o. right-clear x n E ds o k.1)

module _ (C : Context) (D : DefContexts) (n : List ℕ) (E : Context) (at : ℕ) (u : Unfolds C D n E at) (z : Option ℕ) (r : Meanings) (h : IsContinuous r) where
  abbrev x : PlainTree
  x = name at n

  abbrev y : PlainTree
  y = fill E x

  -- the equations as they were, and with the name unfolded
  abbrev f : Meanings → Meanings
  f q = equations (fill_definitions D x) z r q

  abbrev g : Meanings → Meanings
  g q = equations (fill_definitions D y) z r q

  clear-x : Clear x E
  clear-x = right-clear x n E D u.is_right_side u.name_is_free.1

  clear-y : Clear y E
  clear-y = right-clear y n E D u.is_right_side u.right_is_free.1

  f-grows : (a b : Meanings) → MeaningsWithin a b → MeaningsWithin (f a) (f b)
  f-grows a b k = equations-grow (fill_definitions D x) z r r (within-itself r h.monotone) a b k

  g-grows : (a b : Meanings) → MeaningsWithin a b → MeaningsWithin (g a) (g b)
  g-grows a b k = equations-grow (fill_definitions D y) z r r (within-itself r h.monotone) a b k

  -- in each iterate of the new equations the name lies in its right side
  module _ (k : ℕ) (less : Within ((iterate g k).stream n) (denotation y (iterate g k))) where
    there : Gains x y (iterate g k) (iterate g k)
    there = record { within = iterate-monotone g g-grows k; left = iterate-monotone g g-grows k; right = iterate-monotone g g-grows k; less = less }

    back : Gains y x (iterate g k) (iterate g (suc k))
    back =
        record {
          within = iterate-chain g g-grows k;
          left = iterate-monotone g g-grows k;
          right = iterate-monotone g g-grows (suc k);
          less = λ t s v d. (right-is y z r (iterate g k) n E D u.is_right_side t s v).1
              (swapped x y E clear-x clear-y (iterate g k) (iterate g k) there t s v d);
        }

    next-less : Within ((iterate g (suc k)).stream n) (denotation y (iterate g (suc k)))
    next-less t s v d =
        swapped y x E clear-y clear-x (iterate g k) (iterate g (suc k)) back t s v ((right-is y z r (iterate g k) n E D u.is_right_side t s v).0 d)

  name-less : (k : ℕ) → Within ((iterate g k).stream n) (denotation y (iterate g k))
  name-less zero = λ t s v d. absurd d
  name-less (suc k) = next-less k (name-less k)

  iterates-unfold : (k : ℕ) → MeaningsWithin (iterate f k) (iterate g k)
  iterates-unfold zero = record { streams = λ m t s v d. absurd d; maps = λ m a b l t s v d. absurd d }
  iterates-unfold (suc k) =
      let up = iterates-unfold k in
      swapped-scope x y D u.inside u.name_is_free.1 u.right_is_free.1 z r r (within-itself r h.monotone) (iterate f k) (iterate g k)
      (record {
        within = up;
        left = iterate-monotone f f-grows k;
        right = iterate-monotone g g-grows k;
        less = λ t s v d. name-less k t s v (up.streams n t s v d);
      })

  iterate-in-least : (k : ℕ) → MeaningsWithin (iterate g k) (least g)
  iterate-in-least k = record { streams = λ m t s v d. (k, d); maps = λ m a b l t s v d. (k, (iterate-monotone g g-grows k).maps m a b l t s v d) }

  unfolded : Gains x y (least f) (least g)
  unfolded =
      record {
        within = record {
          streams = λ m t s v d. (d.0, (iterates-unfold d.0).streams m t s v d.1);
          maps = λ m a b l t s v d. (d.0, (iterates-unfold d.0).maps m a b l t s v d.1);
        };
        left = least-grows f f f-grows;
        right = least-grows g g g-grows;
        less = λ t s v d. denotation-grows y (iterate g d.0) (least g) (iterate-in-least d.0) t s v
            (name-less d.0 t s v ((iterates-unfold d.0).streams n t s v d.1));
      }

  -- what the names mean solves the new equations too
  name-more : Within (denotation y (least f)) ((least f).stream n)
  name-more t s v d =
      (block-solved (fill_definitions D x) z r h).streams n t s v ((right-is x z r (least f) n E D u.is_right_side t s v).1 d)

  still-solved : PointsWithin (g (least f)) (least f)
  still-solved =
      let l = least-grows f f f-grows in
      let q = swapped-scope y x D u.inside u.right_is_free.1 u.name_is_free.1 z r r (within-itself r h.monotone) (least f) (least f)
      (record { within = l; left = l; right = l; less = name-more }) in
      let o = block-solved (fill_definitions D x) z r h in record {
        streams = λ m t s v d. o.streams m t s v (q.streams m t s v d);
        maps = λ m a t s v d. o.maps m a t s v (q.maps m a a (λ i t s v e. e) t s v d);
      }

  folded : Gains y x (least g) (least f)
  folded =
      let l = points-within (least g) (least f) (least-below g g-grows (least f) still-solved) (least-grows f f f-grows).maps in record {
        within = l;
        left = least-grows g g g-grows;
        right = least-grows f f f-grows;
        less = λ t s v d. name-more t s v (denotation-grows y (least g) (least f) l t s v d);
      }

  pub subject-unfolds : Within (denotation (fill C x) (least f)) (denotation (fill C y) (least g))
  subject-unfolds = swapped x y C u.name_is_free.0 u.right_is_free.0 (least f) (least g) unfolded

  pub subject-folds : Within (denotation (fill C y) (least g)) (denotation (fill C x) (least f))
  subject-folds = swapped y x C u.right_is_free.0 u.name_is_free.0 (least g) (least f) folded

pub names-unfold : NamesUnfold
names-unfold C D n E at i j u =
    let x : PlainTree = name at n in
    let y : PlainTree = fill E x in
    derivations-exchanged (block i (fill C x) (fill_definitions D x)) (block j (fill C y) (fill_definitions D y)) (λ r h t s v. (
      (λ d. subst (λ z. denotation (fill C y) (least (equations (fill_definitions D y) z r)) t s v) (opened-alike x y D t)
          (subject-unfolds C D n E at u (frozen_at (fill_definitions D x) t) r h t s v d)),
      (λ d. subst (λ z. denotation (fill C x) (least (equations (fill_definitions D x) z r)) t s v) (opened-alike y x D t)
          (subject-folds C D n E at u (frozen_at (fill_definitions D y) t) r h t s v d)),
    ))

pub first-of-fby-in-programs : FirstOfFbyInPrograms
first-of-fby-in-programs x y i j k =
    derivations-exchanged (first_of i (fby_of j x y)) (first_of k x) (λ r h t s v.
    let inner : Streams = denotations (tree x (tree y no_trees)) r in
    let outer = (operates-as-the-book (denotations (tree (fby_of j x y) no_trees) r)).first_is t s v in
    let begins = (operates-as-the-book inner).fby_begins s v in
    let alone = (operates-as-the-book (denotations (tree x no_trees) r)).first_is t s v in
    ((λ d. alone.1 (begins.0 (outer.0 d))), (λ d. outer.1 (begins.1 (alone.0 d)))))
