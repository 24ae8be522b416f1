-- Steps of a round, and of the number that is added.
use Rattle.lucid_cycles.proofs.Common.{◌≡◌, ℕ, ◌+◌, ◌<◌, ◌≤◌, List, [], ◌∷◌, length, get_or, take, ◌⊎◌, inl, inr, Option, Some, sym, ap, subst, ◌∙◌, arith, ◌++◌, ℤ, pos, ◌+ℤ◌, ◌≤ℤ◌, All, ints, All-weaker, All-more, All-head, In, Edge, edge, potential, Adds, Raises, RaisesFrom, IsDue, IsRound, Makes, Rounding, AreLeastAdded, take_more}
use Rattle.std.proofs.Common.{None}
use Rattle.lucid_cycles.specs.Potentials.{AddsFrom}
use Rattle.lucid_cycles.specs.Rounds.{IsRaised}
use Rattle.lucid_cycles.proofs.Sums.{by}
use Rattle.lucid_cycles.proofs.Lists.{all-left, all-right, in-at}

more : (y want has : ℕ) (t : ℤ) → pos (y + 1) ≤ℤ (pos want +ℤ t) → want ≤ has → pos (y + 1) ≤ℤ (pos has +ℤ t)
more y want has t h l = omega (arith, ints)

pub edge-is : (e : Edge) (x : ℕ) → e.from ≡ Some x → e ≡ edge x e.to e.delay
edge-is e x n = λ i. record { from = n i; to = e.to; delay = e.delay }

raises-on : (a : ℕ) (p old new : List ℕ) → ((x : ℕ) → potential old x ≤ potential new x) → (y : ℕ) (w : ℤ) (from : Option ℕ) → RaisesFrom a p old from y w
    → RaisesFrom a p new from y w
raises-on a p old new h y w None r = tt
raises-on a p old new h y w (Some x) r = more (potential p y) (potential old x) (potential new x) (by a w) r (h x)

due-on : (g : List Edge) (a : ℕ) (p old new : List ℕ) (e : Edge) (x : ℕ) → In e g → (potential old x ≡ potential p x) ⊎ IsDue g a p x (potential old x)
    → (potential new x ≡ potential old x) ⊎ Makes a p x (potential new x) e → (potential new x ≡ potential p x) ⊎ IsDue g a p x (potential new x)
due-on g a p old new e x i (inl s) (inl t) = inl (t ∙ s)
due-on g a p old new e x i (inr d) (inl t) = inr (subst (IsDue g a p x) (sym t) d)
due-on g a p old new e x i o (inr m) = inr (record { to = e.to; delay = e.delay; stands = subst (λ y. In y g) (edge-is e x m.from_name) i; is = m.is })

pub rounding-more : (g : List Edge) (a : ℕ) (p old new : List ℕ) (i : ℕ) (e : Edge) → i < length g → e ≡ get_or g i e → Rounding g a p old i
    → IsRaised a p old new e → Rounding g a p new (i + 1)
rounding-more g a p old new i e h is r d = record {
  same = d.same ∙ r.same;
  rises = λ x. omega (arith, r.rises x, d.rises x);
  raises = All-more (Raises a p new) g i e h (All-weaker (Raises a p old) (Raises a p new) (λ f q. raises-on a p old new d.rises f.to f.delay f.from q)
      (take i g) r.raises)
      (subst (Raises a p new) is d.raises);
  due = λ x. due-on g a p old new e x (in-at g i e h is) (r.due x) (d.due x);
}

pub rounding-end : (g : List Edge) (a : ℕ) (p q : List ℕ) (i : ℕ) → take i g ≡ g → Rounding g a p q i → IsRound g a p q
rounding-end g a p q i e r = record { same = r.same; rises = r.rises; raises = subst (All (Raises a p q)) e r.raises; due = r.due }

shift : (y c d : ℕ) (t : ℤ) → pos (y + 2) ≤ℤ (pos c +ℤ t) → c ≤ d → pos (y + 2) ≤ℤ (pos d +ℤ t)
shift y c d t r h = omega (arith, ints)

adds-on : (a : ℕ) (p : List ℕ) (c d : ℕ) → c ≤ d → (y : ℕ) (w : ℤ) (from : Option ℕ) → AddsFrom a p c from y w → AddsFrom a p d from y w
adds-on a p c d h y w (Some x) r = tt
adds-on a p c d h y w None r = shift (potential p y) c d (by a w) r h

pub added-more : (g : List Edge) (a : ℕ) (p : List ℕ) (c d i : ℕ) (e : Edge) → i < length g → e ≡ get_or g i e → AreLeastAdded a p c (take i g)
    → c ≤ d → Adds a p d e → ((m : ℕ) → c ≤ m → Adds a p m e → d ≤ m) → AreLeastAdded a p d (take (i + 1) g)
added-more g a p c d i e h is l k q m = record {
  enough = record {
    two = omega (arith, l.enough.two, k);
    adds = All-more (Adds a p d) g i e h (All-weaker (Adds a p c) (Adds a p d) (λ f r. adds-on a p c d k f.to f.delay f.from r) (take i g) l.enough.adds)
        (subst (Adds a p d) is q);
  };
  least = λ n r.
      let q : All (Adds a p n) (take i g ++ e ∷ []) = subst (All (Adds a p n)) (take_more g i e h ∙ ap (λ x. take i g ++ x ∷ []) (sym is)) r.adds in
      m n (l.least n (record { two = r.two; adds = all-left (Adds a p n) (take i g) (e ∷ []) q }))
      (All-head (Adds a p n) e [] (all-right (Adds a p n) (take i g) (e ∷ []) q));
}
