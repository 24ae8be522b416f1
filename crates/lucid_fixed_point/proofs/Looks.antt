-- The operators of rows that look at one part, or at one and then at another, said of streams.
use Rattle.lucid_fixed_point.proofs.Common.{◌≡◌, ℕ, ◌↔◌, false, [], Option, Some, None, nat_eq, refl, sym, subst, arith, PlainValue, Head, Plan, gives, gives_part, look, plan, run, Reader, add_value, with_values, Streams, operator}
use Rattle.lucid_tree.specs.Rows.{single}
use Rattle.lucid_fixed_point.proofs.Readers.{put, put-is, put-reads, put-keeps, put-fresh, other-parts, no_values, no-values, no-values-read}

pub looked : (o : Option PlainValue) (p : Reader (Option PlainValue)) (v : PlainValue)
    → with_values (add_value o (Some [])) None (λ vs. run (single gives vs) p) ≡ Some v → o ≡ Some v
looked None p v e = absurd (grind arith)
looked (Some w) p v e = e

pub looks-up : (o : Option PlainValue) (p : Reader (Option PlainValue)) (v : PlainValue) → o ≡ Some v
    → with_values (add_value o (Some [])) None (λ vs. run (single gives vs) p) ≡ Some v
looks-up None p v e = absurd (grind arith)
looks-up (Some w) p v e = e

-- a look reads a value, with which the plan goes on
looked_on : (o : Option PlainValue) (k : PlainValue → Plan) (p : Reader (Option PlainValue)) (v : PlainValue)
    → with_values (add_value o (Some [])) None (λ vs. run (single k vs) p) ≡ Some v → (w : PlainValue) × (o ≡ Some w) × (run (k w) p ≡ Some v)
looked_on None k p v e = absurd (grind arith)
looked_on (Some w) k p v e = (w, refl, e)

pub looks-on : (o : Option PlainValue) (k : PlainValue → Plan) (p : Reader (Option PlainValue)) (v w : PlainValue) → o ≡ Some w → run (k w) p ≡ Some v
    → with_values (add_value o (Some [])) None (λ vs. run (single k vs) p) ≡ Some v
looks-on o k p v w e h = subst (λ x. with_values (add_value x (Some [])) None (λ vs. run (single k vs) p) ≡ Some v) (sym e) h

module _ (a : Streams) where
  -- the plan gives the value to a reader that reads of the streams only what they have
  pub record Ran (p : Plan) (v : PlainValue) : Type 0 where
    pub reader : Reader (Option PlainValue)
    pub reads : (i u r : ℕ) (w : PlainValue) → reader i u r ≡ Some w → a i u r w
    pub runs : run p reader ≡ Some v

  -- an operator is the run of its row, which is this plan at each limit
  pub row-ran : (f : Head) (t s : ℕ) (v : PlainValue) (p : Plan) → ((m : ℕ) → plan m f t s ≡ p) → operator f a t s v ↔ Ran p v
  row-ran f t s v p h = (
    (λ d. record { reader = d.reader; reads = d.reads; runs = subst (λ q. run q d.reader ≡ Some v) (h d.limit) d.value }),
    (λ d. record { limit = 0; reader = d.reader; reads = d.reads; value = subst (λ q. run q d.reader ≡ Some v) (sym (h 0)) d.runs }),
  )

  pub value-ran : (x v : PlainValue) → Ran (gives x) v ↔ (x ≡ v)
  value-ran x v = (
    (λ d. let e : Some x ≡ Some v = d.runs in grind (arith, e)),
    (λ e. record { reader = no_values; reads = no-values-read a; runs = subst (λ y. Some x ≡ Some y) e refl }),
  )

  pub part-ran : (i u r : ℕ) (v : PlainValue) → Ran (gives_part i u r) v ↔ a i u r v
  part-ran i u r v = (
    (λ d. d.reads i u r v (looked (d.reader i u r) d.reader v d.runs)),
    (λ d. let p : Reader (Option PlainValue) = put i u r v no_values in record {
      reader = p;
      reads = put-reads a i u r v no_values d (no-values-read a);
      runs = looks-up (p i u r) p v (put-is i u r v no_values);
    }),
  )

  -- a row that gives one part at one point
  pub one-part : (f : Head) (t s i u r : ℕ) (v : PlainValue) → ((m : ℕ) → plan m f t s ≡ gives_part i u r) → operator f a t s v ↔ a i u r v
  one-part f t s i u r v h =
      let o = row-ran f t s v (gives_part i u r) h in
      let p = part-ran i u r v in ((λ d. p.0 (o.0 d)), (λ d. o.1 (p.1 d)))

  -- a row that gives a value without a look
  pub one-value : (f : Head) (t s : ℕ) (x v : PlainValue) → ((m : ℕ) → plan m f t s ≡ gives x) → operator f a t s v ↔ (x ≡ v)
  one-value f t s x v h =
      let o = row-ran f t s v (gives x) h in
      let p = value-ran x v in ((λ d. p.0 (o.0 d)), (λ d. o.1 (p.1 d)))

  -- a plan that begins with a look at a part
  module _ (i u r l : ℕ) (k : PlainValue → Plan) (v : PlainValue) where
    pub first-look : Ran (look i u r l k) v → (w : PlainValue) × a i u r w × Ran (k w) v
    first-look d =
        let o = looked_on (d.reader i u r) k d.reader v d.runs in
        (o.0, d.reads i u r o.0 o.1, record { reader = d.reader; reads = d.reads; runs = o.2 })

    -- and then gives a value
    pub look-then-value : (w : PlainValue) → a i u r w → ((p : Reader (Option PlainValue)) → run (k w) p ≡ Some v) → Ran (look i u r l k) v
    look-then-value w d h =
        let p : Reader (Option PlainValue) = put i u r w no_values in record {
          reader = p;
          reads = put-reads a i u r w no_values d (no-values-read a);
          runs = looks-on (p i u r) k p v w (put-is i u r w no_values) (h p);
        }

    -- and then looks at another part
    pub look-then-part : (w : PlainValue) → a i u r w → (j y z : ℕ) (x : PlainValue) → nat_eq j i ≡ false → a j y z x
        → ((p : Reader (Option PlainValue)) → p j y z ≡ Some x → run (k w) p ≡ Some v) → Ran (look i u r l k) v
    look-then-part w d j y z x off e h =
        let q : Reader (Option PlainValue) = put j y z x no_values in
        let p : Reader (Option PlainValue) = put i u r w q in
        let free : q i u r ≡ None = put-fresh j y z x no_values i u r (other-parts j y z i u r off) (no-values i u r) in record {
          reader = p;
          reads = put-reads a i u r w q d (put-reads a j y z x no_values e (no-values-read a));
          runs = looks-on (p i u r) k p v w (put-is i u r w q) (h p (put-keeps i u r w q free j y z x (put-is j y z x no_values)));
        }
