-- The operators of data, said of streams: the values of all arguments.
use Rattle.lucid_fixed_point.proofs.Common.{◌≡◌, ◌∙◌, ℕ, zero, suc, ◌<◌, ◌↔◌, List, [], ◌∷◌, Option, Some, None, refl, sym, subst, arith, PlainValue, gives, all_values, add_value, run, Reader, added, defined, Streams, operator, with_values, HaveValues, algebra, apply}
use Rattle.lucid_tree.proofs.Plans.{all_values-keeps}
use Rattle.lucid_ops.specs.declared.op.Op.{Op}
use Rattle.lucid_tree.specs.Rows.{arguments}
use Rattle.lucid_fixed_point.proofs.Readers.{put, put-is, put-reads, put-keeps, put-fresh, earlier-part, no_values, no-values, no-values-read}

module _ (a : Streams) (t s : ℕ) where
  -- the values of one argument and of those behind it
  argument-read : (p : Reader (Option PlainValue)) (n i : ℕ) (v : PlainValue) (vs : List PlainValue) → p i t s ≡ Some v
      → all_values p (arguments n (suc i) t s) ≡ Some vs → all_values p (arguments (suc n) i t s) ≡ Some (v ∷ vs)
  argument-read p n i v vs e f = rw (e, f) refl

  values-had : (p : Reader (Option PlainValue)) → ((i u r : ℕ) (w : PlainValue) → p i u r ≡ Some w → a i u r w) → (n i : ℕ) (vs : List PlainValue)
      → all_values p (arguments n i t s) ≡ Some vs → HaveValues a n i t s vs
  values-had p reads zero i vs e = grind (arith, e)
  values-had p reads (suc n) i vs e =
      let d = added (p i t s) (all_values p (arguments n (suc i) t s)) vs e in
      let all : Some (d.0 ∷ d.1) ≡ Some vs = sym (argument-read p n i d.0 d.1 d.2 d.3) ∙ e in
      let same : d.0 ∷ d.1 ≡ vs = grind (arith, all) in
      subst (λ x. HaveValues a (suc n) i t s x) same (reads i t s d.0 d.2, values-had p reads n (suc i) d.1 d.3)

  -- a reader of the arguments from number i on, that has nothing of those before
  record AllRead (n i : ℕ) (vs : List PlainValue) : Type 0 where
    reader : Reader (Option PlainValue)
    reads : (j u r : ℕ) (w : PlainValue) → reader j u r ≡ Some w → a j u r w
    fresh : (j u r : ℕ) → j < i → reader j u r ≡ None
    all : all_values reader (arguments n i t s) ≡ Some vs

  all-read : (n i : ℕ) (vs : List PlainValue) → HaveValues a n i t s vs → AllRead n i vs
  all-read zero i vs e =
      record { reader = no_values; reads = no-values-read a; fresh = λ j u r l. no-values j u r; all = subst (λ x. Some [] ≡ Some x) (sym e) refl }
  all-read (suc n) i [] d = absurd d
  all-read (suc n) i (v ∷ vs) d =
      let more = all-read n (suc i) vs d.1 in
      let p : Reader (Option PlainValue) = put i t s v more.reader in
      let others : all_values p (arguments n (suc i) t s) ≡ Some vs =
      all_values-keeps more.reader p (put-keeps i t s v more.reader (more.fresh i t s (omega arith))) (arguments n (suc i) t s) vs more.all in record {
        reader = p;
        reads = put-reads a i t s v more.reader d.0 more.reads;
        fresh = λ j u r l. put-fresh i t s v more.reader j u r (earlier-part i t s j u r l) (more.fresh j u r (omega (arith, l)));
        all = argument-read p n i v vs (put-is i t s v more.reader) others;
      }

  pub data-is : (op : Op) (n : ℕ) (v : PlainValue)
      → operator (apply op n) a t s v ↔ ((vs : List PlainValue) × HaveValues a n 0 t s vs × (algebra op vs ≡ v))
  data-is op n v = (
    (λ d. let f = defined (all_values d.reader (arguments n 0 t s)) (λ vs. Some (algebra op vs)) v d.value in
        let e : Some (algebra op f.0) ≡ Some v = f.2 in (f.0, values-had d.reader d.reads n 0 f.0 f.1, grind (arith, e))),
    (λ d. let o = all-read n 0 d.0 d.1 in record {
      limit = 0;
      reader = o.reader;
      reads = o.reads;
      value = subst (λ x. with_values x None (λ vs. run (gives (algebra op vs)) o.reader) ≡ Some v) (sym o.all) (subst (λ x. Some (algebra op d.0) ≡ Some x) d.2 refl);
    }),
  )
