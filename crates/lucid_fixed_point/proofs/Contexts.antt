-- Trees that denote the same may be exchanged in each context.
use Rattle.lucid_fixed_point.proofs.Common.{◌≡◌, ℕ, zero, suc, ◌↔◌, Option, refl, subst, PlainValue, PlainTree, frozen_at, Env, Elements, Meanings, with_arguments, frozen, iterate, least, Within, EachWithin, MeaningsWithin, IsContinuous, denotation, denotations, equations, meanings, Derives, Context, place, form_of, name_of, call_of, block_of, Contexts, no_contexts, context, DefContexts, no_definitions, is_plain, is_function, is_current, fill, fill_all, fill_definitions}
use Rattle.lucid_fixed_point.specs.Contexts.{DenoteTheSame}
use Rattle.lucid_fixed_point.proofs.Monotone.{operator-grows, denotation-grows, with_stream-within, with_map-within, with_arguments-within, frozen-within}
use Rattle.lucid_fixed_point.proofs.Chains.{within-itself}
use Rattle.lucid_fixed_point.proofs.Solved.{step-iterates-are-continuous, scope-is-continuous, arguments-are-continuous, meanings-are-continuous}
use Rattle.lucid_fixed_point.proofs.Denoted.{denotation-is-derivation}

-- the iterates of a step lie in those of one that is greater where names mean continuous functions
module _ (f g : Meanings → Meanings) (up : (a b : Meanings) → MeaningsWithin a b → IsContinuous b → MeaningsWithin (f a) (g b))
    (continuous : (k : ℕ) → IsContinuous (iterate g k)) where
  iterates-within : (k : ℕ) → MeaningsWithin (iterate f k) (iterate g k)
  iterates-within zero = record { streams = λ n t s v d. absurd d; maps = λ n a b h t s v d. absurd d }
  iterates-within (suc k) = up (iterate f k) (iterate g k) (iterates-within k) (continuous k)

  least-within : MeaningsWithin (least f) (least g)
  least-within =
      record {
        streams = λ n t s v d. (d.0, (iterates-within d.0).streams n t s v d.1);
        maps = λ n a b h t s v d. (d.0, (iterates-within d.0).maps n a b h t s v d.1);
      }

-- What stands in the places doesn't decide whether a block remembers its time.
pub opened-alike : (x y : PlainTree) (ds : DefContexts) (t : ℕ) → frozen_at (fill_definitions ds x) t ≡ frozen_at (fill_definitions ds y) t
opened-alike x y no_definitions t = refl
opened-alike x y (is_plain at n e ds) t = opened-alike x y ds t
opened-alike x y (is_function at n ns ats e ds) t = opened-alike x y ds t
opened-alike x y (is_current at n e ds) t = refl

module _ (x y : PlainTree) (less : (r : Meanings) → IsContinuous r → Within (denotation x r) (denotation y r)) where
  mutual
    exchanged : (c : Context) (q r : Meanings) → MeaningsWithin q r → IsContinuous r → Within (denotation (fill c x) q) (denotation (fill c y) r)
    exchanged place q r h k = λ t s v d. less r k t s v (denotation-grows x q r h t s v d)
    exchanged (form_of at f es) q r h k =
        operator-grows f (denotations (fill_all es x) q) (denotations (fill_all es y) r) (exchanged-all es q r h k)
    exchanged (name_of at n) q r h k = h.streams n
    exchanged (call_of at n es) q r h k = h.maps n (denotations (fill_all es x) q) (denotations (fill_all es y) r) (exchanged-all es q r h k)
    exchanged (block_of at e ds) q r h k = λ t s v d.
        let z : Option ℕ = frozen_at (fill_definitions ds x) t in
        let f : Meanings → Meanings = equations (fill_definitions ds x) z q in
        let g : Meanings → Meanings = equations (fill_definitions ds y) z r in
        let up : MeaningsWithin (least f) (least g) =
        least-within f g (λ a b l m. exchanged-equations ds z q r h k a b l m) (step-iterates-are-continuous (fill_definitions ds y) z r k) in
        subst (λ o. denotation (fill e y) (least (equations (fill_definitions ds y) o r)) t s v) (opened-alike x y ds t)
        (exchanged e (least f) (least g) up (scope-is-continuous (fill_definitions ds y) z r k) t s v d)

    exchanged-all : (es : Contexts) (q r : Meanings) → MeaningsWithin q r → IsContinuous r
        → EachWithin (denotations (fill_all es x) q) (denotations (fill_all es y) r)
    exchanged-all no_contexts q r h k i = λ t s v d. d
    exchanged-all (context e es) q r h k zero = exchanged e q r h k
    exchanged-all (context e es) q r h k (suc i) = exchanged-all es q r h k i

    exchanged-equations : (ds : DefContexts) (z : Option ℕ) (q r : Meanings) → MeaningsWithin q r → IsContinuous r → (a b : Meanings) → MeaningsWithin a b
        → IsContinuous b → MeaningsWithin (equations (fill_definitions ds x) z q a) (equations (fill_definitions ds y) z r b)
    exchanged-equations no_definitions z q r h k a b l m = h
    exchanged-equations (is_plain at n e ds) z q r h k a b l m =
        with_stream-within n (denotation (fill e x) a) (denotation (fill e y) b) (equations (fill_definitions ds x) z q a)
        (equations (fill_definitions ds y) z r b) (exchanged e a b l m) (exchanged-equations ds z q r h k a b l m)
    exchanged-equations (is_function at n ns ats e ds) z q r h k a b l m =
        with_map-within n (λ o. denotation (fill e x) (with_arguments ns o a)) (λ o. denotation (fill e y) (with_arguments ns o b))
        (equations (fill_definitions ds x) z q a) (equations (fill_definitions ds y) z r b)
        (λ o p i. exchanged e (with_arguments ns o a) (with_arguments ns p b) (with_arguments-within ns o p a b i l) (arguments-are-continuous ns p b m))
        (exchanged-equations ds z q r h k a b l m)
    exchanged-equations (is_current at n e ds) z q r h k a b l m =
        with_stream-within n (frozen z (denotation (fill e x) q)) (frozen z (denotation (fill e y) r)) (equations (fill_definitions ds x) z q a)
        (equations (fill_definitions ds y) z r b) (frozen-within z (denotation (fill e x) q) (denotation (fill e y) r) (exchanged e q r h k))
        (exchanged-equations ds z q r h k a b l m)

  -- of a whole program
  derived-exchanged : (c : Context) (b : Elements) (env : Env) (t s : ℕ) (v : PlainValue) → Derives b (fill c x) env t s v → Derives b (fill c y) env t s v
  derived-exchanged c b env t s v d =
      let r : Meanings = meanings b env in
      let k = meanings-are-continuous b env in
      (denotation-is-derivation b (fill c y) env t s v).1
      (exchanged c r r (within-itself r k.monotone) k t s v ((denotation-is-derivation b (fill c x) env t s v).0 d))

pub derivations-exchanged : (x y : PlainTree) → DenoteTheSame x y → (c : Context) (b : Elements) (env : Env) (t s : ℕ) (v : PlainValue)
    → Derives b (fill c x) env t s v ↔ Derives b (fill c y) env t s v
derivations-exchanged x y h c b env t s v = (
  derived-exchanged x y (λ r k t s v. (h r k t s v).0) c b env t s v,
  derived-exchanged y x (λ r k t s v. (h r k t s v).1) c b env t s v,
)
