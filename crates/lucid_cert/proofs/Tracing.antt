-- The trace of a judgment in the making.
use Rattle.lucid_cert.proofs.Common.{◌≡◌, ℕ, ◌+◌, ◌≤◌, List, [], ◌∷◌, ◌++◌, length, Some, sym, ap, ◌∙◌, subst, arith, append_assoc, length-append, append-nil, PlainValue, Plan, Uses, fed, Stands, rest_plan, Rest, gives_only, plain_look, Trace, gone}
use Rattle.lucid_tree.specs.Rows.{Look}
use Rattle.lucid_cert.proofs.Feeding.{feeds_on, gives_alone}
use Rattle.lucid_cert.specs.Traces.{begun}

pub push_length : (us : List ℕ) (u : ℕ) → length (us ++ u ∷ []) ≡ length us + 1
push_length us u = omega (arith, length-append us (u ∷ []))

module _ (limited : ℕ → Plan) (time : ℕ) (value : Uses) where
  -- a rest stands after all the uses
  pub stands_after : {us : List ℕ} {vs : List PlainValue} {r : Rest} → Trace limited time value us vs r → Stands (length us) r
  stands_after (begun r b s) = s
  stands_after (gone us vs l u v r t told goes stands) = subst (λ k. Stands k r) (sym (push_length us u)) (stands (length us) (stands_after t))

  -- the uses feed the plan to the rest, which further uses feed on
  pub feeds : {us : List ℕ} {vs : List PlainValue} {r : Rest} → Trace limited time value us vs r → (m most : ℕ) (ws : List ℕ) → time + (length us + most) ≤ m
      → length ws ≤ most
      → fed value (limited m) (us ++ ws) ≡ fed value (rest_plan m vs r) ws
  feeds (begun r b s) m most ws h k = (b m most (omega (arith, h))).fed value ws k
  feeds (gone us vs l u v r t told goes stands) m most ws h k =
      let n = push_length us u in
      ap (fed value (limited m)) (append_assoc us (u ∷ []) ws)
      ∙ feeds_on value (fed value (limited m) (us ++ u ∷ ws)) m most vs l u ws v r (feeds t m (most + 1) (u ∷ ws) (omega (arith, h, n)) (omega (arith, k))) told
      (goes m (length us) most vs (stands_after t) (omega (arith, h, n))) k

  -- So where the rest gives a value by itself, the plan is fed to that by exactly the uses.
  pub ends : {us : List ℕ} {vs : List PlainValue} {r : Rest} → Trace limited time value us vs r → (v : PlainValue)
      → gives_only (rest_plan (time + length us) vs r) v
      → fed value (limited (time + length us)) us ≡ Some v
  ends {us} {vs} {r} t v g =
      ap (fed value (limited (time + length us))) (sym (append-nil us))
      ∙ (feeds t (time + length us) 0 [] (omega arith) (omega arith) ∙ gives_alone value (time + length us) vs r v g)

  -- it is one where more is told
  pub traced_by : (more : Uses) → ((l : Look) (u : ℕ) (v : PlainValue) → value l u ≡ Some v → more l u ≡ Some v)
      → {us : List ℕ} {vs : List PlainValue} {r : Rest} → Trace limited time value us vs r
      → Trace limited time more us vs r
  traced_by more f (begun r b s) = begun r b s
  traced_by more f (gone us vs l u v r t told goes stands) = gone us vs l u v r (traced_by more f t) (f (plain_look l) u v told) goes stands
