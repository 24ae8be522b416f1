-- What a tree denotes grows with the inputs, and needs of a chain of them some one.
use Rattle.lucid_fixed_point.proofs.Common.{ℕ, suc, Elements, Env, empty, scope, args, MeaningsWithin, MeaningsApproached, denotations, equations, meanings}
use Rattle.lucid_fixed_point.specs.Laws.{InputsWithin, InputsApproach, DenotationsGrowWithInputs, DenotationsNeedSomeInputs}
use Rattle.lucid_fixed_point.proofs.Monotone.{denotation-grows, denotations-grow, equations-grow, least-grows, with_arguments-within}
use Rattle.lucid_fixed_point.proofs.Continuous.{denotation-near, denotations-near, equations-near, least-near, with_arguments-near}

meanings-grow : (b c : Elements) → InputsWithin b c → (env : Env) → MeaningsWithin (meanings b env) (meanings c env)
meanings-grow b c h empty = record { streams = h; maps = λ n x y l t s v d. absurd d }
meanings-grow b c h (scope ds z rest) =
    least-grows (equations ds z (meanings b rest)) (equations ds z (meanings c rest))
    (equations-grow ds z (meanings b rest) (meanings c rest) (meanings-grow b c h rest))
meanings-grow b c h (args ns ats es caller rest) =
    with_arguments-within ns (denotations es (meanings b caller)) (denotations es (meanings c caller)) (meanings b rest) (meanings c rest)
    (denotations-grow es (meanings b caller) (meanings c caller) (meanings-grow b c h caller)) (meanings-grow b c h rest)

module _ (b : ℕ → Elements) (c : Elements) (up : (k : ℕ) → InputsWithin (b k) (b (suc k))) (near : InputsApproach b c) where
  meanings-near : (env : Env) → MeaningsApproached (λ k. meanings (b k) env) (meanings c env)
  meanings-near empty = record { streams = near; maps = λ n x y upx l t s v d. absurd d }
  meanings-near (scope ds z rest) =
      least-near (λ k. equations ds z (meanings (b k) rest)) (equations ds z (meanings c rest))
      (λ k. equations-grow ds z (meanings (b k) rest) (meanings (b (suc k)) rest) (meanings-grow (b k) (b (suc k)) (up k) rest))
      (equations-near ds z (λ k. meanings (b k) rest) (meanings c rest) (λ k. meanings-grow (b k) (b (suc k)) (up k) rest) (meanings-near rest))
  meanings-near (args ns ats es caller rest) =
      with_arguments-near ns (λ k. denotations es (meanings (b k) caller)) (denotations es (meanings c caller)) (λ k. meanings (b k) rest) (meanings c rest)
      (denotations-near es (λ k. meanings (b k) caller) (meanings c caller) (λ k. meanings-grow (b k) (b (suc k)) (up k) caller) (meanings-near caller))
      (meanings-near rest)

pub denotations-grow-with-inputs : DenotationsGrowWithInputs
denotations-grow-with-inputs b c h e env = denotation-grows e (meanings b env) (meanings c env) (meanings-grow b c h env)

pub denotations-need-some-inputs : DenotationsNeedSomeInputs
denotations-need-some-inputs b c up near e env =
    denotation-near e (λ k. meanings (b k) env) (meanings c env) (λ k. meanings-grow (b k) (b (suc k)) (up k) env) (meanings-near b c up near env)
