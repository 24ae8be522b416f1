-- The first inputs that have no file, with one more name before these.
use Rattle.std.proofs.Common.{◌≡◌, ℕ, suc, ◌+◌, ◌-◌, ◌<◌, List, ◌∷◌, sym, subst, arith}
use Rattle.lucid_scope.specs.declared.scoped.Scoped.{Scoped}
use Rattle.lucid_explain_run.specs.declared.inputs.Lacking.{Lacking}
use Rattle.lucid_explain_run.specs.Inputs.{IsLacking, IsWanted, AreFirst, lacks, passed, no_room}

module _ (scoped : Scoped) (given : List (List ℕ)) (end : ℕ) where
  pub first_no_room : (room stream : ℕ) (name : List ℕ) (names : List (List ℕ)) (those : List Lacking) → room ≡ 0
      → AreFirst scoped given end (room - 0) (stream + 1) names those → AreFirst scoped given end room stream (name ∷ names) those
  first_no_room room stream name names those none f =
      let P : ℕ → Type 0 = λ n. AreFirst scoped given end n (stream + 1) names those in
      let Q : ℕ → Type 0 = λ n. AreFirst scoped given end n stream (name ∷ names) those in
      let e : room - 0 ≡ 0 = omega (arith, none) in
      subst Q (sym none) (no_room stream name names those (subst P e f))

  pub first_lacks : (room stream : ℕ) (l : Lacking) (name : List ℕ) (names : List (List ℕ)) (those : List Lacking) → 0 < room → IsLacking scoped given stream l
      → l.name.now ≡ name
      → AreFirst scoped given end (room - 1) (stream + 1) names those → AreFirst scoped given end room stream (name ∷ names) (l ∷ those)
  first_lacks room stream l name names those some lacking is f =
      let Q : ℕ → Type 0 = λ n. AreFirst scoped given end n stream (l.name.now ∷ names) (l ∷ those) in
      let R : List ℕ → Type 0 = λ n. AreFirst scoped given end room stream (n ∷ names) (l ∷ those) in
      let e : suc (room - 1) ≡ room = omega (arith, some) in
      subst R is (subst Q e (lacks (room - 1) stream l names those lacking f))

  pub first_passed : (room stream : ℕ) (name : List ℕ) (names : List (List ℕ)) (those : List Lacking) → (IsWanted scoped given end stream name → ⊥)
      → AreFirst scoped given end (room - 0) (stream + 1) names those → AreFirst scoped given end room stream (name ∷ names) those
  first_passed room stream name names those unwanted f =
      let P : ℕ → Type 0 = λ n. AreFirst scoped given end n (stream + 1) names those in
      let e : room - 0 ≡ room = omega arith in
      passed room stream name names those unwanted (subst P e f)
