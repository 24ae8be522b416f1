-- The first of these that may stand, with one more before these.
use Rattle.std.proofs.Common.{◌≡◌, ℕ, suc, ◌-◌, ◌<◌, List, ◌∷◌, sym, subst, arith}
use Rattle.lucid_explain_places.specs.declared.candidates.Candidate.{Candidate}
use Rattle.lucid_explain_places.specs.Standing.{MayStand, text_and_told, AreFirst, stands, passed, no_room}

pub first_no_room : (source : List ℕ) (at room : ℕ) (c : Candidate) (these : List (List ℕ × List ℕ)) (those : List Candidate) → room ≡ 0
    → AreFirst source at (room - 0) these those → AreFirst source at room (text_and_told c ∷ these) those
first_no_room source at room c these those none f =
    let P : ℕ → Type 0 = λ n. AreFirst source at n these those in
    let Q : ℕ → Type 0 = λ n. AreFirst source at n (text_and_told c ∷ these) those in
    let e : room - 0 ≡ 0 = omega (arith, none) in
    subst Q (sym none) (no_room (text_and_told c) these those (subst P e f))

pub first_stands : (source : List ℕ) (at room : ℕ) (c : Candidate) (these : List (List ℕ × List ℕ)) (those : List Candidate) → 0 < room
    → MayStand source at c.text.now → AreFirst source at (room - 1) these those → AreFirst source at room (text_and_told c ∷ these) (c ∷ those)
first_stands source at room c these those some may f =
    let Q : ℕ → Type 0 = λ n. AreFirst source at n (text_and_told c ∷ these) (c ∷ those) in
    let e : suc (room - 1) ≡ room = omega (arith, some) in
    subst Q e (stands (room - 1) c these those may f)

pub first_passed : (source : List ℕ) (at room : ℕ) (c : Candidate) (these : List (List ℕ × List ℕ)) (those : List Candidate)
    → (MayStand source at c.text.now → ⊥) → AreFirst source at (room - 0) these those → AreFirst source at room (text_and_told c ∷ these) those
first_passed source at room c these those may f =
    let P : ℕ → Type 0 = λ n. AreFirst source at n these those in
    let e : room - 0 ≡ room = omega arith in
    passed room (text_and_told c) these those may (subst P e f)
