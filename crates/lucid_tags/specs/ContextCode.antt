-- Contexts as lists of numbers, by which a proof tells them apart.
use Rattle.std.specs.Prelude.{◌≡◌, ℕ, zero, suc, List, [], ◌∷◌, ◌++◌, refl}
use Rattle.std.specs.Coded.{Coded, code_by, coded×, coded_ℕ, coded_list}
use Rattle.std.proofs.Common.{◌∙◌, append_assoc, ap, sym}
use Rattle.std.proofs.lemmas.List.{append-nil}
use Rattle.lucid_tags.specs.Contexts.{Context, root, call_frame, frozen_frame}

-- A step builds a context on the top of a stack: (0, 0) adds the empty one, (1, place) puts a call of the topmost
-- context, the caller, over the one below it, and (2, time) puts a frozen time over the topmost one.
abbrev pub Steps : Type 0
Steps = List (ℕ × ℕ)

abbrev pub steps : Context → Steps
steps root = (0, 0) ∷ []
steps (call_frame place caller base) = steps base ++ (steps caller ++ (1, place) ∷ [])
steps (frozen_frame time base) = steps base ++ (2, time) ∷ []

abbrev pub step : (kind number : ℕ) → List Context → List Context
step zero n stack = root ∷ stack
step (suc zero) n (caller ∷ (base ∷ stack)) = call_frame n caller base ∷ stack
step (suc (suc k)) n (base ∷ stack) = frozen_frame n base ∷ stack
step _ n stack = stack

abbrev pub run : Steps → List Context → List Context
run [] stack = stack
run (s ∷ rest) stack = run rest (step s.0 s.1 stack)

abbrev pub top : List Context → Context
top [] = root
top (c ∷ stack) = c

pub run-steps : (c : Context) (rest : Steps) (stack : List Context) → run (steps c ++ rest) stack ≡ run rest (c ∷ stack)
run-steps root rest stack = refl
run-steps (call_frame place caller base) rest stack =
    ap (λ s. run s stack) (append_assoc (steps base) (steps caller ++ (1, place) ∷ []) rest)
    ∙ run-steps base ((steps caller ++ (1, place) ∷ []) ++ rest) stack
    ∙ ap (λ s. run s (base ∷ stack)) (append_assoc (steps caller) ((1, place) ∷ []) rest)
    ∙ run-steps caller ((1, place) ∷ rest) (base ∷ stack)
run-steps (frozen_frame time base) rest stack =
    ap (λ s. run s stack) (append_assoc (steps base) ((2, time) ∷ []) rest)
    ∙ run-steps base ((2, time) ∷ rest) stack

abbrev pub context_from : Steps → Context
context_from s = top (run s [])

pub context_from-steps : (c : Context) → context_from (steps c) ≡ c
context_from-steps c = ap (λ s. top (run s [])) (sym (append-nil (steps c))) ∙ ap top (run-steps c [] [])

abbrev pub context_code : Coded Context
context_code = code_by Steps (coded_list (coded× coded_ℕ coded_ℕ)) steps context_from context_from-steps

-- the code of the list of the known contexts
abbrev pub known_code : Coded (List Context)
known_code = coded_list context_code
