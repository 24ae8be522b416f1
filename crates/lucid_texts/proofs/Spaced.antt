-- Lemmas on a line as it is put together.
use Rattle.lucid_texts.proofs.Common.{◌≡◌, ℕ, List, [], ◌∷◌, ◌++◌, Err, refl, sym, ap, ◌∙◌, append_assoc, cond, append-nil, join_with_byte, ended, Result, Ok, OnOk, is_ok, AllocError}
use Rattle.lucid_texts.specs.Words.{spaced}

-- words joined by blanks are the first one and the others, each behind a blank
pub join-spaced : (w : List ℕ) (ws : List (List ℕ)) → join_with_byte 32 (w ∷ ws) ≡ w ++ spaced ws
join-spaced w [] = sym (append-nil w)
join-spaced w (v ∷ ws) = ap (λ (x : List ℕ). w ++ 32 ∷ x) (join-spaced v ws)

pub spaced-append : (ws vs : List (List ℕ)) → spaced (ws ++ vs) ≡ spaced ws ++ spaced vs
spaced-append [] vs = refl
spaced-append (w ∷ ws) vs = ap (λ (x : List ℕ). 32 ∷ (w ++ x)) (spaced-append ws vs)
    ∙ ap (λ (x : List ℕ). 32 ∷ x) (sym (append_assoc w (spaced ws) (spaced vs)))

-- a first word, words behind it and the end are the line of them all
pub line_one : (to h : List ℕ) (ws : List (List ℕ)) → ((to ++ h) ++ spaced ws) ++ 10 ∷ [] ≡ to ++ ended (join_with_byte 32 (h ∷ ws))
line_one to h ws =
    append_assoc (to ++ h) (spaced ws) (10 ∷ []) ∙ (append_assoc to h (spaced ws ++ 10 ∷ [])
    ∙ ap (λ (x : List ℕ). to ++ x) (sym (append_assoc h (spaced ws) (10 ∷ [])) ∙ ap ended (sym (join-spaced h ws))))

pub more : (a : List ℕ) (ws vs : List (List ℕ)) → (a ++ spaced ws) ++ spaced vs ≡ a ++ spaced (ws ++ vs)
more a ws vs = append_assoc a (spaced ws) (spaced vs) ∙ ap (λ (x : List ℕ). a ++ x) (sym (spaced-append ws vs))

pub line_two : (to h : List ℕ) (ws vs : List (List ℕ)) → (((to ++ h) ++ spaced ws) ++ spaced vs) ++ 10 ∷ [] ≡ to ++ ended (join_with_byte 32 (h ∷ (ws ++ vs)))
line_two to h ws vs = ap ended (more (to ++ h) ws vs) ∙ line_one to h (ws ++ vs)

pub line_three : (to h : List ℕ) (ws vs us : List (List ℕ))
    → ((((to ++ h) ++ spaced ws) ++ spaced vs) ++ spaced us) ++ 10 ∷ [] ≡ to ++ ended (join_with_byte 32 (h ∷ ((ws ++ vs) ++ us)))
line_three to h ws vs us = ap (λ (x : List ℕ). ended (x ++ spaced us)) (more (to ++ h) ws vs) ∙ line_two to h (ws ++ vs) us

-- what was appended, where there was memory
pub appended : (r : Result (Unit {0}) AllocError) (new old end want : List ℕ) → new ≡ cond (is_ok r) (old ++ end) old → old ++ end ≡ want → OnOk r (new ≡ want)
appended (Ok x) new old end want e h = e ∙ h
appended (Err x) new old end want e h = tt
