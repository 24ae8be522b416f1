-- Looking a terminal up among spellings.
use Rattle.lucid_parse.proofs.Common.{◌≡◌, ℕ, zero, suc, ◌+◌, ◌<◌, List, [], ◌∷◌, length, map, take, get_or, Some, None, Bool, true, false, cond, refl, sym, ◌∙◌, ap, subst, arith, add-one, and_parts, pair_of, terminal_in, fixed_terminal, form_terminals, ◌||◌, list_any, list_all, is_some, Decides-eqb, slice_eq-Decides}
use Rattle.lucid_value.specs.Plain.{same_bytes}
use Rattle.lucid_value.specs.Names.{is_reserved, reserved_words}
use Rattle.lucid_ops.specs.declared.op.Op.{Op}
use Rattle.lucid_ops.specs.declared.op.Op.TheVariants as op
use Rattle.lucid_ops.specs.Rows.{operator_row}
use Rattle.lucid_scan.specs.Texts.{is_mark, marks}
use Rattle.lucid_parse.specs.declared.spelling.Spelling.{Spelling}
use Rattle.lucid_parse.specs.Spellings.{fixed_plain}

-- the first spelling with these bytes has been found
pub found_here : (bytes : List ℕ) (spellings : List Spelling) (i : ℕ) (d : Spelling) → i < length spellings
    → terminal_in bytes (map pair_of (take i spellings)) ≡ None
    → same_bytes bytes (get_or spellings i d).bytes.now ≡ true → Some (fixed_plain (get_or spellings i d).terminal) ≡ terminal_in bytes (map pair_of spellings)
found_here bytes [] i d h e s = absurd (omega arith)
found_here bytes (x ∷ xs) zero d h e s = sym (ap (λ b. cond b (Some (fixed_plain x.terminal)) (terminal_in bytes (map pair_of xs))) s)
found_here bytes (x ∷ xs) (suc i) d h e s = of (same_bytes bytes x.bytes.now) e (λ f. found_here bytes xs i d (omega arith) f s)
  where
    of : (b : Bool) → cond b (Some (fixed_plain x.terminal)) (terminal_in bytes (map pair_of (take i xs))) ≡ None
        → (terminal_in bytes (map pair_of (take i xs)) ≡ None → Some (fixed_plain (get_or xs i d).terminal) ≡ terminal_in bytes (map pair_of xs))
        → Some (fixed_plain (get_or xs i d).terminal) ≡ cond b (Some (fixed_plain x.terminal)) (terminal_in bytes (map pair_of xs))
    of true f k = cc
    of false f k = k f

not_here_suc : (bytes : List ℕ) (spellings : List Spelling) (i : ℕ) (d : Spelling) → i < length spellings
    → terminal_in bytes (map pair_of (take i spellings)) ≡ None
    → same_bytes bytes (get_or spellings i d).bytes.now ≡ false → terminal_in bytes (map pair_of (take (suc i) spellings)) ≡ None
not_here_suc bytes [] i d h e s = absurd (omega arith)
not_here_suc bytes (x ∷ xs) zero d h e s = ap (λ b. cond b (Some (fixed_plain x.terminal)) None) s
not_here_suc bytes (x ∷ xs) (suc i) d h e s = of (same_bytes bytes x.bytes.now) e (λ f. not_here_suc bytes xs i d (omega arith) f s)
  where
    of : (b : Bool) → cond b (Some (fixed_plain x.terminal)) (terminal_in bytes (map pair_of (take i xs))) ≡ None
        → (terminal_in bytes (map pair_of (take i xs)) ≡ None → terminal_in bytes (map pair_of (take (suc i) xs)) ≡ None)
        → cond b (Some (fixed_plain x.terminal)) (terminal_in bytes (map pair_of (take (suc i) xs))) ≡ None
    of true f k = cc
    of false f k = k f

-- the next spelling has other bytes
pub not_here : (bytes : List ℕ) (spellings : List Spelling) (i : ℕ) (d : Spelling) → i < length spellings
    → terminal_in bytes (map pair_of (take i spellings)) ≡ None
    → same_bytes bytes (get_or spellings i d).bytes.now ≡ false → terminal_in bytes (map pair_of (take (i + 1) spellings)) ≡ None
not_here bytes xs i d h e s = ap (λ k. terminal_in bytes (map pair_of (take k xs))) (add-one i) ∙ not_here_suc bytes xs i d h e s

-- a spelling of some terminal
abbrev stands : List ℕ → Bool
stands text = is_some (fixed_terminal text)

stands_of : (bytes : List ℕ) (texts : List (List ℕ)) → list_all stands texts ≡ true → list_any (λ text. same_bytes bytes text) texts ≡ true
    → stands bytes ≡ true
stands_of bytes [] h e = cc
stands_of bytes (x ∷ xs) h e = of (same_bytes bytes x) refl (and_parts (stands x) (list_all stands xs) h) e (λ g f. stands_of bytes xs g f)
  where
    of : (b : Bool) → same_bytes bytes x ≡ b → (stands x ≡ true) × (list_all stands xs ≡ true) → (b || list_any (λ text. same_bytes bytes text) xs) ≡ true
        → (list_all stands xs ≡ true → list_any (λ text. same_bytes bytes text) xs ≡ true → stands bytes ≡ true) → stands bytes ≡ true
    of true s h e k = subst (λ l. stands l ≡ true) (sym ((slice_eq-Decides Decides-eqb bytes x _ refl).0 s)) h.0
    of false s h e k = k h.1 e

marks_stand : list_all stands marks ≡ true
unfolding form_terminals
marks_stand = refl

words_stand : list_all stands reserved_words ≡ true
unfolding form_terminals reserved_words
words_stand = refl

-- a mark or a reserved word has a terminal
pub has_terminal : (bytes : List ℕ) → (is_mark bytes || is_reserved bytes) ≡ true → fixed_terminal bytes ≡ None → ⊥
has_terminal bytes h e = of (is_mark bytes) refl h
  where
    never : stands bytes ≡ true → ⊥
    never s = let bad : false ≡ true = sym (ap is_some e) ∙ s in cc

    of : (b : Bool) → is_mark bytes ≡ b → (b || is_reserved bytes) ≡ true → ⊥
    of true m h = never (stands_of bytes marks marks_stand m)
    of false m h = never (stands_of bytes reserved_words words_stand h)

-- the spelling of each data operator is a mark or a reserved word
pub operators_are_tokens : (o : Op) → (is_mark (operator_row o).spelling || is_reserved (operator_row o).spelling) ≡ true
unfolding reserved_words
operators_are_tokens op.Add = refl
operators_are_tokens _ = refl
