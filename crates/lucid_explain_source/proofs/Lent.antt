-- Lent definitions, one more of them.
use Rattle.lucid_explain_source.proofs.Common.{◌≡◌, ℕ, ◌+◌, ◌<◌, List, ◌∷◌, Bool, length, drop, get_or, Bor, Def, lent, heads, told_text, at_drop_more, list_any, find}

pub any_more : (fit : Def → Bool) (defs : List (Bor Def)) (i : ℕ) (d : Bor Def) → i < length defs
    → list_any fit (lent (drop i defs)) ≡ list_any fit ((get_or defs i d).now ∷ lent (drop (i + 1) defs))
any_more fit defs i d h = at_drop_more (λ xs. list_any fit (lent xs)) defs i d h

pub find_more : (fit : Def → Bool) (defs : List (Bor Def)) (i : ℕ) (d : Bor Def) → i < length defs
    → find fit (lent (drop i defs)) ≡ find fit ((get_or defs i d).now ∷ lent (drop (i + 1) defs))
find_more fit defs i d h = at_drop_more (λ xs. find fit (lent xs)) defs i d h

pub heads_more : (at : ℕ) (defs : List (Bor Def)) (i : ℕ) (d : Bor Def) → i < length defs
    → heads at (lent (drop i defs)) ≡ heads at ((get_or defs i d).now ∷ lent (drop (i + 1) defs))
heads_more at defs i d h = at_drop_more (λ xs. heads at (lent xs)) defs i d h

pub told_more : (source : List ℕ) (fit : Def → Bool) (room : ℕ) (defs : List (Bor Def)) (i : ℕ) (d : Bor Def) → i < length defs
    → told_text source fit room (lent (drop i defs)) ≡ told_text source fit room ((get_or defs i d).now ∷ lent (drop (i + 1) defs))
told_more source fit room defs i d h = at_drop_more (λ xs. told_text source fit room (lent xs)) defs i d h
