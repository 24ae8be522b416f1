-- Owners that are hidden and put back, and the scopes that hide them.
use Rattle.lucid_scope.proofs.Common.{◌≡◌, ℕ, suc, ◌+◌, ◌<◌, Bool, true, false, cond, List, [], ◌∷◌, ◌++◌, length, drop, get_or, None, refl, sym, ap, ◌∙◌, drop-cons, arith, nat_lt, position_or_len, same_name, param, or_outer, parameter_owner, with_owner, put_back, Owner, Saved, option_map}
use Rattle.std.proofs.Common.{Option, Some, not}
use Rattle.lucid_scope.specs.declared.table.Owner.TheVariants.{Parameter}
use Rattle.lucid_scope.proofs.Names.{same_one}

abbrev pub Owners : Type 0
Owners = List ℕ → Option Owner

pub put_back-snoc : (ss : List Saved) (s : Saved) (f : Owners) (n : List ℕ) → put_back (ss ++ s ∷ []) f n ≡ put_back ss (with_owner s.name s.owner f) n
put_back-snoc [] s f n = refl
put_back-snoc (t ∷ ss) s f n = ap (λ o. cond (same_name n t.name) t.owner o) (put_back-snoc ss s f n)

pub put_back-alike : (ss : List Saved) (f g : Owners) → ((n : List ℕ) → f n ≡ g n) → (n : List ℕ) → put_back ss f n ≡ put_back ss g n
put_back-alike [] f g h n = h n
put_back-alike (t ∷ ss) f g h n = ap (λ o. cond (same_name n t.name) t.owner o) (put_back-alike ss f g h n)

hidden : (b : Bool) (m x : List ℕ) (o before : Option Owner) (f g : Owners) → same_name m x ≡ b → before ≡ f x → g m ≡ cond b o (f m)
    → cond b before (g m) ≡ f m
hidden true m x o before f g is e h = e ∙ ap f (sym (same_one m x is))
hidden false m x o before f g is e h = h

-- an owner that is hidden and saved is put back
pub saved_back : (ss : List Saved) (s : Saved) (o : Option Owner) (f g : Owners) → s.owner ≡ f s.name → ((n : List ℕ) → g n ≡ with_owner s.name o f n)
    → (n : List ℕ) → put_back (ss ++ s ∷ []) g n ≡ put_back ss f n
saved_back ss s o f g e h n =
    put_back-snoc ss s g n ∙ put_back-alike ss (with_owner s.name s.owner g) f (λ m. hidden (same_name m s.name) m s.name o s.owner f g refl e (h m)) n

-- a parameter's owner, by its number among those from the i-th on
abbrev pub later_parameter : (def i : ℕ) → Option ℕ → Option Owner
later_parameter def i None = None
later_parameter def i (Some j) = Some (Parameter def (i + j))

place-step : (b : Bool) (p len : ℕ) → cond (nat_lt (cond (not b) (1 + p) 0) (suc len)) (Some (cond (not b) (1 + p) 0)) None ≡ cond b (Some 0)
    (option_map suc (cond (nat_lt p len) (Some p) None))
place-step true p len = grind arith
place-step false p len = grind arith

-- the first of several parameters
pub param-first : (n x : List ℕ) (xs : List (List ℕ)) → param n (x ∷ xs) ≡ cond (same_name n x) (Some 0) (option_map suc (param n xs))
param-first n x xs = place-step (same_name n x) (position_or_len (λ y. same_name n y) xs) (length xs)

pick_parameter : (b : Bool) (q : Option ℕ) (def i : ℕ) (o : Option Owner)
    → cond b (Some (Parameter def i)) (or_outer (later_parameter def (suc i) q) o) ≡ or_outer (later_parameter def i (cond b (Some 0) (option_map suc q))) o
pick_parameter true q def i o = ap (λ j. Some (Parameter def j)) (omega arith)
pick_parameter false None def i o = refl
pick_parameter false (Some j) def i o = ap (λ j. Some (Parameter def j)) (omega arith)

-- one parameter more, in front
pub function-hides : (xs : List (List ℕ)) (i def : ℕ) (x : List ℕ) (f g h : Owners) → i < length xs → x ≡ get_or xs i x
    → ((n : List ℕ) → f n ≡ or_outer (later_parameter def (suc i) (param n (drop (suc i) xs))) (h n))
    → ((n : List ℕ) → g n ≡ with_owner x (Some (Parameter def i)) f n)
    → (n : List ℕ) → g n ≡ or_outer (later_parameter def i (param n (drop i xs))) (h n)
function-hides xs i def x f g h lt is before sets n =
    let split : drop i xs ≡ x ∷ drop (suc i) xs = drop-cons xs i x lt ∙ ap (λ y. y ∷ drop (suc i) xs) (sym is) in
    let more : param n (drop i xs) ≡ cond (same_name n x) (Some 0) (option_map suc (param n (drop (suc i) xs))) = ap (λ l. param n l) split
    ∙ param-first n x (drop (suc i) xs) in
    sets n ∙ ap (λ y. cond (same_name n x) (Some (Parameter def i)) y) (before n)
    ∙ pick_parameter (same_name n x) (param n (drop (suc i) xs)) def i (h n)
    ∙ ap (λ y. or_outer (later_parameter def i y) (h n)) (sym more)

pub all_parameters : (def : ℕ) (q : Option ℕ) → later_parameter def 0 q ≡ parameter_owner def q
all_parameters def None = refl
all_parameters def (Some j) = ap (λ j. Some (Parameter def j)) (omega arith)
