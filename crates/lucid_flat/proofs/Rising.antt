-- The rows of a table rise by their parts, and are as many of each part as the table's list has.
use Rattle.lucid_flat.proofs.Common.{◌≡◌, ℕ, ◌<◌, ◌≤◌, ◌+◌, ◌-◌, ◌^◌, suc, Bool, true, false, cond, List, [], ◌∷◌, ◌++◌, map, drop, length, refl, sym, ap, ◌∙◌, subst, arith, ◌==◌, PlainValue, ScopeRow, NodeRow, NameRow, PlaceRow, Table, FlatRow, scope_row, input_row, constant_row, node_row, name_row, place_row, root_row, flat_rows, row_part, next_part, part_behind, rows_so_far, CannotCome}

-- each row comes from the part behind the one before it, or a later one
abbrev pub Rises : ℕ → List FlatRow → Type 0
Rises p [] = Unit {0}
Rises p (r ∷ rs) = (p ≤ row_part r) × Rises (next_part r) rs

rises_map : {A : Type 0} (f : A → FlatRow) (k : ℕ) → ((x : A) → row_part (f x) ≡ k) → ((x : A) → next_part (f x) ≡ k) → (p : ℕ) → p ≤ k
    → (xs : List A) (ys : List FlatRow)
    → ((q : ℕ) → q ≤ k → Rises q ys) → Rises p (map f xs ++ ys)
rises_map f k part next p l [] ys h = h p l
rises_map f k part next p l (x ∷ xs) ys h =
    let P : ℕ → Type 0 = λ q. Rises q (map f xs ++ ys) in
    let e = part x in (omega arith, subst P (sym (next x)) (rises_map f k part next k (omega arith) xs ys h))

-- the rows of a table rise
pub rises_flat : (t : Table) → Rises 0 (flat_rows t)
rises_flat t =
    rises_map scope_row 0 (λ x. refl) (λ x. refl) 0 (omega arith) (drop 1 t.scopes) _ (λ q l.
    rises_map input_row 1 (λ x. refl) (λ x. refl) q (omega arith) t.inputs _ (λ q l.
    rises_map constant_row 2 (λ x. refl) (λ x. refl) q (omega arith) t.constants _ (λ q l.
    rises_map node_row 3 (λ x. refl) (λ x. refl) q (omega arith) t.nodes _ (λ q l.
    rises_map name_row 4 (λ x. refl) (λ x. refl) q (omega arith) t.names _ (λ q l.
    rises_map place_row 5 (λ x. refl) (λ x. refl) q (omega arith) t.places _ (λ q l. (omega arith, tt)))))))

rises_behind : (p : ℕ) (rs : List FlatRow) (r : FlatRow) (more : List FlatRow) → Rises p (rs ++ r ∷ more) → part_behind p rs ≤ row_part r
rises_behind p [] r more h = h.0
rises_behind p (x ∷ rs) r more h = rises_behind (next_part x) rs r more h.1

-- a row of an earlier part can't come
pub too_early : (rs : List FlatRow) (r : FlatRow) → row_part r < part_behind 0 rs → CannotCome rs r
too_early rs r h t more x e =
    let P : List FlatRow → Type 0 = Rises 0 in
    let l = rises_behind 0 rs r more (subst P e (rises_flat t)) in omega arith

-- how many rows are of a part
abbrev pub count : ℕ → List FlatRow → ℕ
count k [] = 0
count k (r ∷ rs) = cond (row_part r == k) 1 0 + count k rs

count-append : (k : ℕ) (rs ss : List FlatRow) → count k (rs ++ ss) ≡ count k rs + count k ss
count-append k [] ss = omega arith
count-append k (r ∷ rs) ss = let e = count-append k rs ss in omega arith

counted : (b : Bool) (n m : ℕ) → b ≡ true → n ≡ m → cond b 1 0 + n ≡ suc m
counted true n m h e = omega arith
counted false n m h e = absurd (cc)

skipped : (b : Bool) (n : ℕ) → b ≡ false → n ≡ 0 → cond b 1 0 + n ≡ 0
skipped true n h e = absurd (cc)
skipped false n h e = omega arith

-- rows that are all of the part, or none
count_all : {A : Type 0} (k : ℕ) (f : A → FlatRow) → ((x : A) → (row_part (f x) == k) ≡ true) → (xs : List A) → count k (map f xs) ≡ length xs
count_all k f h [] = refl
count_all k f h (x ∷ xs) = counted _ _ _ (h x) (count_all k f h xs)

count_none : {A : Type 0} (k : ℕ) (f : A → FlatRow) → ((x : A) → (row_part (f x) == k) ≡ false) → (xs : List A) → count k (map f xs) ≡ 0
count_none k f h [] = refl
count_none k f h (x ∷ xs) = skipped _ _ (h x) (count_none k f h xs)

count_seven : (k : ℕ) (a b c d e f g : List FlatRow)
    → count k (a ++ (b ++ (c ++ (d ++ (e ++ (f ++ g)))))) ≡ count k a + (count k b + (count k c + (count k d + (count k e + (count k f + count k g)))))
count_seven k a b c d e f g =
    let h5 = count-append k f g in
    let h4 = count-append k e (f ++ g) in
    let h3 = count-append k d (e ++ (f ++ g)) in
    let h2 = count-append k c (d ++ (e ++ (f ++ g))) in
    let h1 = count-append k b (c ++ (d ++ (e ++ (f ++ g)))) in
    let h0 = count-append k a (b ++ (c ++ (d ++ (e ++ (f ++ g))))) in omega arith

-- the root's row is of no list
no_root : (k : ℕ) (n : ℕ) (b : Bool) → (6 == k) ≡ false → count k (cond b (root_row n ∷ []) []) ≡ 0
no_root k n true h = skipped (6 == k) 0 h refl
no_root k n false h = refl

-- the rows of a part are as many as the list has
pub count_scopes : (t : Table) (p : ℕ) → count 0 (rows_so_far t p) ≡ length (drop 1 t.scopes)
count_scopes t p =
    let h0 = count_all 0 scope_row (λ x. refl) (drop 1 t.scopes) in
    let h1 = count_none 0 input_row (λ x. refl) (t.inputs) in
    let h2 = count_none 0 constant_row (λ x. refl) (t.constants) in
    let h3 = count_none 0 node_row (λ x. refl) (t.nodes) in
    let h4 = count_none 0 name_row (λ x. refl) (t.names) in
    let h5 = count_none 0 place_row (λ x. refl) (t.places) in
    let h6 = no_root 0 t.root (p == 7) refl in omega (
      arith,
      count_seven 0 (map scope_row (drop 1 t.scopes)) (map input_row t.inputs) (map constant_row t.constants) (map node_row t.nodes)
          (map name_row t.names) (map place_row t.places) (cond (p == 7) (root_row t.root ∷ []) []),
    )

pub count_constants : (t : Table) (p : ℕ) → count 2 (rows_so_far t p) ≡ length (t.constants)
count_constants t p =
    let h0 = count_none 2 scope_row (λ x. refl) (drop 1 t.scopes) in
    let h1 = count_none 2 input_row (λ x. refl) (t.inputs) in
    let h2 = count_all 2 constant_row (λ x. refl) (t.constants) in
    let h3 = count_none 2 node_row (λ x. refl) (t.nodes) in
    let h4 = count_none 2 name_row (λ x. refl) (t.names) in
    let h5 = count_none 2 place_row (λ x. refl) (t.places) in
    let h6 = no_root 2 t.root (p == 7) refl in omega (
      arith,
      count_seven 2 (map scope_row (drop 1 t.scopes)) (map input_row t.inputs) (map constant_row t.constants) (map node_row t.nodes)
          (map name_row t.names) (map place_row t.places) (cond (p == 7) (root_row t.root ∷ []) []),
    )

pub count_nodes : (t : Table) (p : ℕ) → count 3 (rows_so_far t p) ≡ length (t.nodes)
count_nodes t p =
    let h0 = count_none 3 scope_row (λ x. refl) (drop 1 t.scopes) in
    let h1 = count_none 3 input_row (λ x. refl) (t.inputs) in
    let h2 = count_none 3 constant_row (λ x. refl) (t.constants) in
    let h3 = count_all 3 node_row (λ x. refl) (t.nodes) in
    let h4 = count_none 3 name_row (λ x. refl) (t.names) in
    let h5 = count_none 3 place_row (λ x. refl) (t.places) in
    let h6 = no_root 3 t.root (p == 7) refl in omega (
      arith,
      count_seven 3 (map scope_row (drop 1 t.scopes)) (map input_row t.inputs) (map constant_row t.constants) (map node_row t.nodes)
          (map name_row t.names) (map place_row t.places) (cond (p == 7) (root_row t.root ∷ []) []),
    )

pub count_names : (t : Table) (p : ℕ) → count 4 (rows_so_far t p) ≡ length (t.names)
count_names t p =
    let h0 = count_none 4 scope_row (λ x. refl) (drop 1 t.scopes) in
    let h1 = count_none 4 input_row (λ x. refl) (t.inputs) in
    let h2 = count_none 4 constant_row (λ x. refl) (t.constants) in
    let h3 = count_none 4 node_row (λ x. refl) (t.nodes) in
    let h4 = count_all 4 name_row (λ x. refl) (t.names) in
    let h5 = count_none 4 place_row (λ x. refl) (t.places) in
    let h6 = no_root 4 t.root (p == 7) refl in omega (
      arith,
      count_seven 4 (map scope_row (drop 1 t.scopes)) (map input_row t.inputs) (map constant_row t.constants) (map node_row t.nodes)
          (map name_row t.names) (map place_row t.places) (cond (p == 7) (root_row t.root ∷ []) []),
    )

pub count_places : (t : Table) (p : ℕ) → count 5 (rows_so_far t p) ≡ length (t.places)
count_places t p =
    let h0 = count_none 5 scope_row (λ x. refl) (drop 1 t.scopes) in
    let h1 = count_none 5 input_row (λ x. refl) (t.inputs) in
    let h2 = count_none 5 constant_row (λ x. refl) (t.constants) in
    let h3 = count_none 5 node_row (λ x. refl) (t.nodes) in
    let h4 = count_none 5 name_row (λ x. refl) (t.names) in
    let h5 = count_all 5 place_row (λ x. refl) (t.places) in
    let h6 = no_root 5 t.root (p == 7) refl in omega (
      arith,
      count_seven 5 (map scope_row (drop 1 t.scopes)) (map input_row t.inputs) (map constant_row t.constants) (map node_row t.nodes)
          (map name_row t.names) (map place_row t.places) (cond (p == 7) (root_row t.root ∷ []) []),
    )

-- rows of a part, and one more of it
one_more : (k : ℕ) (rs more all : List FlatRow) (r : FlatRow) → (row_part r == k) ≡ true → all ≡ rs ++ r ∷ more → count k rs + 1 ≤ count k all
one_more k rs more all r h e =
    let a = ap (count k) e ∙ count-append k rs (r ∷ more) in
    let b = counted (row_part r == k) (count k more) (count k more) h refl in omega arith

length_drop : {A : Type 0} (xs : List A) → length (drop 1 xs) ≡ length xs - 1
length_drop [] = refl
length_drop (x ∷ xs) = omega arith

-- a row whose list is full can't come
pub full_scopes : (s : Table) (p : ℕ) (x : ScopeRow) → 0 < length s.scopes → 2 ^ 32 ≤ length s.scopes + 1 → CannotCome (rows_so_far s p) (scope_row x)
full_scopes s p x z h t more d e =
    let m = one_more 0 (rows_so_far s p) more (flat_rows t) (scope_row x) refl e in
    omega (arith, count_scopes s p, count_scopes t 7, d.scopes, length_drop s.scopes, length_drop t.scopes)

pub full_constants : (s : Table) (p : ℕ) (x : PlainValue) → 2 ^ 32 ≤ length s.constants + 1 → CannotCome (rows_so_far s p) (constant_row x)
full_constants s p x h t more d e =
    let m = one_more 2 (rows_so_far s p) more (flat_rows t) (constant_row x) refl e in
    omega (arith, count_constants s p, count_constants t 7, d.constants)

pub full_nodes : (s : Table) (p : ℕ) (x : NodeRow) → 2 ^ 32 ≤ length s.nodes + 1 → CannotCome (rows_so_far s p) (node_row x)
full_nodes s p x h t more d e =
    let m = one_more 3 (rows_so_far s p) more (flat_rows t) (node_row x) refl e in
    omega (arith, count_nodes s p, count_nodes t 7, d.nodes)

pub full_names : (s : Table) (p : ℕ) (x : NameRow) → 2 ^ 32 ≤ length s.names + 1 → CannotCome (rows_so_far s p) (name_row x)
full_names s p x h t more d e =
    let m = one_more 4 (rows_so_far s p) more (flat_rows t) (name_row x) refl e in
    omega (arith, count_names s p, count_names t 7, d.names)

pub full_places : (s : Table) (p : ℕ) (x : PlaceRow) → 2 ^ 32 ≤ length s.places + 1 → CannotCome (rows_so_far s p) (place_row x)
full_places s p x h t more d e =
    let m = one_more 5 (rows_so_far s p) more (flat_rows t) (place_row x) refl e in
    omega (arith, count_places s p, count_places t 7, d.places)
