-- The text of a table is its parts, one after the other; and a table of the code with one root has a text.
use Rattle.lucid_flat.proofs.Common.{◌≡◌, ◌≢◌, ℕ, ◌<◌, ◌-◌, suc, List, [], ◌∷◌, ◌++◌, map, take, drop, length, refl, sym, ap, ◌∙◌, subst, arith, append_assoc, AllByRecursion, flat_map, append-nil, PlainValue, plain, Value, ScopeIs, ScopeKind, Root, ScopeRow, Table, text_of, FlatRow, scope_row, input_row, constant_row, node_row, name_row, place_row, root_row, flat_rows, row_line, first_line, RowFits, IsNoRoot, line_of, all-append}
use Rattle.lucid_texts.specs.TextLines.{ended}
use Rattle.lucid_flat.specs.FlatText.{flat_text}

-- the lines of rows, each ended
abbrev pub lines : List FlatRow → List ℕ
lines rs = flat_map line_of rs

pub lines-ended : (rs : List FlatRow) → text_of (map row_line rs) ≡ lines rs
lines-ended [] = refl
lines-ended (r ∷ rs) = ap (λ (x : List ℕ). line_of r ++ x) (lines-ended rs)

pub lines-append : (rs ss : List FlatRow) → lines (rs ++ ss) ≡ lines rs ++ lines ss
lines-append [] ss = refl
lines-append (r ∷ rs) ss = ap (λ (x : List ℕ). line_of r ++ x) (lines-append rs ss) ∙ sym (append_assoc (line_of r) (lines rs) (lines ss))

-- rows behind a text
further : (h : List ℕ) (a b : List FlatRow) → (h ++ lines a) ++ lines b ≡ h ++ lines (a ++ b)
further h a b = append_assoc h (lines a) (lines b) ∙ ap (λ (x : List ℕ). h ++ x) (sym (lines-append a b))

last_row : (h : List ℕ) (g : FlatRow) → h ++ line_of g ≡ h ++ lines (g ∷ [])
last_row h g = ap (λ (x : List ℕ). h ++ x) (sym (append-nil (line_of g)))

-- six lists of rows and a last row, one after the other
pub seven : (h : List ℕ) (a b c d e f : List FlatRow) (g : FlatRow)
    → ((((((h ++ lines a) ++ lines b) ++ lines c) ++ lines d) ++ lines e) ++ lines f) ++ line_of g ≡ h ++ lines (a ++ (b ++ (c ++ (d ++ (e ++ (f ++ g ∷ []))))))
seven h a b c d e f g =
    last_row (((((h ++ lines a) ++ lines b) ++ lines c) ++ lines d) ++ lines e ++ lines f) g
    ∙ (further ((((h ++ lines a) ++ lines b) ++ lines c) ++ lines d ++ lines e) f (g ∷ [])
    ∙ (further (((h ++ lines a) ++ lines b) ++ lines c ++ lines d) e (f ++ g ∷ [])
    ∙ (further ((h ++ lines a) ++ lines b ++ lines c) d (e ++ (f ++ g ∷ []))
    ∙ (further (h ++ lines a ++ lines b) c (d ++ (e ++ (f ++ g ∷ [])))
    ∙ (further (h ++ lines a) b (c ++ (d ++ (e ++ (f ++ g ∷ [])))) ∙ further h a (b ++ (c ++ (d ++ (e ++ (f ++ g ∷ []))))))))))

-- The text of a table, as it is put together.
pub text_made : (t : Table)
    → ((((((ended first_line ++ lines (map scope_row (drop 1 t.scopes))) ++ lines (map input_row t.inputs)) ++ lines (map constant_row t.constants)) ++ lines
    (map node_row t.nodes))
    ++ lines (map name_row t.names)) ++ lines (map place_row t.places)) ++ line_of (root_row t.root) ≡ flat_text t
text_made t =
    seven (ended first_line) (map scope_row (drop 1 t.scopes)) (map input_row t.inputs) (map constant_row t.constants) (map node_row t.nodes)
    (map name_row t.names) (map place_row t.places) (root_row t.root)
    ∙ ap (λ (x : List ℕ). ended first_line ++ x) (sym (lines-ended (flat_rows t)))

pub constants_rows : (vs : List Value) → map (λ v. constant_row (plain v)) vs ≡ map constant_row (map plain vs)
constants_rows [] = refl
constants_rows (v ∷ vs) = ap (λ (x : List FlatRow). constant_row (plain v) ∷ x) (constants_rows vs)

-- rows that fit unless they are a root's
abbrev pub MayFit : FlatRow → Type 0
MayFit r = IsNoRoot r → RowFits r

pub others_fit : {A : Type 0} (f : A → FlatRow) → ((x : A) → IsNoRoot (f x)) → (xs : List A) → AllByRecursion MayFit (map f xs)
    → AllByRecursion RowFits (map f xs)
others_fit f n [] h = tt
others_fit f n (x ∷ xs) h = (h.0 (n x), others_fit f n xs h.1)

-- the scopes behind the first are no roots
scopes_fit : (xs : List ScopeRow) → ((s p : ℕ) (k : ScopeKind) → ScopeIs xs s p k → k ≢ Root) → AllByRecursion MayFit (map scope_row xs)
    → AllByRecursion RowFits (map scope_row xs)
scopes_fit [] o h = tt
scopes_fit (x ∷ xs) o h = (h.0 (o 0 x.parent x.kind refl), scopes_fit xs (λ s p k e. o (suc s) p k e) h.1)

pub inner_fit : (xs : List ScopeRow) → ((s p : ℕ) (k : ScopeKind) → 0 < s → ScopeIs xs s p k → k ≢ Root) → AllByRecursion MayFit (map scope_row (drop 1 xs))
    → AllByRecursion RowFits (map scope_row (drop 1 xs))
inner_fit [] o h = tt
inner_fit (x ∷ xs) o h = scopes_fit xs (λ s p k e. o (suc s) p k (omega arith) e) h

-- All rows of a table fit where those of each list do.
pub rows_fit : (a b c d e f : List FlatRow) (g : FlatRow) → AllByRecursion RowFits a → AllByRecursion RowFits b → AllByRecursion RowFits c
    → AllByRecursion RowFits d
    → AllByRecursion RowFits e → AllByRecursion RowFits f → RowFits g → AllByRecursion RowFits (a ++ (b ++ (c ++ (d ++ (e ++ (f ++ g ∷ []))))))
rows_fit a b c d e f g p q r s t u v =
    all-append RowFits a _ p (all-append RowFits b _ q
    (all-append RowFits c _ r (all-append RowFits d _ s (all-append RowFits e _ t (all-append RowFits f _ u (v, tt))))))

-- lines of rows that are the same
pub lines_of : {A : Type 0} (new old : List ℕ) (f : A → FlatRow) (xs ys : List A) → xs ≡ ys → new ≡ old ++ lines (map f xs) → new ≡ old ++ lines (map f ys)
lines_of new old f xs ys e h = h ∙ ap (λ (zs : List _). old ++ lines (map f zs)) e

pub fits_of : {A : Type 0} (f : A → FlatRow) (xs ys : List A) → xs ≡ ys → AllByRecursion MayFit (map f xs) → AllByRecursion MayFit (map f ys)
fits_of {A} f xs ys e h =
    let P : List A → Type 0 = λ zs. AllByRecursion MayFit (map f zs) in subst P e h

pub constant_lines : (new old : List ℕ) (vs : List Value) (ws : List PlainValue) → map plain vs ≡ ws → new ≡ old ++ lines (map (λ v. constant_row (plain v)) vs)
    → new ≡ old ++ lines (map constant_row ws)
constant_lines new old vs ws e h = h ∙ ap (λ (rs : List FlatRow). old ++ lines rs) (constants_rows vs ∙ ap (map constant_row) e)

pub constant_fits : (vs : List Value) (ws : List PlainValue) → map plain vs ≡ ws → AllByRecursion MayFit (map (λ v. constant_row (plain v)) vs)
    → AllByRecursion RowFits (map constant_row ws)
constant_fits vs ws e h =
    let P : List FlatRow → Type 0 = AllByRecursion RowFits in
    subst P (constants_rows vs ∙ ap (map constant_row) e) (others_fit (λ (v : Value). constant_row (plain v)) (λ v. tt) vs h)

take_all : {A : Type 0} (xs : List A) → take (length xs) xs ≡ xs
take_all [] = refl
take_all (x ∷ xs) = ap (λ (ys : List _). x ∷ ys) (take_all xs)

-- a slice from 1 on
pub slice_tail : {A : Type 0} (xs ys : List A) → xs ≡ ys → take (length xs - 1) (drop 1 xs) ≡ drop 1 ys
slice_tail {A} xs ys e = whole xs ∙ ap (drop 1) e
  where
    whole : (zs : List A) → take (length zs - 1) (drop 1 zs) ≡ drop 1 zs
    whole [] = refl
    whole (z ∷ zs) =
        let n : suc (length zs) - 1 ≡ length zs = omega arith in rw n (take_all zs)

-- A text that was put together part by part.
pub text_from : (t : Table) (t0 t1 t2 t3 t4 t5 t6 t7 : List ℕ) → t0 ≡ ended first_line → t1 ≡ t0 ++ lines (map scope_row (drop 1 t.scopes))
    → t2 ≡ t1 ++ lines (map input_row t.inputs)
    → t3 ≡ t2 ++ lines (map constant_row t.constants) → t4 ≡ t3 ++ lines (map node_row t.nodes) → t5 ≡ t4 ++ lines (map name_row t.names)
    → t6 ≡ t5 ++ lines (map place_row t.places) → t7 ≡ t6 ++ line_of (root_row t.root) → t7 ≡ flat_text t
text_from t t0 t1 t2 t3 t4 t5 t6 t7 e0 e1 e2 e3 e4 e5 e6 e7 =
    let h = text_made t in rw (e7, e6, e5, e4, e3, e2, e1, e0) h
