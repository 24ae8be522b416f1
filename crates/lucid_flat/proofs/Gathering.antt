-- A row added to the list of its part stands behind all rows so far.
use Rattle.lucid_flat.proofs.Common.{◌≡◌, ℕ, ◌<◌, ◌≤◌, ◌+◌, ◌^◌, Bool, true, false, cond, List, [], ◌∷◌, ◌++◌, map, drop, length, refl, sym, ap, ◌∙◌, subst, arith, append_assoc, length-append, ◌==◌, MatchBool, AllByRecursion, append-nil, length-map, PlainValue, plain, Value, ScopeIs, ScopeRow, NodeRow, NameRow, PlaceRow, Table, FlatRow, scope_row, input_row, constant_row, node_row, name_row, place_row, root_row, RowFits, row_part, next_part, part_behind, rows_so_far, IsBegun, CannotCome, all-append, ne_eqb}
use Rattle.lucid_equations.specs.declared.rows.ScopeKind.TheVariants.{Root as RootScope}
use Rattle.lucid_flat.specs.FlatTables.{IsShort}
use Rattle.lucid_flat.specs.Gathered.{AreEmptyBehind}
use Rattle.lucid_flat.proofs.Rising.{full_scopes, full_constants, full_nodes, full_names, full_places}

map-push : {A : Type 0} (f : A → FlatRow) (xs : List A) (x : A) → map f (xs ++ x ∷ []) ≡ map f xs ++ f x ∷ []
map-push f [] x = refl
map-push f (y ∷ xs) x = ap (λ (rs : List FlatRow). f y ∷ rs) (map-push f xs x)

pub behind-push : (p : ℕ) (rs : List FlatRow) (r : FlatRow) → part_behind p (rs ++ r ∷ []) ≡ next_part r
behind-push p [] r = refl
behind-push p (x ∷ rs) r = behind-push (next_part x) rs r

-- rows with one more row are begun
begun_by : (t s : Table) (q p : ℕ) (r : FlatRow) → rows_so_far t q ≡ rows_so_far s p ++ r ∷ [] → q ≡ next_part r → IsBegun s p → RowFits r → AreEmptyBehind t q
    → ScopeIs t.scopes 0 0 RootScope → IsShort t.scopes → IsShort t.constants → IsShort t.nodes → IsShort t.names → IsShort t.places → IsBegun t q
begun_by t s q p r e n b f m root c0 c1 c2 c3 c4 =
    let P : List FlatRow → Type 0 = AllByRecursion RowFits in record {
      root = root;
      fit = subst P (sym e) (all-append RowFits (rows_so_far s p) (r ∷ []) b.fit (f, tt));
      part = n ∙ (sym (behind-push 0 (rows_so_far s p) r) ∙ ap (part_behind 0) (sym e));
      empty = m;
      scopes = c0;
      constants = c1;
      nodes = c2;
      names = c3;
      places = c4;
    }

-- the root's row is there from part 7 on alone
no_root_yet : (p : ℕ) (n : ℕ) → p < 7 → cond (p == 7) (root_row n ∷ []) [] ≡ []
no_root_yet p n h = let e : (p == 7) ≡ false = ne_eqb p 7 (λ k. omega arith) in rw e refl

-- what is said of an addition
abbrev pub Pushed : Bool → (t : Table) (q : ℕ) (s : Table) (p : ℕ) → FlatRow → Type 0
Pushed b t q s p r = MatchBool b (IsBegun t q × (rows_so_far t q ≡ rows_so_far s p ++ r ∷ [])) (CannotCome (rows_so_far s p) r)

-- a row behind one of seven lists, where the lists behind it are empty
push_a : (a b c d e f g h : List FlatRow) (r : FlatRow) → b ≡ [] → c ≡ [] → d ≡ [] → e ≡ [] → f ≡ [] → g ≡ [] → h ≡ []
    → (a ++ r ∷ []) ++ (b ++ (c ++ (d ++ (e ++ (f ++ h))))) ≡ (a ++ (b ++ (c ++ (d ++ (e ++ (f ++ g)))))) ++ r ∷ []
push_a a b c d e f g h r eb ec ed ee ef eg eh = rw (eb, ec, ed, ee, ef, eg, eh) (simp (append_assoc, append-nil))

push_b : (a b c d e f g h : List FlatRow) (r : FlatRow) → c ≡ [] → d ≡ [] → e ≡ [] → f ≡ [] → g ≡ [] → h ≡ []
    → a ++ ((b ++ r ∷ []) ++ (c ++ (d ++ (e ++ (f ++ h))))) ≡ (a ++ (b ++ (c ++ (d ++ (e ++ (f ++ g)))))) ++ r ∷ []
push_b a b c d e f g h r ec ed ee ef eg eh = rw (ec, ed, ee, ef, eg, eh) (simp (append_assoc, append-nil))

push_c : (a b c d e f g h : List FlatRow) (r : FlatRow) → d ≡ [] → e ≡ [] → f ≡ [] → g ≡ [] → h ≡ []
    → a ++ (b ++ ((c ++ r ∷ []) ++ (d ++ (e ++ (f ++ h))))) ≡ (a ++ (b ++ (c ++ (d ++ (e ++ (f ++ g)))))) ++ r ∷ []
push_c a b c d e f g h r ed ee ef eg eh = rw (ed, ee, ef, eg, eh) (simp (append_assoc, append-nil))

push_d : (a b c d e f g h : List FlatRow) (r : FlatRow) → e ≡ [] → f ≡ [] → g ≡ [] → h ≡ []
    → a ++ (b ++ (c ++ ((d ++ r ∷ []) ++ (e ++ (f ++ h))))) ≡ (a ++ (b ++ (c ++ (d ++ (e ++ (f ++ g)))))) ++ r ∷ []
push_d a b c d e f g h r ee ef eg eh = rw (ee, ef, eg, eh) (simp (append_assoc, append-nil))

push_e : (a b c d e f g h : List FlatRow) (r : FlatRow) → f ≡ [] → g ≡ [] → h ≡ []
    → a ++ (b ++ (c ++ (d ++ ((e ++ r ∷ []) ++ (f ++ h))))) ≡ (a ++ (b ++ (c ++ (d ++ (e ++ (f ++ g)))))) ++ r ∷ []
push_e a b c d e f g h r ef eg eh = rw (ef, eg, eh) (simp (append_assoc, append-nil))

push_f : (a b c d e f g h : List FlatRow) (r : FlatRow) → g ≡ [] → h ≡ []
    → a ++ (b ++ (c ++ (d ++ (e ++ ((f ++ r ∷ []) ++ h))))) ≡ (a ++ (b ++ (c ++ (d ++ (e ++ (f ++ g)))))) ++ r ∷ []
push_f a b c d e f g h r eg eh = rw (eg, eh) (simp (append_assoc, append-nil))

pub push_g : (a b c d e f g : List FlatRow) (r : FlatRow) → g ≡ []
    → a ++ (b ++ (c ++ (d ++ (e ++ (f ++ ((r ∷ []))))))) ≡ (a ++ (b ++ (c ++ (d ++ (e ++ (f ++ g)))))) ++ r ∷ []
push_g a b c d e f g r eg = rw (eg) (simp (append_assoc, append-nil))

first_stays : (xs ys : List ScopeRow) (x : ScopeRow) → ys ≡ xs ++ x ∷ [] → ScopeIs xs 0 0 RootScope → ScopeIs ys 0 0 RootScope
first_stays [] ys x e h = absurd (cc)
first_stays (y ∷ xs) ys x e h =
    let P : List ScopeRow → Type 0 = λ zs. ScopeIs zs 0 0 RootScope in subst P (sym e) h

drop-push : (xs ys : List ScopeRow) (x : ScopeRow) → ys ≡ xs ++ x ∷ [] → ScopeIs xs 0 0 RootScope → drop 1 ys ≡ drop 1 xs ++ x ∷ []
drop-push [] ys x e h = absurd (cc)
drop-push (y ∷ xs) ys x e h = ap (drop 1) e

some_scope : (xs : List ScopeRow) → ScopeIs xs 0 0 RootScope → 0 < length xs
some_scope [] h = absurd (cc)
some_scope (x ∷ xs) h = omega arith

short_more : {A : Type 0} (xs ys : List A) (x : A) → ys ≡ xs ++ x ∷ [] → length xs + 1 < 2 ^ 32 → length ys < 2 ^ 32
short_more xs ys x e h = omega (arith, ap length e, length-append xs (x ∷ []))

no_rows : {A : Type 0} (f : A → FlatRow) (xs : List A) → xs ≡ [] → map f xs ≡ []
no_rows f xs e = ap (map f) e

-- what was begun, with one more row in the list of its part
pushed_scopes : (s : Table) (p q : ℕ) (xs : List ScopeRow) (x : ScopeRow) (added : Bool) → IsBegun s p → p ≤ 0 → q ≡ 0 → RowFits (scope_row x)
    → MatchBool added ((xs ≡ s.scopes ++ x ∷ []) × (length s.scopes + 1 < 2 ^ 32)) (2 ^ 32 ≤ length s.scopes + 1)
    → Pushed added (record s { scopes = xs }) q s p (scope_row x)
pushed_scopes s p q xs x true b l n f m =
    let t = record s { scopes = xs } in
    let e = m.0 in
    let rows : rows_so_far t q ≡ rows_so_far s p ++ scope_row x ∷ [] =
    ap
    (λ (zs : List FlatRow).
    zs ++ ((map input_row s.inputs) ++ ((map constant_row
    s.constants) ++ ((map node_row s.nodes) ++ ((map name_row s.names) ++ ((map place_row s.places) ++ (cond (q == 7) (root_row s.root ∷ []) [])))))))
    (ap (map scope_row) (drop-push s.scopes xs x e b.root) ∙ map-push scope_row (drop 1 s.scopes) x)
    ∙ push_a (map scope_row (drop 1 s.scopes)) (map input_row s.inputs) (map constant_row s.constants) (map node_row s.nodes) (map name_row s.names)
    (map place_row s.places) (cond (p == 7) (root_row s.root ∷ []) []) (cond (q == 7) (root_row s.root ∷ []) []) (scope_row x)
    (no_rows input_row s.inputs (b.empty.inputs (omega arith))) (no_rows constant_row s.constants (b.empty.constants (omega arith)))
    (no_rows node_row s.nodes (b.empty.nodes (omega arith))) (no_rows name_row s.names (b.empty.names (omega arith)))
    (no_rows place_row s.places (b.empty.places (omega arith))) (no_root_yet p s.root (omega arith)) (no_root_yet q s.root (omega arith)) in (
      begun_by t s q p (scope_row x) rows n b f (record {
        inputs = λ below. b.empty.inputs (omega arith);
        constants = λ below. b.empty.constants (omega arith);
        nodes = λ below. b.empty.nodes (omega arith);
        names = λ below. b.empty.names (omega arith);
        places = λ below. b.empty.places (omega arith);
      }) (first_stays s.scopes xs x e b.root)
          (short_more s.scopes xs x e m.1) b.constants b.nodes b.names b.places,
      rows,
    )
pushed_scopes s p q xs x false b l n f m = full_scopes s p x (some_scope s.scopes b.root) m

pushed_inputs : (s : Table) (p q : ℕ) (xs : List (List ℕ)) (x : List ℕ) → IsBegun s p → p ≤ 1 → q ≡ 1 → RowFits (input_row x) → xs ≡ s.inputs ++ x ∷ []
    → Pushed true (record s { inputs = xs }) q s p (input_row x)
pushed_inputs s p q xs x b l n f e =
    let t = record s { inputs = xs } in
    let rows : rows_so_far t q ≡ rows_so_far s p ++ input_row x ∷ [] =
    ap
    (λ (zs : List FlatRow).
    (map scope_row
    (drop 1 s.scopes)) ++ (zs ++ ((map constant_row
    s.constants) ++ ((map node_row s.nodes) ++ ((map name_row s.names) ++ ((map place_row s.places) ++ (cond (q == 7) (root_row s.root ∷ []) [])))))))
    (ap (map input_row) e ∙ map-push input_row s.inputs x)
    ∙ push_b (map scope_row (drop 1 s.scopes)) (map input_row s.inputs) (map constant_row s.constants) (map node_row s.nodes) (map name_row s.names)
    (map place_row s.places) (cond (p == 7) (root_row s.root ∷ []) []) (cond (q == 7) (root_row s.root ∷ []) []) (input_row x)
    (no_rows constant_row s.constants (b.empty.constants (omega arith))) (no_rows node_row s.nodes (b.empty.nodes (omega arith)))
    (no_rows name_row s.names (b.empty.names (omega arith))) (no_rows place_row s.places (b.empty.places (omega arith)))
    (no_root_yet p s.root (omega arith)) (no_root_yet q s.root (omega arith)) in (
      begun_by t s q p (input_row x) rows n b f (record {
        inputs = λ below. absurd (omega arith);
        constants = λ below. b.empty.constants (omega arith);
        nodes = λ below. b.empty.nodes (omega arith);
        names = λ below. b.empty.names (omega arith);
        places = λ below. b.empty.places (omega arith);
      }) b.root b.scopes b.constants b.nodes b.names b.places,
      rows,
    )

pushed_constants : (s : Table) (p q : ℕ) (xs : List PlainValue) (x : PlainValue) (added : Bool) → IsBegun s p → p ≤ 2 → q ≡ 2 → RowFits (constant_row x)
    → MatchBool added ((xs ≡ s.constants ++ x ∷ []) × (length s.constants + 1 < 2 ^ 32)) (2 ^ 32 ≤ length s.constants + 1)
    → Pushed added (record s { constants = xs }) q s p (constant_row x)
pushed_constants s p q xs x true b l n f m =
    let t = record s { constants = xs } in
    let e = m.0 in
    let rows : rows_so_far t q ≡ rows_so_far s p ++ constant_row x ∷ [] =
    ap
    (λ (zs : List FlatRow).
    (map scope_row (drop 1 s.scopes)) ++ ((map input_row
    s.inputs) ++ (zs ++ ((map node_row s.nodes) ++ ((map name_row s.names) ++ ((map place_row s.places) ++ (cond (q == 7) (root_row s.root ∷ []) [])))))))
    (ap (map constant_row) e ∙ map-push constant_row s.constants x)
    ∙ push_c (map scope_row (drop 1 s.scopes)) (map input_row s.inputs) (map constant_row s.constants) (map node_row s.nodes) (map name_row s.names)
    (map place_row s.places) (cond (p == 7) (root_row s.root ∷ []) []) (cond (q == 7) (root_row s.root ∷ []) []) (constant_row x)
    (no_rows node_row s.nodes (b.empty.nodes (omega arith))) (no_rows name_row s.names (b.empty.names (omega arith)))
    (no_rows place_row s.places (b.empty.places (omega arith))) (no_root_yet p s.root (omega arith)) (no_root_yet q s.root (omega arith)) in (
      begun_by t s q p (constant_row x) rows n b f (record {
        inputs = λ below. absurd (omega arith);
        constants = λ below. absurd (omega arith);
        nodes = λ below. b.empty.nodes (omega arith);
        names = λ below. b.empty.names (omega arith);
        places = λ below. b.empty.places (omega arith);
      }) b.root b.scopes (short_more s.constants xs x e m.1)
          b.nodes b.names b.places,
      rows,
    )
pushed_constants s p q xs x false b l n f m = full_constants s p x m

pushed_nodes : (s : Table) (p q : ℕ) (xs : List NodeRow) (x : NodeRow) (added : Bool) → IsBegun s p → p ≤ 3 → q ≡ 3 → RowFits (node_row x)
    → MatchBool added ((xs ≡ s.nodes ++ x ∷ []) × (length s.nodes + 1 < 2 ^ 32)) (2 ^ 32 ≤ length s.nodes + 1)
    → Pushed added (record s { nodes = xs }) q s p (node_row x)
pushed_nodes s p q xs x true b l n f m =
    let t = record s { nodes = xs } in
    let e = m.0 in
    let rows : rows_so_far t q ≡ rows_so_far s p ++ node_row x ∷ [] =
    ap
    (λ (zs : List FlatRow).
    (map scope_row (drop 1 s.scopes)) ++ ((map input_row
    s.inputs) ++ ((map constant_row
    s.constants) ++ (zs ++ ((map name_row s.names) ++ ((map place_row s.places) ++ (cond (q == 7) (root_row s.root ∷ []) [])))))))
    (ap (map node_row) e ∙ map-push node_row s.nodes x)
    ∙ push_d (map scope_row (drop 1 s.scopes)) (map input_row s.inputs) (map constant_row s.constants) (map node_row s.nodes) (map name_row s.names)
    (map place_row s.places) (cond (p == 7) (root_row s.root ∷ []) []) (cond (q == 7) (root_row s.root ∷ []) []) (node_row x)
    (no_rows name_row s.names (b.empty.names (omega arith))) (no_rows place_row s.places (b.empty.places (omega arith)))
    (no_root_yet p s.root (omega arith)) (no_root_yet q s.root (omega arith)) in (
      begun_by t s q p (node_row x) rows n b f (record {
        inputs = λ below. absurd (omega arith);
        constants = λ below. absurd (omega arith);
        nodes = λ below. absurd (omega arith);
        names = λ below. b.empty.names (omega arith);
        places = λ below. b.empty.places (omega arith);
      }) b.root b.scopes b.constants
          (short_more s.nodes xs x e m.1) b.names b.places,
      rows,
    )
pushed_nodes s p q xs x false b l n f m = full_nodes s p x m

pushed_names : (s : Table) (p q : ℕ) (xs : List NameRow) (x : NameRow) (added : Bool) → IsBegun s p → p ≤ 4 → q ≡ 4 → RowFits (name_row x)
    → MatchBool added ((xs ≡ s.names ++ x ∷ []) × (length s.names + 1 < 2 ^ 32)) (2 ^ 32 ≤ length s.names + 1)
    → Pushed added (record s { names = xs }) q s p (name_row x)
pushed_names s p q xs x true b l n f m =
    let t = record s { names = xs } in
    let e = m.0 in
    let rows : rows_so_far t q ≡ rows_so_far s p ++ name_row x ∷ [] =
    ap
    (λ (zs : List FlatRow).
    (map scope_row (drop 1 s.scopes)) ++ ((map input_row
    s.inputs) ++ ((map constant_row s.constants) ++ ((map node_row
    s.nodes) ++ (zs ++ ((map place_row s.places) ++ (cond (q == 7) (root_row s.root ∷ []) []))))))) (ap (map name_row) e ∙ map-push name_row s.names x)
    ∙ push_e (map scope_row (drop 1 s.scopes)) (map input_row s.inputs) (map constant_row s.constants) (map node_row s.nodes) (map name_row s.names)
    (map place_row s.places) (cond (p == 7) (root_row s.root ∷ []) []) (cond (q == 7) (root_row s.root ∷ []) []) (name_row x)
    (no_rows place_row s.places (b.empty.places (omega arith))) (no_root_yet p s.root (omega arith)) (no_root_yet q s.root (omega arith)) in (
      begun_by t s q p (name_row x) rows n b f (record {
        inputs = λ below. absurd (omega arith);
        constants = λ below. absurd (omega arith);
        nodes = λ below. absurd (omega arith);
        names = λ below. absurd (omega arith);
        places = λ below. b.empty.places (omega arith);
      }) b.root b.scopes b.constants b.nodes
          (short_more s.names xs x e m.1) b.places,
      rows,
    )
pushed_names s p q xs x false b l n f m = full_names s p x m

pushed_places : (s : Table) (p q : ℕ) (xs : List PlaceRow) (x : PlaceRow) (added : Bool) → IsBegun s p → p ≤ 5 → q ≡ 5 → RowFits (place_row x)
    → MatchBool added ((xs ≡ s.places ++ x ∷ []) × (length s.places + 1 < 2 ^ 32)) (2 ^ 32 ≤ length s.places + 1)
    → Pushed added (record s { places = xs }) q s p (place_row x)
pushed_places s p q xs x true b l n f m =
    let t = record s { places = xs } in
    let e = m.0 in
    let rows : rows_so_far t q ≡ rows_so_far s p ++ place_row x ∷ [] =
    ap
    (λ (zs : List FlatRow).
    (map scope_row (drop 1 s.scopes)) ++ ((map input_row
    s.inputs) ++ ((map constant_row s.constants) ++ ((map node_row
    s.nodes) ++ ((map name_row s.names) ++ (zs ++ (cond (q == 7) (root_row s.root ∷ []) []))))))) (ap (map place_row) e ∙ map-push place_row s.places x)
    ∙ push_f (map scope_row (drop 1 s.scopes)) (map input_row s.inputs) (map constant_row s.constants) (map node_row s.nodes) (map name_row s.names)
    (map place_row s.places) (cond (p == 7) (root_row s.root ∷ []) []) (cond (q == 7) (root_row s.root ∷ []) []) (place_row x)
    (no_root_yet p s.root (omega arith)) (no_root_yet q s.root (omega arith)) in (
      begun_by t s q p (place_row x) rows n b f (record {
        inputs = λ below. absurd (omega arith);
        constants = λ below. absurd (omega arith);
        nodes = λ below. absurd (omega arith);
        names = λ below. absurd (omega arith);
        places = λ below. absurd (omega arith);
      }) b.root b.scopes b.constants b.nodes b.names
          (short_more s.places xs x e m.1),
      rows,
    )
pushed_places s p q xs x false b l n f m = full_places s p x m

pushed_root : (s : Table) (p : ℕ) (n : ℕ) → IsBegun s p → p ≤ 6 → RowFits (root_row n) → Pushed true (record s { root = n }) 7 s p (root_row n)
pushed_root s p n b l f =
    let t = record s { root = n } in
    let rows : rows_so_far t 7 ≡ rows_so_far s p ++ root_row n ∷ [] =
    push_g (map scope_row (drop 1 s.scopes)) (map input_row s.inputs) (map constant_row s.constants) (map node_row s.nodes) (map name_row s.names)
    (map place_row s.places) (cond (p == 7) (root_row s.root ∷ []) []) (root_row n) (no_root_yet p s.root (omega arith)) in (
      begun_by t s 7 p (root_row n) rows refl b f (record {
        inputs = λ below. absurd (omega arith);
        constants = λ below. absurd (omega arith);
        nodes = λ below. absurd (omega arith);
        names = λ below. absurd (omega arith);
        places = λ below. absurd (omega arith);
      }) b.root b.scopes b.constants b.nodes b.names b.places,
      rows,
    )

-- The same of a row that is one of these, and of a list of the code's values.
pub scopes_pushed : (s : Table) (p q : ℕ) (xs : List ScopeRow) (x : ScopeRow) (added : Bool) (r : FlatRow) → r ≡ scope_row x → IsBegun s p → p ≤ row_part r
    → q ≡ row_part r → RowFits r
    → MatchBool added ((xs ≡ s.scopes ++ x ∷ []) × (length s.scopes + 1 < 2 ^ 32)) (2 ^ 32 ≤ length s.scopes + 1)
    → Pushed added (record s { scopes = xs }) q s p r
scopes_pushed s p q xs x added r is b l n f e =
    let P : FlatRow → Type 0 = λ z. p ≤ row_part z → q ≡ row_part z → RowFits z → Pushed added (record s { scopes = xs }) q s p z in
    subst P (sym is) (λ k m g. pushed_scopes s p q xs x added b k m g e) l n f

pub inputs_pushed : (s : Table) (p q : ℕ) (xs : List (List ℕ)) (x : List ℕ) (r : FlatRow) → r ≡ input_row x → IsBegun s p → p ≤ row_part r → q ≡ row_part r
    → RowFits r
    → xs ≡ s.inputs ++ x ∷ [] → Pushed true (record s { inputs = xs }) q s p r
inputs_pushed s p q xs x r is b l n f e =
    let P : FlatRow → Type 0 = λ z. p ≤ row_part z → q ≡ row_part z → RowFits z → Pushed true (record s { inputs = xs }) q s p z in
    subst P (sym is) (λ k m g. pushed_inputs s p q xs x b k m g e) l n f

map-plain : (xs ys : List Value) (x : Value) → xs ≡ ys ++ x ∷ [] → map plain xs ≡ map plain ys ++ plain x ∷ []
map-plain xs ys x e = ap (map plain) e ∙ map-push-plain ys
  where
    map-push-plain : (zs : List Value) → map plain (zs ++ x ∷ []) ≡ map plain zs ++ plain x ∷ []
    map-push-plain [] = refl
    map-push-plain (z ∷ zs) = ap (λ (rs : List PlainValue). plain z ∷ rs) (map-push-plain zs)

plain_match : (vs ws : List Value) (x : Value) (added : Bool) → MatchBool added ((vs ≡ ws ++ x ∷ []) × (length ws + 1 < 2 ^ 32)) (2 ^ 32 ≤ length ws + 1)
    → MatchBool added ((map plain vs ≡ map plain ws ++ plain x ∷ []) × (length (map plain ws) + 1 < 2 ^ 32)) (2 ^ 32 ≤ length (map plain ws) + 1)
plain_match vs ws x true h = (map-plain vs ws x h.0, omega (arith, length-map ws plain, h.1))
plain_match vs ws x false h = omega (arith, length-map ws plain, h)

pub constants_pushed : (s : Table) (p q : ℕ) (vs ws : List Value) (x : Value) (added : Bool) (r : FlatRow) → r ≡ constant_row (plain x)
    → s.constants ≡ map plain ws → IsBegun s p
    → p ≤ row_part r → q ≡ row_part r → RowFits r → MatchBool added ((vs ≡ ws ++ x ∷ []) × (length ws + 1 < 2 ^ 32)) (2 ^ 32 ≤ length ws + 1)
    → Pushed added (record s { constants = map plain vs }) q s p r
constants_pushed s p q vs ws x added r is c b l n f e =
    let P : FlatRow → Type 0 = λ z. p ≤ row_part z → q ≡ row_part z → RowFits z → Pushed added (record s { constants = map plain vs }) q s p z in
    let Q : List PlainValue → Type 0 = λ zs. MatchBool added ((map plain vs ≡ zs ++ plain x ∷ []) × (length zs + 1 < 2 ^ 32)) (2 ^ 32 ≤ length zs + 1) in
    let m = subst Q (sym c) (plain_match vs ws x added e) in subst P (sym is) (λ k o g. pushed_constants s p q (map plain vs) (plain x) added b k o g m) l n f

pub nodes_pushed : (s : Table) (p q : ℕ) (xs : List NodeRow) (x : NodeRow) (added : Bool) (r : FlatRow) → r ≡ node_row x → IsBegun s p → p ≤ row_part r
    → q ≡ row_part r → RowFits r
    → MatchBool added ((xs ≡ s.nodes ++ x ∷ []) × (length s.nodes + 1 < 2 ^ 32)) (2 ^ 32 ≤ length s.nodes + 1) → Pushed added (record s { nodes = xs }) q s p r
nodes_pushed s p q xs x added r is b l n f e =
    let P : FlatRow → Type 0 = λ z. p ≤ row_part z → q ≡ row_part z → RowFits z → Pushed added (record s { nodes = xs }) q s p z in
    subst P (sym is) (λ k m g. pushed_nodes s p q xs x added b k m g e) l n f

pub names_pushed : (s : Table) (p q : ℕ) (xs : List NameRow) (x : NameRow) (added : Bool) (r : FlatRow) → r ≡ name_row x → IsBegun s p → p ≤ row_part r
    → q ≡ row_part r → RowFits r
    → MatchBool added ((xs ≡ s.names ++ x ∷ []) × (length s.names + 1 < 2 ^ 32)) (2 ^ 32 ≤ length s.names + 1) → Pushed added (record s { names = xs }) q s p r
names_pushed s p q xs x added r is b l n f e =
    let P : FlatRow → Type 0 = λ z. p ≤ row_part z → q ≡ row_part z → RowFits z → Pushed added (record s { names = xs }) q s p z in
    subst P (sym is) (λ k m g. pushed_names s p q xs x added b k m g e) l n f

pub places_pushed : (s : Table) (p q : ℕ) (xs : List PlaceRow) (x : PlaceRow) (added : Bool) (r : FlatRow) → r ≡ place_row x → IsBegun s p → p ≤ row_part r
    → q ≡ row_part r → RowFits r
    → MatchBool added ((xs ≡ s.places ++ x ∷ []) × (length s.places + 1 < 2 ^ 32)) (2 ^ 32 ≤ length s.places + 1)
    → Pushed added (record s { places = xs }) q s p r
places_pushed s p q xs x added r is b l n f e =
    let P : FlatRow → Type 0 = λ z. p ≤ row_part z → q ≡ row_part z → RowFits z → Pushed added (record s { places = xs }) q s p z in
    subst P (sym is) (λ k m g. pushed_places s p q xs x added b k m g e) l n f

pub root_pushed : (s : Table) (p : ℕ) (n : ℕ) (r : FlatRow) → r ≡ root_row n → IsBegun s p → p ≤ row_part r → RowFits r
    → Pushed true (record s { root = n }) 7 s p r
root_pushed s p n r is b l f =
    let P : FlatRow → Type 0 = λ z. p ≤ row_part z → RowFits z → Pushed true (record s { root = n }) 7 s p z in
    subst P (sym is) (λ k g. pushed_root s p n b k g) l f
