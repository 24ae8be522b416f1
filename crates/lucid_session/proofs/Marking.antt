-- The demands of a time, column by column: which points are demanded, which columns stay open, and the cells.
use Rattle.lucid_session.proofs.Common.{◌≡◌, ℕ, zero, suc, ◌+◌, ◌<◌, ◌≤◌, Bool, true, false, List, ◌++◌, length, refl, sym, ap, ◌∙◌, subst, arith, ◌⊎◌, inl, inr, append-nil, add-one, true≢false, ◌↔◌, IsSome, slice_get, slice_set, nat_lt, if◌then◌else◌, flat_map, range_with_len, cases_lt, slice_get_within, same_Some, length-map, PlainValue, eod, value_text, Elements, root, World, eqval, equations_of, Table, node-meant_once, EngineView, OneStream, StreamMeans, table_stream_at, table_columns, HasEnded, IsOpen, IsCell, AreCells, parted, Demands, Start, Has, Standing, layout, before, with_point, GivesCell, IsMarked, AreMarked, HasCells, ◌||◌, append_assoc, MatchBool, flat_map-append, length-range_with_len}
use Rattle.std.proofs.Common.{[], ◌∷◌, Some}
use Rattle.lucid_lists.proofs.Numbers.{below_or_last}
use Rattle.lucid_session.proofs.Going.{stands_same}
use Rattle.lucid_session.proofs.Subjects.{demands_open, open_demands, columns_more}

module _ (z : Start) (b : Elements) (t s : ℕ) where
  -- where a value is demanded at a space, the points before the next are those before it and it
  one_more : Demands (layout z) b t s → (u r : ℕ) → with_point (before z t s b) t s u r ↔ before z t (s + 1) b u r
  one_more there u r = (forth, λ i. back i.0 i.1)
    where
      forth : with_point (before z t s b) t s u r → before z t (s + 1) b u r
      forth (inl i) = (elim i.0 [ inl lt ↦ inl lt | inr at ↦ inr (at.0, omega (arith, at.1)) ], i.1)
      forth (inr at) = (inr (at.0, omega (arith, at.1)), subst (λ (p : ℕ × ℕ). Demands (layout z) b p.0 p.1) (λ i. (sym at.0 i, sym at.1 i)) there)

      at_time : u ≡ t → (r < s) ⊎ (s ≤ r) → r < s + 1 → Demands (layout z) b u r → with_point (before z t s b) t s u r
      at_time at (inl lower) lt d = inl (inr (at, lower), d)
      at_time at (inr le) lt d = inr (at, omega (arith, le, lt))

      back : (u < t) ⊎ ((u ≡ t) × (r < s + 1)) → Demands (layout z) b u r → with_point (before z t s b) t s u r
      back (inl lt) d = inl (inl lt, d)
      back (inr at) d = at_time at.0 (cases_lt r s) at.1 d

  -- where none is demanded, they are those before it
  none_more : (Demands (layout z) b t s → ⊥) → (u r : ℕ) → before z t s b u r ↔ before z t (s + 1) b u r
  none_more never u r = (λ i. (elim i.0 [ inl lt ↦ inl lt | inr at ↦ inr (at.0, omega (arith, at.1)) ], i.1), λ i. back i.0 i.1)
    where
      at_time : u ≡ t → (r < s) ⊎ (s ≤ r) → r < s + 1 → Demands (layout z) b u r → before z t s b u r
      at_time at (inl lower) lt d = (inr (at, lower), d)
      at_time at (inr le) lt d = let same : r ≡ s = omega (arith, le, lt) in
          absurd (never (subst (λ (p : ℕ × ℕ). Demands (layout z) b p.0 p.1) (λ i. (at i, same i)) d))

      back : (u < t) ⊎ ((u ≡ t) × (r < s + 1)) → Demands (layout z) b u r → before z t s b u r
      back (inl lt) d = (inl lt, d)
      back (inr at) d = at_time at.0 (cases_lt r s) at.1 d

-- after all columns, the points are those before the next time
all_more : (z : Start) (b : Elements) (t : ℕ) (u r : ℕ) → before z t z.columns b u r ↔ before z (t + 1) 0 b u r
all_more z b t u r = (λ i. (elim i.0 [ inl lt ↦ inl (omega (arith, lt)) | inr at ↦ inl (omega (arith, at.0)) ], i.1), λ i. back i.0 i.1)
  where
    by : (u < t) ⊎ (t ≤ u) → u < t + 1 → Demands (layout z) b u r → before z t z.columns b u r
    by (inl lower) lt d = (inl lower, d)
    by (inr le) lt d = (inr (omega (arith, le, lt), (demands_open z b u r d).0), d)

    back : (u < t + 1) ⊎ ((u ≡ t + 1) × (r < 0)) → Demands (layout z) b u r → before z t z.columns b u r
    back (inl lt) d = by (cases_lt u t) lt d
    back (inr at) d = absurd (omega (arith, at.1))

module _ (z : Start) (e : EngineView) (w : World) (t c : ℕ) where
  -- the run stands at the next space,
  pub next_space : (s : ℕ) → ((b : Elements) → Has z b → Demands (layout z) b t s) → Standing z (λ b. with_point (before z t s b) t s) e w c
      → Standing z (before z t (s + 1)) e w c
  next_space s there standing = stands_same z (λ b. with_point (before z t s b) t s) (before z t (s + 1)) e w c (λ b has. one_more z b t s (there b has))
      standing

  pub skipped_space : (s : ℕ) → ((b : Elements) → Has z b → Demands (layout z) b t s → ⊥) → Standing z (before z t s) e w c
      → Standing z (before z t (s + 1)) e w c
  skipped_space s never standing = stands_same z (before z t s) (before z t (s + 1)) e w c (λ b has. none_more z b t s (never b has)) standing

  -- or at the next time
  pub next_time : (s : ℕ) → s ≡ z.columns → Standing z (before z t s) e w c → Standing z (before z (t + 1) 0) e w c
  next_time s all standing =
      stands_same z (before z t z.columns) (before z (t + 1) 0) e w c (λ b has. all_more z b t) (subst (λ n. Standing z (before z t n) e w c) all standing)

-- one of the columns below a space goes on; or all have ended
abbrev SomeGoOn : (z : Start) → Elements → (time space : ℕ) → Bool → Type 0
SomeGoOn z b t s goes_on = MatchBool goes_on ((j : ℕ) × (j < s) × (HasEnded (table_stream_at z.table j) b t → ⊥))
    ((j : ℕ) → j < s → HasEnded (table_stream_at z.table j) b t)

-- that at the space does
abbrev SomeStays : (z : Start) → Elements → (time space : ℕ) → Bool → Type 0
SomeStays z b t s stays = MatchBool stays (HasEnded (table_stream_at z.table s) b t → ⊥) (HasEnded (table_stream_at z.table s) b t)

-- one goes on now if one did before or this one does
abbrev pub SomeNow : (goes_on stays now : Bool) → Type 0
SomeNow goes_on stays now = now ≡ (goes_on || stays)

length-columns : (T : Table) (n : ℕ) → length (table_columns T n) ≡ n
length-columns T n = length-map (range_with_len 0 n) (table_stream_at T) ∙ length-range_with_len 0 n

-- the cells of columns are as many
length-cells : (xs : List OneStream) (b : Elements) (t : ℕ) (cells : List (List ℕ)) → AreCells xs b t cells → length cells ≡ length xs
length-cells [] b t cells are = ap length are
length-cells (x ∷ xs) b t [] are = absurd are
length-cells (x ∷ xs) b t (cell ∷ cells) are = ap suc (length-cells xs b t cells are.1)

-- one cell more
cells_more : (xs : List OneStream) (x : OneStream) (b : Elements) (t : ℕ) (cells : List (List ℕ)) (cell : List ℕ) → AreCells xs b t cells → IsCell x b t cell
    → AreCells (xs ++ x ∷ []) b t (cells ++ cell ∷ [])
cells_more [] x b t [] cell are is = (is, refl)
cells_more [] x b t (other ∷ cells) cell are is = absurd (cc are)
cells_more (y ∷ xs) x b t [] cell are is = absurd are
cells_more (y ∷ xs) x b t (other ∷ cells) cell are is = (are.0, cells_more xs x b t cells cell are.1 is)

some_before : (n : ℕ) → 0 < n → nat_lt 0 n ≡ true
some_before n lt = grind arith

-- is parted from those before
parted_more : (cells : List (List ℕ)) (cell line : List ℕ) (n : ℕ) → length cells ≡ n → line ≡ parted cells
    → parted (cells ++ cell ∷ []) ≡ (if nat_lt 0 n then line ++ 9 ∷ [] else line) ++ cell
parted_more [] cell line n size joined =
    append-nil cell ∙ ap (λ front. front ++ cell) (sym joined) ∙ ap (λ k. (if nat_lt 0 k then line ++ 9 ∷ [] else line) ++ cell) size
parted_more (first ∷ cells) cell line n size joined =
    ap (λ more. first ++ more) (flat_map-append (λ next. 9 ∷ next) cells (cell ∷ [])
    ∙ ap (λ more. flat_map (λ next. 9 ∷ next) cells ++ more) (append-nil (9 ∷ cell)))
    ∙ sym (append_assoc first (flat_map (λ next. 9 ∷ next) cells) (9 ∷ cell)) ∙ sym (append_assoc (first ++ flat_map (λ next. 9 ∷ next) cells) (9 ∷ []) cell)
    ∙ ap (λ front. (front ++ 9 ∷ []) ++ cell) (sym joined)
    ∙ ap (λ begun. (if begun then line ++ 9 ∷ [] else line) ++ cell) (sym (some_before n (omega (arith, size))))

-- what stands in a list of which one item was set
get_set : {A : Type 0} (xs : List A) (i j : ℕ) (x y : A) → slice_get (slice_set xs i x) j ≡ Some y
    → ((j ≡ i) × (y ≡ x)) ⊎ ((j ≡ i → ⊥) × (slice_get xs j ≡ Some y))
get_set [] i j x y e = inr ((λ same. cc e), e)
get_set (a ∷ xs) zero zero x y e = inl (refl, sym (same_Some _ _ e))
get_set (a ∷ xs) zero (suc j) x y e = inr ((λ same. absurd (omega (arith, same))), e)
get_set (a ∷ xs) (suc i) zero x y e = inr ((λ same. absurd (omega (arith, same))), e)
get_set (a ∷ xs) (suc i) (suc j) x y e = elim (get_set xs i j x y e) [ inl h ↦ inl (ap suc h.0, h.1) | inr h ↦ inr ((λ same. h.0 (omega (arith, same))), h.1) ]

-- A column that has ended is passed over.
module _ (z : Start) (b : Elements) (t s : ℕ) (marks : List Bool) (is : slice_get marks s ≡ Some false) (marked : AreMarked z b t s marks) where
  ended_before : (u : ℕ) × (u < t) × StreamMeans (table_stream_at z.table s) b u eod
  ended_before = marked.left s false is (omega arith)

  -- no value is demanded of it,
  pub never_demanded : Demands (layout z) b t s → ⊥
  never_demanded d = let r = demands_open z b t s d in r.1 ended_before.0 ended_before.1 ended_before.2

  -- its mark stays,
  pub marked_over : AreMarked z b t (s + 1) marks
  marked_over = record {
    done = λ j mark e lt. elim (below_or_last j s lt) [
      | inl lower ↦ marked.done j mark e lower
      | inr same ↦
          let mark_is : false ≡ mark = same_Some _ _ (sym is ∙ ap (slice_get marks) (sym same) ∙ e) in
          subst (λ k. IsMarked (table_stream_at z.table k) b (suc t) mark) (sym same)
          (subst (IsMarked (table_stream_at z.table s) b (suc t)) mark_is (ended_before.0, omega (arith, ended_before.1), ended_before.2))
    ];
    left = λ j mark e le. marked.left j mark e (omega (arith, le));
  }

  has_ended : HasEnded (table_stream_at z.table s) b t
  has_ended = (ended_before.0, omega (arith, ended_before.1), ended_before.2)

  -- and its cell has no bytes
  pub cells_over : (line more : List ℕ) (goes_on : Bool) → HasCells z b t s line goes_on → more ≡ (if nat_lt 0 s then line ++ 9 ∷ [] else line)
      → HasCells z b t (s + 1) more goes_on
  cells_over line more goes_on has is_more = record {
    cells = has.cells ++ [] ∷ [];
    are = subst (λ xs. AreCells xs b t (has.cells ++ [] ∷ [])) (sym (columns_more z.table s) ∙ ap (table_columns z.table) (sym (add-one s)))
        (cells_more (table_columns z.table s) (table_stream_at z.table s) b t has.cells [] has.are (inl (has_ended, refl)));
    joined = is_more ∙ sym (append-nil (if nat_lt 0 s then line ++ 9 ∷ [] else line))
        ∙ sym (parted_more has.cells [] line s (length-cells (table_columns z.table s) b t has.cells has.are ∙ length-columns z.table s) has.joined);
    some = some_over goes_on has.some;
    exact = λ empties j lt opened. elim (below_or_last j s lt) [
      | inl lower ↦ has.exact empties j lower opened
      | inr same ↦ absurd (subst (λ k. IsOpen (table_stream_at z.table k) b t) same opened ended_before.0 ended_before.1 ended_before.2)
    ];
  }
    where
      some_over : (goes_on : Bool) → SomeGoOn z b t s goes_on → SomeGoOn z b t (s + 1) goes_on
      some_over true going = (going.0, omega (arith, going.1), going.2)
      some_over false all = λ j lt. elim (below_or_last j s lt)
          [ inl lower ↦ all j lower | inr same ↦ subst (λ k. HasEnded (table_stream_at z.table k) b t) (sym same) has_ended ]

-- An open column gives its cell.
module _ (z : Start) (b : Elements) (has_elements : Has z b) (t s : ℕ) (marks : List Bool) (is : slice_get marks s ≡ Some true)
    (marked : AreMarked z b t s marks) where
  open_before : IsOpen (table_stream_at z.table s) b t
  open_before = marked.left s true is (omega arith)

  -- its value is demanded,
  pub is_demanded : s < z.columns → Demands (layout z) b t s
  is_demanded lt = open_demands z b t s lt open_before

  module _ (stays : Bool) (line parted_line more : List ℕ) (gives : GivesCell z t s stays parted_line more) where
    meant_once : (v : PlainValue) → StreamMeans (table_stream_at z.table s) b t v → v ≡ gives.value
    meant_once v means = node-meant_once (equations_of z.table) b (equations_of z.table).root root t s v gives.value means (gives.means b has_elements)

    -- its mark says whether it goes on,
    mark_now : (stays : Bool) → GivesCell z t s stays parted_line more → IsMarked (table_stream_at z.table s) b (suc t) stays
    mark_now true g = λ u lt means. elim (cases_lt u t) [
      | inl lower ↦ open_before u lower means
      | inr le ↦
          let at : u ≡ t = omega (arith, le, lt) in
          g.adds.0
          (sym (node-meant_once (equations_of z.table) b (equations_of z.table).root root t s eod g.value
          (subst (λ q. StreamMeans (table_stream_at z.table s) b q eod) at means) (g.means b has_elements)))
    ]
    mark_now false g = (t, omega arith, subst (λ v. StreamMeans (table_stream_at z.table s) b t v) g.adds.0 (g.means b has_elements))

    pub marked_now : AreMarked z b t (s + 1) (slice_set marks s stays)
    marked_now = record {
      done = λ j mark e lt. elim (get_set marks s j stays mark e) [
        | inl h ↦ subst (λ k. IsMarked (table_stream_at z.table k) b (suc t) mark) (sym h.0)
            (subst (IsMarked (table_stream_at z.table s) b (suc t)) (sym h.1) (mark_now stays gives))
        | inr h ↦ elim (below_or_last j s lt) [ inl lower ↦ marked.done j mark h.1 lower | inr same ↦ absurd (h.0 same) ]
      ];
      left = λ j mark e le. elim (get_set marks s j stays mark e) [
        | inl h ↦ absurd (omega (arith, h.0, le))
        | inr h ↦ marked.left j mark h.1 (omega (arith, le))
      ];
    }

    ended_now : (stays : Bool) → IsMarked (table_stream_at z.table s) b (suc t) stays → SomeStays z b t s stays
    ended_now true opened = λ h. opened h.0 (omega (arith, h.1)) h.2
    ended_now false h = (h.0, omega (arith, h.1), h.2)

    cell_of : Bool → List ℕ
    cell_of true = value_text gives.value
    cell_of false = []

    is_cell : (stays : Bool) → GivesCell z t s stays parted_line more
        → (cell : List ℕ) × IsCell (table_stream_at z.table s) b t cell × (more ≡ parted_line ++ cell)
    is_cell true g = (value_text g.value, inr (ended_now true (mark_now true g), (g.value, g.means b has_elements, refl)), g.adds.1)
    is_cell false g = ([], inl (ended_now false (mark_now false g), refl), g.adds.1 ∙ sym (append-nil parted_line))

    -- and its text is added
    pub cells_now : (goes_on : Bool) → HasCells z b t s line goes_on → parted_line ≡ (if nat_lt 0 s then line ++ 9 ∷ [] else line) → (now : Bool)
        → SomeNow goes_on stays now → HasCells z b t (s + 1) more now
    cells_now goes_on has is_parted now how = record {
      cells = has.cells ++ cell.0 ∷ [];
      are = subst (λ xs. AreCells xs b t (has.cells ++ cell.0 ∷ [])) (sym (columns_more z.table s) ∙ ap (table_columns z.table) (sym (add-one s)))
          (cells_more (table_columns z.table s) (table_stream_at z.table s) b t has.cells cell.0 has.are cell.1);
      joined = cell.2 ∙ ap (λ front. front ++ cell.0) is_parted
          ∙ sym (parted_more has.cells cell.0 line s (length-cells (table_columns z.table s) b t has.cells has.are ∙ length-columns z.table s) has.joined);
      some = some_now goes_on stays now how has.some (ended_now stays (mark_now stays gives));
      exact = λ empties j lt opened. elim (below_or_last j s lt) [
        | inl lower ↦ has.exact empties j lower opened
        | inr same ↦ subst (λ k. IsSome (eqval (equations_of z.table) b z.depth t k)) (sym same) (gives.exact b has_elements empties)
      ];
    }
      where
        cell : (cell : List ℕ) × IsCell (table_stream_at z.table s) b t cell × (more ≡ parted_line ++ cell)
        cell = is_cell stays gives

        some_now : (goes_on stays now : Bool) → SomeNow goes_on stays now → SomeGoOn z b t s goes_on → SomeStays z b t s stays → SomeGoOn z b t (s + 1) now
        some_now true stays true how going here = (going.0, omega (arith, going.1), going.2)
        some_now true stays false how going here = absurd (true≢false (sym how))
        some_now false true true how all here = (s, omega arith, here)
        some_now false true false how all here = absurd (true≢false (sym how))
        some_now false false true how all here = absurd (true≢false how)
        some_now false false false how all here = λ j lt.
            elim (below_or_last j s lt) [ inl lower ↦ all j lower | inr same ↦ subst (λ k. HasEnded (table_stream_at z.table k) b t) (sym same) here ]

-- No column has a cell yet.
pub no_cells : (z : Start) (b : Elements) (t : ℕ) → HasCells z b t 0 [] false
no_cells z b t = record {
  cells = [];
  are = refl;
  joined = refl;
  some = λ j lt. absurd (omega (arith, lt));
  exact = λ empties j lt. absurd (omega (arith, lt));
}

-- The marks after all columns are those before the next time.
pub marked_then : (z : Start) (b : Elements) (t s : ℕ) (marks : List Bool) → s ≡ length marks → AreMarked z b t s marks → AreMarked z b (t + 1) 0 marks
marked_then z b t s marks all marked = record {
  done = λ j mark e lt. absurd (omega (arith, lt));
  left = λ j mark e le. subst (λ q. IsMarked (table_stream_at z.table j) b q mark) (sym (add-one t))
      (marked.done j mark e (omega (arith, all, slice_get_within marks j mark e)));
}
