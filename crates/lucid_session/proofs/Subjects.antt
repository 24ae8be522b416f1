-- The subject of a run, streams side by side, and the points at which it demands values.
use Rattle.lucid_session.proofs.Common.{◌≡◌, ℕ, zero, suc, ◌+◌, ◌<◌, ◌≤◌, List, ◌++◌, map, None, refl, sym, ap, ◌∙◌, subst, arith, ◌⊎◌, inl, inr, slice_get, range_with_len, cases_lt, same_Some, none-some, in_map, Elements, In, eqval, consults_on_nodes, equations_of, Table, OneStream, table_stream_at, table_columns, IsOpen, Output, no_lines, one_line_more, Demands, Start, subject, layout}
use Rattle.std.proofs.Common.{[], ◌∷◌, Some}
use Rattle.lucid_session.proofs.Lists.{is_none, from_map}

-- each number of a range from another has its place,
in_range : (a n i : ℕ) → i < n → In (a + i) (range_with_len a n)
in_range a zero i lt = absurd (omega (arith, lt))
in_range a (suc n) zero lt = inl (omega arith)
in_range a (suc n) (suc i) lt = inr (subst (λ k. In k (range_with_len (a + 1) n)) (omega arith) (in_range (a + 1) n i (omega (arith, lt))))

-- and no other stands in it
of_range : (a n k : ℕ) → In k (range_with_len a n) → (a ≤ k) × (k < a + n)
of_range a zero k i = absurd i
of_range a (suc n) k (inl e) = (omega (arith, e), omega (arith, e))
of_range a (suc n) k (inr i) = let r = of_range (a + 1) n k i in (omega (arith, r.0), omega (arith, r.1))

pub range_more : (a n : ℕ) → range_with_len a (suc n) ≡ range_with_len a n ++ (a + n) ∷ []
range_more a zero = ap (λ k. k ∷ []) (omega arith)
range_more a (suc n) = ap (λ ks. a ∷ ks) (range_more (a + 1) n ∙ ap (λ k. range_with_len (a + 1) n ++ k ∷ []) (omega arith))

module _ {A : Type 0} (f : ℕ → A) where
  map_more : (xs : List ℕ) (k : ℕ) → map f (xs ++ k ∷ []) ≡ map f xs ++ f k ∷ []
  map_more [] k = refl
  map_more (x ∷ xs) k = ap (λ ys. f x ∷ ys) (map_more xs k)

  -- the item at a number
  at_number : (a n i : ℕ) → i < n → slice_get (map f (range_with_len a n)) i ≡ Some (f (a + i))
  at_number a zero i lt = absurd (omega (arith, lt))
  at_number a (suc n) zero lt = ap (λ k. Some (f k)) (omega arith)
  at_number a (suc n) (suc i) lt = at_number (a + 1) n i (omega (arith, lt)) ∙ ap (λ k. Some (f k)) (omega arith)

  number_of : (a n i : ℕ) (x : A) → slice_get (map f (range_with_len a n)) i ≡ Some x → (i < n) × (x ≡ f (a + i))
  number_of a zero i x e = absurd (none-some _ e)
  number_of a (suc n) zero x e = (omega arith, sym (same_Some _ _ e) ∙ ap f (omega arith))
  number_of a (suc n) (suc i) x e = let r = number_of (a + 1) n i x e in (omega (arith, r.0), r.1 ∙ ap f (omega arith))

module _ (T : Table) (n : ℕ) where
  -- the columns of a table are its streams at the spaces below their number
  pub column_at : (s : ℕ) → s < n → slice_get (table_columns T n) s ≡ Some (table_stream_at T s)
  column_at s lt = at_number (table_stream_at T) 0 n s lt ∙ ap (λ k. Some (table_stream_at T k)) (omega arith)

  pub column_is : (s : ℕ) (x : OneStream) → slice_get (table_columns T n) s ≡ Some x → (s < n) × (x ≡ table_stream_at T s)
  column_is s x e = let r = number_of (table_stream_at T) 0 n s x e in (r.0, r.1 ∙ ap (table_stream_at T) (omega arith))

  pub among_columns : (s : ℕ) → s < n → In (table_stream_at T s) (table_columns T n)
  among_columns s lt = in_map (table_stream_at T) s (range_with_len 0 n) (subst (λ k. In k (range_with_len 0 n)) (omega arith) (in_range 0 n s lt))

  pub is_column : (x : OneStream) → In x (table_columns T n) → (s : ℕ) × (s < n) × (x ≡ table_stream_at T s)
  is_column x i = let r = from_map (table_stream_at T) x (range_with_len 0 n) i in (r.item, omega (arith, (of_range 0 n r.item r.among).1), r.is)

  -- one column more
  pub columns_more : table_columns T (suc n) ≡ table_columns T n ++ table_stream_at T n ∷ []
  columns_more =
      ap (map (table_stream_at T)) (range_more 0 n) ∙ map_more (table_stream_at T) (range_with_len 0 n) (0 + n)
      ∙ ap (λ k. table_columns T n ++ table_stream_at T k ∷ []) (omega arith)

module _ (z : Start) (b : Elements) where
  -- no end stands where a line stands
  pub no_end : (t : ℕ) (bytes : List ℕ) → Output (subject z) b t bytes → (u : ℕ) → u < t → (subject z).ends b u → ⊥
  no_end _ _ no_lines u lt ends = absurd (omega (arith, lt))
  no_end _ _ (one_line_more {k = k} {bytes = bytes} before next stands) u lt ends = by (no_end k bytes before u) (cases_lt u k)
    where
      at_end : u ≡ k → ⊥
      at_end same = let going = stands.2 in going.2 (subst (λ q. (subject z).ends b q) same ends going.0 going.1)

      by : (u < k → (subject z).ends b u → ⊥) → (u < k) ⊎ (k ≤ u) → ⊥
      by earlier (inl lower) = earlier lower ends
      by earlier (inr le) = at_end (omega (arith, lt, le))

  -- a value is demanded at a space of an open column
  pub demands_open : (t s : ℕ) → Demands (layout z) b t s → (s < z.columns) × IsOpen (table_stream_at z.table s) b t
  demands_open t s d = let r = column_is z.table z.columns s d.0 d.1 in (r.0, subst (λ x. IsOpen x b t) r.1 d.2)

  pub open_demands : (t s : ℕ) → s < z.columns → IsOpen (table_stream_at z.table s) b t → Demands (layout z) b t s
  open_demands t s lt opened = (table_stream_at z.table s, column_at z.table z.columns s lt, opened)

  module _ (m t s : ℕ) (there : Demands (layout z) b t s) where
    -- where it is undefined at such a point the subject is undefined then,
    pub undefined_there : eqval (equations_of z.table) b m t s ≡ None → (subject z).undefined b m t
    undefined_there e = let r = demands_open t s there in (table_stream_at z.table s, among_columns z.table z.columns s r.0, (r.1, e))

    -- and not defined,
    pub not_defined : eqval (equations_of z.table) b m t s ≡ None → (subject z).defined b m t → ⊥
    not_defined e defined = let r = demands_open t s there in
        is_none (eqval (equations_of z.table) b m t s) e (defined (table_stream_at z.table s) (among_columns z.table z.columns s r.0) r.1)

    -- and what it consults there the subject consults then
    pub consults_there : (d : ℕ) (pair : List ℕ × ℕ) → In pair (consults_on_nodes (equations_of z.table) b m d t s) → (subject z).consults b m d t pair
    consults_there d pair i = let r = demands_open t s there in (table_stream_at z.table s, among_columns z.table z.columns s r.0, (r.1, i))
