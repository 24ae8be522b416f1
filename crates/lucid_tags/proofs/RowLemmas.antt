-- The known contexts of a table of rows, and what adding a row does.
use Rattle.lucid_tags.proofs.Common.{◌≡◌, ◌≢◌, ℕ, zero, suc, ◌-◌, ◌<◌, ◌≤◌, ◌^◌, ◌⊎◌, inl, inr, List, length, Option, None, true, false, not, refl, ap, sym, ◌∙◌, subst, arith, slice_get, slice_get_within, list_any, Row, RowFrame, Call, Frozen, Depth, eq-value, Context, root, frozen_frame, frames, base_of, IsOuter, context_at, row_context, contexts, IsDepth, AreDistinct, AreRows, ◌+◌, IfNone, IfSome, get_or, length-append, get_or_append_left, slice_get-get_or, find, IfSome-find_same}
use Rattle.std.proofs.Common.{[], ◌∷◌, ◌++◌, Some}
use Rattle.lucid_tags.specs.Rows.{with_frame, CallerBelow, contexts_after, IsRow, AreDepths}
use Rattle.lucid_tags.specs.Known.{IsUnknown}
use Rattle.lucid_tags.proofs.ContextLemmas.{outer-itself, outer-base_of, outer-outer}
use Rattle.lucid_tags.proofs.ListLemmas.{slice_get-push, fails-list_any, none_passes}
use Rattle.lucid_tags.proofs.RowEquality.{other_row, row_decides, same_row}

-- a context added at the end leaves the others
pub context_at-left : (known : List Context) (c : Context) (n : ℕ) → n < length known → context_at (known ++ c ∷ []) n ≡ context_at known n
context_at-left known c n h = get_or_append_left known (c ∷ []) root n h

pub context_at-last : (known : List Context) (c : Context) → context_at (known ++ c ∷ []) (length known) ≡ c
context_at-last [] c = refl
context_at-last (x ∷ known) c = context_at-last known c

pub length-push : (known : List Context) (c : Context) → length (known ++ c ∷ []) ≡ suc (length known)
length-push known c = omega (arith, length-append known (c ∷ []))

-- how many contexts there are
pub length-contexts_after : (known : List Context) (rows : List Row) → length (contexts_after known rows) ≡ length known + length rows
length-contexts_after known [] = omega arith
length-contexts_after known (row ∷ rows) =
    let c = row_context known row in
    omega (arith, length-contexts_after (known ++ c ∷ []) rows, length-push known c)

pub length-contexts : (rows : List Row) → length (contexts rows) ≡ suc (length rows)
length-contexts rows = omega (arith, length-contexts_after (root ∷ []) rows)

-- the contexts that were known stay
pub context_at-contexts_after : (known : List Context) (rows : List Row) (n : ℕ) → n < length known
    → context_at (contexts_after known rows) n ≡ context_at known n
context_at-contexts_after known [] n h = refl
context_at-contexts_after known (row ∷ rows) n h =
    let c = row_context known row in
    context_at-contexts_after (known ++ c ∷ []) rows n (omega (arith, h, length-push known c)) ∙ context_at-left known c n h

-- number 0 is that of the empty context
pub context_at-first : (rows : List Row) → context_at (contexts rows) 0 ≡ root
context_at-first rows = context_at-contexts_after (root ∷ []) rows 0 (omega arith)

-- a row at the end adds its context at the end
pub contexts_after-push : (known : List Context) (rows : List Row) (row : Row)
    → contexts_after known (rows ++ row ∷ []) ≡ contexts_after known rows ++ row_context (contexts_after known rows) row ∷ []
contexts_after-push known [] row = refl
contexts_after-push known (x ∷ rows) row = contexts_after-push (known ++ row_context known x ∷ []) rows row

pub contexts-push : (rows : List Row) (row : Row) → contexts (rows ++ row ∷ []) ≡ contexts rows ++ row_context (contexts rows) row ∷ []
contexts-push rows row = contexts_after-push (root ∷ []) rows row

-- a frame over known contexts stands for the same once one more is known
pub with_frame-left : (known : List Context) (c : Context) (f : RowFrame) (base other : Context) → CallerBelow (length known) f → base ≡ other
    → with_frame (known ++ c ∷ []) f base ≡ with_frame known f other
with_frame-left known c (Call place caller) base other h e = let p = context_at-left known c caller h in cc
with_frame-left known c (Frozen time) base other h e = ap (frozen_frame time) e

caller_below : (m n : ℕ) (f : RowFrame) → m ≤ n → CallerBelow m f → CallerBelow n f
caller_below m n (Call place caller) h b = omega (arith, b)
caller_below m n (Frozen time) h b = tt

pub row_context-left : (known : List Context) (c : Context) (row : Row) → row.base < length known → CallerBelow (length known) row.frame
    → row_context (known ++ c ∷ []) row ≡ row_context known row
row_context-left known c row b f = with_frame-left known c row.frame _ _ f (context_at-left known c row.base b)

-- what is right of a row and of a depth stays so
pub IsRow-left : (known : List Context) (c : Context) (number : ℕ) (row : Row) → number < length known → IsRow known number row
    → IsRow (known ++ c ∷ []) number row
IsRow-left known c number row h r = record {
  base = r.base;
  caller = r.caller;
  context =
      context_at-left known c number h
      ∙ r.context
      ∙ sym (row_context-left known c row (omega (arith, h, r.base)) (caller_below number (length known) row.frame (omega arith) r.caller));
}

pub IsDepth-left : (known : List Context) (c : Context) (number : ℕ) (depth : Depth) → number < length known → IsDepth known number depth
    → IsDepth (known ++ c ∷ []) number depth
IsDepth-left known c number depth h d =
    let inner = context_at-left known c number h in
    let outer = context_at-left known c depth.outer (omega (arith, h, d.before)) in
    record {
      level = d.level ∙ ap frames (sym inner);
      low = d.low;
      before = d.before;
      lower = d.lower;
      outer = rw (inner, outer) d.outer;
    }

-- the frames of a row and of its context
pub frames-with_frame : (known : List Context) (f : RowFrame) (base : Context) → frames (with_frame known f base) ≡ suc (frames base)
frames-with_frame known (Call place caller) base = refl
frames-with_frame known (Frozen time) base = refl

pub base_of-with_frame : (known : List Context) (f : RowFrame) (base : Context) → base_of (with_frame known f base) ≡ base
base_of-with_frame known (Call place caller) base = refl
base_of-with_frame known (Frozen time) base = refl

pub with_frame-full : (known : List Context) (f : RowFrame) (base : Context) → root ≢ with_frame known f base
with_frame-full known (Call place caller) base e = cc
with_frame-full known (Frozen time) base e = cc

-- two rows over known contexts are equal where their contexts are
same_frames : (known : List Context) → AreDistinct known → (f g : RowFrame) (b d : Context) → CallerBelow (length known) f → CallerBelow (length known) g
    → with_frame known f b ≡ with_frame known g d → (f ≡ g) × (b ≡ d)
same_frames known one (Call p x) (Call q y) b d h k e =
    let place : p ≡ q = cc in
    let at : context_at known x ≡ context_at known y = cc in
    let base : b ≡ d = cc in
    let caller : x ≡ y = one.same x y h k at in
    (cc, base)
same_frames known one (Call p x) (Frozen u) b d h k e = absurd (cc)
same_frames known one (Frozen t) (Call q y) b d h k e = absurd (cc)
same_frames known one (Frozen t) (Frozen u) b d h k e = (cc, cc)

pub same_rows : (known : List Context) → AreDistinct known → (r s : Row) → r.base < length known → s.base < length known → CallerBelow (length known) r.frame
    → CallerBelow (length known) s.frame → row_context known r ≡ row_context known s → r ≡ s
same_rows known one r s rb sb rc sc e =
    let f = same_frames known one r.frame s.frame _ _ rc sc e in
    let b : r.base ≡ s.base = one.same r.base s.base rb sb f.1 in
    λ i. record { base = b i; frame = f.0 i }

-- the context of a row that isn't in the table isn't known
pub fresh : (rows : List Row) (depths : List Depth) → AreRows rows depths → (row : Row) → row.base < length (contexts rows)
    → CallerBelow (length (contexts rows)) row.frame → ((i : ℕ) (r : Row) → slice_get rows i ≡ Some r → r ≢ row)
    → IsUnknown (contexts rows) (row_context (contexts rows) row)
fresh rows depths h row b f absent zero l e = with_frame-full (contexts rows) row.frame _ (sym (context_at-first rows) ∙ e)
fresh rows depths h row b f absent (suc i) l e =
    let within : i < length rows = omega (arith, l, length-contexts rows) in
    let there = get_or rows i row in
    let at : slice_get rows i ≡ Some there = slice_get-get_or rows i row within in
    let r = h.row i there at in
    absent i there at (same_rows (contexts rows) h.distinct there row (omega (arith, r.base, l)) b
    (caller_below (suc i) (length (contexts rows)) there.frame (omega arith) r.caller) f (sym r.context ∙ e))

-- distinct contexts, and one more that isn't among them
last_or_below : (i n : ℕ) → i < suc n → (i < n) ⊎ (i ≡ n)
last_or_below i n h = grind arith

module _ (known : List Context) (c : Context) (one : AreDistinct known) (new : (n : ℕ) → n < length known → context_at known n ≢ c) where
  same_places : (i j : ℕ) → (i < length known) ⊎ (i ≡ length known) → (j < length known) ⊎ (j ≡ length known)
      → context_at (known ++ c ∷ []) i ≡ context_at (known ++ c ∷ []) j → i ≡ j
  same_places i j (inl p) (inl q) e = one.same i j p q (sym (context_at-left known c i p) ∙ e ∙ context_at-left known c j q)
  same_places i j (inl p) (inr q) e = absurd (new i p (sym (context_at-left known c i p) ∙ e ∙ ap (context_at (known ++ c ∷ [])) q ∙ context_at-last known c))
  same_places i j (inr p) (inl q) e = absurd (new j q
      (sym (context_at-left known c j q) ∙ sym e ∙ ap (context_at (known ++ c ∷ [])) p ∙ context_at-last known c))
  same_places i j (inr p) (inr q) e = p ∙ sym q

  pub distinct-push : AreDistinct (known ++ c ∷ [])
  distinct-push = record {
    same = λ i j h k e. same_places i j (last_or_below i (length known) (subst (λ n. i < n) (length-push known c) h))
        (last_or_below j (length known) (subst (λ n. j < n) (length-push known c) k)) e;
  }

-- the last row is right, and so is its depth
module _ (known : List Context) (row : Row) (base : row.base < length known) where
  pub IsRow-last : CallerBelow (length known) row.frame → IsRow (known ++ row_context known row ∷ []) (length known) row
  IsRow-last caller = record {
    base = base;
    caller = caller;
    context = context_at-last known (row_context known row) ∙ sym (row_context-left known (row_context known row) row base caller);
  }

  over_base : IsOuter (context_at known row.base) (row_context known row)
  over_base = subst (λ b. IsOuter b (row_context known row)) (base_of-with_frame known row.frame (context_at known row.base))
      (outer-base_of (row_context known row))

  pub IsDepth-last : (depth : Depth) → depth.level ≡ frames (context_at known row.base) + 1 → depth.level ≤ row.base + 1 → depth.outer ≤ row.base
      → IsOuter (context_at known depth.outer) (context_at known row.base) → IsDepth (known ++ row_context known row ∷ []) (length known) depth
  IsDepth-last depth level low before outer =
      let inner = context_at-last known (row_context known row) in
      let out = context_at-left known (row_context known row) depth.outer (omega arith) in
      record {
        level = omega (arith, level, ap frames inner, frames-with_frame known row.frame (context_at known row.base));
        low = omega arith;
        before = omega arith;
        lower = λ e. omega arith;
        outer = rw (inner, out) (outer-outer _ _ _ outer over_base);
      }

-- depths stay right once one more context is known
pub AreDepths-left : (known : List Context) (c : Context) (depths : List Depth) → length depths < length known → AreDepths known depths
    → AreDepths (known ++ c ∷ []) depths
AreDepths-left known c depths few h = record {
  depth = λ i d at. IsDepth-left known c (suc i) d (omega (arith, slice_get_within depths i d at)) (h.depth i d at);
}

-- a table whose rows are right has as many depths as contexts but the empty one
pub length-depths : (rows : List Row) (depths : List Depth) → AreRows rows depths → length (contexts rows) ≡ suc (length depths)
length-depths rows depths h = omega (arith, length-contexts rows, h.even)

-- a row whose base and caller are known, and which isn't in the table yet
pub record Addable (rows : List Row) (row : Row) : Type 0 where
  pub base : row.base < length (contexts rows)
  pub caller : CallerBelow (length (contexts rows)) row.frame
  pub absent : (i : ℕ) (r : Row) → slice_get rows i ≡ Some r → r ≢ row
  pub few : suc (length rows) < 2 ^ 32

-- the depth of a context over that of the base is right
pub record IsDepthOver (known : List Context) (base : ℕ) (depth : Depth) : Type 0 where
  pub level : depth.level ≡ frames (context_at known base) + 1
  pub low : depth.level ≤ base + 1
  pub before : depth.outer ≤ base
  pub outer : IsOuter (context_at known depth.outer) (context_at known base)

-- also where one more context is known
pub IsDepthOver-shorter : (known : List Context) (c : Context) (base : ℕ) (depth : Depth) → base < length known → IsDepthOver (known ++ c ∷ []) base depth
    → IsDepthOver known base depth
IsDepthOver-shorter known c base depth h d =
    let inner = sym (context_at-left known c base h) in
    let outer = sym (context_at-left known c depth.outer (omega (arith, h, d.before))) in
    record {
      level = omega (arith, d.level, ap frames inner);
      low = d.low;
      before = d.before;
      outer = rw (inner, outer) d.outer;
    }

module _ (rows : List Row) (depths : List Depth) (h : AreRows rows depths) (row : Row) (depth : Depth) (a : Addable rows row)
    (d : IsDepthOver (contexts rows) row.base depth) where
  row_at : (i : ℕ) (r : Row) → (slice_get rows i ≡ Some r) ⊎ ((i ≡ length rows) × (row ≡ r))
      → IsRow (contexts rows ++ row_context (contexts rows) row ∷ []) (suc i) r
  row_at i r (inl p) = IsRow-left (contexts rows) _ (suc i) r (omega (arith, slice_get_within rows i r p, length-contexts rows)) (h.row i r p)
  row_at i r (inr p) =
      let number : length (contexts rows) ≡ suc i = omega (arith, length-contexts rows, p.0) in
      subst (λ q. IsRow (contexts rows ++ row_context (contexts rows) row ∷ []) (suc i) q) p.1
      (subst (λ n. IsRow (contexts rows ++ row_context (contexts rows) row ∷ []) n row) number (IsRow-last (contexts rows) row a.base a.caller))

  depth_at : (i : ℕ) (e : Depth) → (slice_get depths i ≡ Some e) ⊎ ((i ≡ length depths) × (depth ≡ e))
      → IsDepth (contexts rows ++ row_context (contexts rows) row ∷ []) (suc i) e
  depth_at i e (inl p) = IsDepth-left (contexts rows) _ (suc i) e (omega (arith, slice_get_within depths i e p, length-depths rows depths h))
      (h.deep.depth i e p)
  depth_at i e (inr p) =
      let number : length (contexts rows) ≡ suc i = omega (arith, length-depths rows depths h, p.0) in
      subst (λ q. IsDepth (contexts rows ++ row_context (contexts rows) row ∷ []) (suc i) q) p.1
      (subst (λ n. IsDepth (contexts rows ++ row_context (contexts rows) row ∷ []) n depth) number
      (IsDepth-last (contexts rows) row a.base depth d.level d.low d.before d.outer))

  pub AreRows-push : AreRows (rows ++ row ∷ []) (depths ++ depth ∷ [])
  AreRows-push = record {
    row = λ i r at. subst (λ k. IsRow k (suc i) r) (sym (contexts-push rows row)) (row_at i r (slice_get-push rows row r i at));
    deep = record {
      depth = λ i e at. subst (λ k. IsDepth k (suc i) e) (sym (contexts-push rows row)) (depth_at i e (slice_get-push depths depth e i at));
    };
    even = omega (arith, h.even, length-append rows (row ∷ []), length-append depths (depth ∷ []));
    distinct = subst AreDistinct (sym (contexts-push rows row))
        (distinct-push (contexts rows) (row_context (contexts rows) row) h.distinct (fresh rows depths h row a.base a.caller a.absent));
    few = omega (arith, a.few, length-append rows (row ∷ []));
  }

-- an empty table
pub AreRows-nil : AreRows [] []
AreRows-nil = record {
  row = λ i r at. absurd (cc);
  deep = record { depth = λ i d at. absurd (cc) };
  even = refl;
  distinct = record { same = λ i j h k e. omega arith };
  few = omega arith;
}

-- the row and the depth of a context that isn't empty
pub row_of-at : (rows : List Row) (depths : List Depth) → AreRows rows depths → (n : ℕ) → 0 < n → (r : Row) → slice_get rows (n - 1) ≡ Some r
    → IsRow (contexts rows) n r
row_of-at rows depths h zero l r at = absurd (omega arith)
row_of-at rows depths h (suc i) l r at = h.row i r (subst (λ k. slice_get rows k ≡ Some r) (omega arith) at)

pub depth_of-at : (known : List Context) (depths : List Depth) → AreDepths known depths → (n : ℕ) → 0 < n → (d : Depth) → slice_get depths (n - 1) ≡ Some d
    → IsDepth known n d
depth_of-at known depths h zero l d at = absurd (omega arith)
depth_of-at known depths h (suc i) l d at = h.depth i d (subst (λ k. slice_get depths k ≡ Some d) (omega arith) at)

-- the empty context is at the level 0
pub IsDepth-first : (rows : List Row) → (n : ℕ) → n ≡ 0 → IsDepth (contexts rows) n (record { level = 0; outer = 0 })
IsDepth-first rows n e = record {
  level = rw e (ap frames (sym (context_at-first rows)));
  low = omega arith;
  before = omega arith;
  lower = λ p. e;
  outer = rw e (outer-itself (context_at (contexts rows) 0));
}

-- the context of a row that stands in the table
pub context_of-row : (rows : List Row) (depths : List Depth) → AreRows rows depths → (row : Row) (i : ℕ) → slice_get rows i ≡ Some row
    → context_at (contexts rows) (suc i) ≡ row_context (contexts rows) row
context_of-row rows depths h row i at = (h.row i row at).context

-- what is found is the row itself
pub found_row : (rows : List Row) (row there : Row) → Some there ≡ find (eq-value.it row) rows → there ≡ row
found_row rows row there e = subst (λ o. IfSome o (λ k. k ≡ row)) (sym e) (IfSome-find_same row_decides row rows)

-- where no row is found, its context isn't known
pub fresh-none : (rows : List Row) (depths : List Depth) → AreRows rows depths → (row : Row) → row.base < length (contexts rows)
    → CallerBelow (length (contexts rows)) row.frame → list_any (eq-value.it row) rows ≡ false → IsUnknown (contexts rows) (row_context (contexts rows) row)
fresh-none rows depths h row b f none = fresh rows depths h row b f (λ i r at. other_row row r (fails-list_any (eq-value.it row) rows none i r at))

-- a row that is stored at an index
pub stored_row : (rows : List Row) (i : ℕ) (row : Row) → (k : Row) × (slice_get rows i ≡ Some k) × (eq-value.it row k ≡ true) → slice_get rows i ≡ Some row
stored_row rows i row s = s.1 ∙ ap Some (sym (same_row row s.0 s.2))

-- the context of the last row
pub added_context : (rows : List Row) (row : Row) → row.base < length (contexts rows) → CallerBelow (length (contexts rows)) row.frame
    → row_context (contexts (rows ++ row ∷ [])) row ≡ row_context (contexts rows) row
added_context rows row b f = ap (λ k. row_context k row) (contexts-push rows row) ∙ row_context-left (contexts rows) (row_context (contexts rows) row) row b f

-- depths stay right behind one more row
pub AreDepths-push : (rows : List Row) (depths : List Depth) → AreRows rows depths → (row : Row) → AreDepths (contexts (rows ++ row ∷ [])) depths
AreDepths-push rows depths h row =
    subst (λ k. AreDepths k depths) (sym (contexts-push rows row))
    (AreDepths-left (contexts rows) (row_context (contexts rows) row) depths (omega (arith, length-depths rows depths h)) h.deep)

-- the depth of a last row is right over those before it
pub IsDepthOver-before : (rows : List Row) (row : Row) (depth : Depth) → row.base < length (contexts rows)
    → IsDepthOver (contexts (rows ++ row ∷ [])) row.base depth → IsDepthOver (contexts rows) row.base depth
IsDepthOver-before rows row depth b d =
    IsDepthOver-shorter (contexts rows) (row_context (contexts rows) row) row.base depth b
    (subst (λ k. IsDepthOver k row.base depth) (contexts-push rows row) d)

-- a row that isn't found can be added
pub addable : (rows : List Row) (row : Row) → row.base < length (contexts rows) → CallerBelow (length (contexts rows)) row.frame
    → true ≡ not (list_any (eq-value.it row) rows) → suc (length rows) < 2 ^ 32 → Addable rows row
addable rows row b f none few = record {
  base = b;
  caller = f;
  absent = λ i r at. other_row row r (fails-list_any (eq-value.it row) rows (none_passes _ none) i r at);
  few = few;
}

-- what holds whatever the answer
pub if_none : {T P : Type 0} (o : Option T) → P → IfNone o P
if_none None p = p
if_none (Some x) p = tt
