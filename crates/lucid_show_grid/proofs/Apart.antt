-- No box covers another.
use Rattle.std.proofs.Common.{◌≡◌, ℕ, zero, suc, ◌+◌, ◌*◌, ◌<◌, ◌≤◌, inl, inr, List, [], ◌∷◌, ◌++◌, map, length, get_or, arith, refl, subst, ◌∙◌}
use Rattle.std.specs.List.{All, AllByRecursion, AllPairs, Contains}
use Rattle.std.specs.List.Sorted.{IsStrictlyIncreasing}
use Rattle.std.proofs.lemmas.List.Elements.{All-append, All-cons, All-from_recursion, All-nil, All-weaker, recursion_from_All}
use Rattle.std.proofs.lemmas.List.Kept.{AllPairs-from_increasing}
use Rattle.std.proofs.Math.Nat.{mul-le-mul_right}
use Rattle.lucid_show_grid.specs.declared.places.Frame.{Frame}
use Rattle.lucid_show_grid.specs.Grids.{PlainMark, PlainLine, PlainPanel}
use Rattle.lucid_show_grid.specs.Places.{PlainPlaced, below, frame_of, height, index_of, place_at, place_lines, place_mark, place_panels}
use Rattle.lucid_show_grid.specs.Laws.{Apart, BoxesApart, IsInOrder, IsLineInOrder}
use Rattle.lucid_show_grid.proofs.Found.{first_at}

-- what holds of each two of a list, by recursion
abbrev pub Pairs : {X : Type 0} → (X → X → Type 0) → List X → Type 0
Pairs R [] = Unit {0}
Pairs R (x ∷ xs) = AllByRecursion (R x) xs × Pairs R xs

pub pairs_by_index : {X : Type 0} (R : X → X → Type 0) (xs : List X) → AllPairs R xs → Pairs R xs
pairs_by_index R [] h = tt
pairs_by_index R (x ∷ xs) h = (
  recursion_from_All (R x) xs (λ j d b. h 0 (suc j) d (omega arith) (omega arith)),
  pairs_by_index R xs (λ i j d a b. h (suc i) (suc j) d (omega arith) (omega arith)),
)

pairs_at_index : {X : Type 0} (R : X → X → Type 0) (xs : List X) → Pairs R xs → AllPairs R xs
pairs_at_index R [] h i j d a b = absurd (omega arith)
pairs_at_index R (x ∷ xs) h i zero d a b = absurd (omega arith)
pairs_at_index R (x ∷ xs) h zero (suc j) d a b = All-from_recursion (R x) xs h.0 j d (omega arith)
pairs_at_index R (x ∷ xs) h (suc i) (suc j) d a b = pairs_at_index R xs h.1 i j d (omega arith) (omega arith)

pairs_append : {X : Type 0} (R : X → X → Type 0) (xs ys : List X) → Pairs R xs → Pairs R ys → AllByRecursion (λ x. AllByRecursion (R x) ys) xs
    → Pairs R (xs ++ ys)
pairs_append R [] ys h k c = k
pairs_append R (x ∷ xs) ys h k c = (
  recursion_from_All (R x) (xs ++ ys) (All-append (R x) xs ys (All-from_recursion (R x) xs h.0) (All-from_recursion (R x) ys c.0)),
  pairs_append R xs ys h.1 k c.1,
)

-- times of a rising list stand in the order of their columns
same_default : (ts : List ℕ) (i d e : ℕ) → i < length ts → get_or ts i d ≡ get_or ts i e
same_default [] i d e b = absurd (omega arith)
same_default (t ∷ ts) zero d e b = refl
same_default (t ∷ ts) (suc i) d e b = same_default ts i d e (omega arith)

column_at : (ts : List ℕ) (t : ℕ) → IsStrictlyIncreasing ts → (c : Contains ts t) → index_of ts t ≡ c.0
column_at ts t rise c =
    first_at ts t c.0 c.1
    (λ k b. subst (λ (v : ℕ). get_or ts k 0 < v) (is ts t c) (AllPairs-from_increasing ts rise k c.0 0 b c.1)) (is ts t c)
  where
    is : (ts : List ℕ) (t : ℕ) (c : Contains ts t) → get_or ts c.0 0 ≡ t
    is ts t c = same_default ts c.0 0 t c.1 ∙ c.2

in_order : (ts : List ℕ) (i j : ℕ) → AllPairs (λ (a b : ℕ). a < b) ts → i < length ts → j < length ts → get_or ts i 0 < get_or ts j 0 → i < j
in_order [] i j rise a b h = absurd (omega arith)
in_order (t ∷ ts) zero zero rise a b h = absurd (omega arith)
in_order (t ∷ ts) zero (suc j) rise a b h = omega arith
in_order (t ∷ ts) (suc i) zero rise a b h =
    let before : t < get_or ts i 0 = rise 0 (suc i) 0 (omega arith) a in
    absurd (omega arith)
in_order (t ∷ ts) (suc i) (suc j) rise a b h =
    let more : i < j = in_order ts i j (λ m n d p q. rise (suc m) (suc n) d (omega arith) (omega arith)) (omega arith) (omega arith) h in
    omega arith

columns_rise : (ts : List ℕ) (t u : ℕ) → IsStrictlyIncreasing ts → Contains ts t → Contains ts u → t < u → index_of ts t < index_of ts u
columns_rise ts t u rise c e h =
    let first : index_of ts t ≡ c.0 = column_at ts t rise c in
    let second : index_of ts u ≡ e.0 = column_at ts u rise e in
    let here : get_or ts c.0 0 ≡ t = same_default ts c.0 0 t c.1 ∙ c.2 in
    let there : get_or ts e.0 0 ≡ u = same_default ts e.0 0 u e.1 ∙ e.2 in
    let more : c.0 < e.0 = in_order ts c.0 e.0 (AllPairs-from_increasing ts rise) c.1 e.1 (omega arith) in
    omega arith

abbrev Behind : PlainPlaced → PlainPlaced → Type 0
Behind p q = Apart p.place q.place

beside : (f : Frame) (i k n : ℕ) → k < n → (place_at f i k).x + (place_at f i k).width < (place_at f i n).x
unfolding place_at
beside f i k n h = omega (arith, mul-le-mul_right (f.width + 26) h)

abbrev pub Later : PlainMark → PlainMark → Type 0
Later m n = m.time < n.time

abbrev IsAmong : List ℕ → PlainMark → Type 0
IsAmong ts m = Contains ts m.time

mark_apart : (f : Frame) (ts : List ℕ) (i : ℕ) (m : PlainMark) (ms : List PlainMark) → IsStrictlyIncreasing ts → Contains ts m.time
    → AllByRecursion (Later m) ms → AllByRecursion (IsAmong ts) ms → AllByRecursion (Behind (place_mark f ts i m)) (map (place_mark f ts i) ms)
mark_apart f ts i m [] rise c later among = tt
mark_apart f ts i m (n ∷ ms) rise c later among = (
  inl (beside f i (index_of ts m.time) (index_of ts n.time) (columns_rise ts m.time n.time rise c among.0 later.0)),
  mark_apart f ts i m ms rise c later.1 among.1,
)

line_apart : (f : Frame) (ts : List ℕ) (i : ℕ) (ms : List PlainMark) → IsStrictlyIncreasing ts → Pairs Later ms → AllByRecursion (IsAmong ts) ms
    → Pairs Behind (map (place_mark f ts i) ms)
line_apart f ts i [] rise later among = tt
line_apart f ts i (m ∷ ms) rise later among =
    (mark_apart f ts i m ms rise among.0 later.0 among.1, line_apart f ts i ms rise later.1 among.1)

abbrev EndsAbove : ℕ → PlainPlaced → Type 0
EndsAbove h p = p.place.y + 30 < h

abbrev StandsBelow : ℕ → PlainPlaced → Type 0
StandsBelow h p = h ≤ p.place.y

one_above : (h : ℕ) (p q : PlainPlaced) → EndsAbove h p → StandsBelow h q → Behind p q
one_above h p q a b = inr (omega arith)

above : (h : ℕ) (xs ys : List PlainPlaced) → All (EndsAbove h) xs → All (StandsBelow h) ys → AllByRecursion (λ x. AllByRecursion (Behind x) ys) xs
above h xs ys a b =
    recursion_from_All (λ x. AllByRecursion (Behind x) ys) xs
    (All-weaker (EndsAbove h) (λ x. AllByRecursion (Behind x) ys)
    (λ p ends. recursion_from_All (Behind p) ys (All-weaker (StandsBelow h) (Behind p) (λ q begins. one_above h p q ends begins) ys b)) xs a)

-- the boxes of a line and of lines stand between these heights
line_ends : (f : Frame) (ts : List ℕ) (i h : ℕ) (ms : List PlainMark) → f.top + (88 + 64 * i) < h → All (EndsAbove h) (map (place_mark f ts i) ms)
unfolding place_at
line_ends f ts i h [] lt = All-nil (EndsAbove h)
line_ends f ts i h (m ∷ ms) lt = All-cons (EndsAbove h) (place_mark f ts i m) (map (place_mark f ts i) ms) (omega arith) (line_ends f ts i h ms lt)

line_begins : (f : Frame) (ts : List ℕ) (i h : ℕ) (ms : List PlainMark) → h ≤ f.top + (58 + 64 * i) → All (StandsBelow h) (map (place_mark f ts i) ms)
unfolding place_at
line_begins f ts i h [] le = All-nil (StandsBelow h)
line_begins f ts i h (m ∷ ms) le = All-cons (StandsBelow h) (place_mark f ts i m) (map (place_mark f ts i) ms) (omega arith) (line_begins f ts i h ms le)

lines_end : (f : Frame) (ts : List ℕ) (i h : ℕ) (ls : List PlainLine) → f.top + (24 + 64 * (i + length ls)) < h
    → All (EndsAbove h) (place_lines f ts i ls)
lines_end f ts i h [] lt = All-nil (EndsAbove h)
lines_end f ts i h (l ∷ ls) lt =
    All-append (EndsAbove h) (map (place_mark f ts i) l.marks) (place_lines f ts (i + 1) ls)
    (line_ends f ts i h l.marks (omega arith)) (lines_end f ts (i + 1) h ls (omega arith))

lines_begin : (f : Frame) (ts : List ℕ) (i h : ℕ) (ls : List PlainLine) → h ≤ f.top + (58 + 64 * i) → All (StandsBelow h) (place_lines f ts i ls)
lines_begin f ts i h [] le = All-nil (StandsBelow h)
lines_begin f ts i h (l ∷ ls) le =
    All-append (StandsBelow h) (map (place_mark f ts i) l.marks) (place_lines f ts (i + 1) ls)
    (line_begins f ts i h l.marks le) (lines_begin f ts (i + 1) h ls (omega arith))

lines_apart : (f : Frame) (ts : List ℕ) (i : ℕ) (ls : List PlainLine) → IsStrictlyIncreasing ts → AllByRecursion (IsLineInOrder ts) ls
    → Pairs Behind (place_lines f ts i ls)
lines_apart f ts i [] rise h = tt
lines_apart f ts i (l ∷ ls) rise h =
    pairs_append Behind (map (place_mark f ts i) l.marks) (place_lines f ts (i + 1) ls)
    (line_apart f ts i l.marks rise (pairs_by_index Later l.marks h.0.rise) h.0.among) (lines_apart f ts (i + 1) ls rise h.1)
    (above (f.top + (58 + 64 * (i + 1))) (map (place_mark f ts i) l.marks) (place_lines f ts (i + 1) ls)
    (line_ends f ts i (f.top + (58 + 64 * (i + 1))) l.marks (omega arith)) (lines_begin f ts (i + 1) (f.top + (58 + 64 * (i + 1))) ls (omega arith)))

top_of : (y : ℕ) (p : PlainPanel) → (frame_of y p).top ≡ y
unfolding frame_of
top_of y p = refl

end_of : (y : ℕ) (p : PlainPanel) → y + (24 + 64 * (0 + length p.lines)) < below y p
unfolding below height
end_of y p = omega arith

panels_begin : (y h : ℕ) (ps : List PlainPanel) → h ≤ y → All (StandsBelow h) (place_panels y ps)
panels_begin y h [] le = All-nil (StandsBelow h)
panels_begin y h (p ∷ ps) le =
    let e : (frame_of y p).top ≡ y = top_of y p in
    let lt : y + (24 + 64 * (0 + length p.lines)) < below y p = end_of y p in
    All-append (StandsBelow h) (place_lines (frame_of y p) p.times 0 p.lines) (place_panels (below y p) ps)
    (lines_begin (frame_of y p) p.times 0 h p.lines (omega arith)) (panels_begin (below y p) h ps (omega arith))

panels_apart : (y : ℕ) (ps : List PlainPanel) → AllByRecursion IsInOrder ps → Pairs Behind (place_panels y ps)
panels_apart y [] h = tt
panels_apart y (p ∷ ps) h =
    let e : (frame_of y p).top ≡ y = top_of y p in
    let lt : y + (24 + 64 * (0 + length p.lines)) < below y p = end_of y p in
    pairs_append Behind (place_lines (frame_of y p) p.times 0 p.lines) (place_panels (below y p) ps)
    (lines_apart (frame_of y p) p.times 0 p.lines h.0.times h.0.lines) (panels_apart (below y p) ps h.1)
    (above (below y p) (place_lines (frame_of y p) p.times 0 p.lines) (place_panels (below y p) ps)
    (lines_end (frame_of y p) p.times 0 (below y p) p.lines (omega arith)) (panels_begin (below y p) (below y p) ps (omega arith)))

pub boxes_apart : BoxesApart
boxes_apart y ps h = pairs_at_index Behind (place_panels y ps) (panels_apart y ps h)
