-- A line of text is no wider than its columns.
use Rattle.std.proofs.Common.{◌≡◌, ℕ, zero, suc, ◌+◌, ◌-◌, ◌*◌, ◌/◌, ◌≤◌, max, List, [], ◌∷◌, ◌++◌, map, length, drop, arith, length-append}
use Rattle.std.specs.Prelude.{◌==◌, Bool, true, false, codes, decimal, replicate, if◌then◌else◌}
use Rattle.std.specs.List.{AllByRecursion}
use Rattle.std.proofs.lemmas.List.{length-replicate}
use Rattle.std.proofs.Math.Nat.{mul-div-le, mul-le-mul_left}
use Rattle.std.proofs.lemmas.List.{length-drop}
use Rattle.std.proofs.lemmas.List.Elements.{All-drop, All-from_recursion, recursion_from_All}
use Rattle.lucid_show_grid.specs.Grids.{PlainMark, PlainLine}
use Rattle.lucid_show_grid.specs.declared.widths.Columns.{Columns}
use Rattle.lucid_show_grid.specs.Fields.{blanks, left, right}
use Rattle.lucid_show_grid.specs.Widths.{columns_of, labels, longest, values, values_of}
use Rattle.lucid_show_grid.specs.Text.{heads_text, line_text, shown, times_text, value_at, values_text}
use Rattle.lucid_show_grid.specs.Laws.{LinesFit}
use Rattle.lucid_show_grid.proofs.Loops.{longest_of_both}

least : (n : ℕ) (ts : List (List ℕ)) → n ≤ longest n ts
least n [] = omega arith
least n (t ∷ ts) = omega (arith, least (max n (length t)) ts)

abbrev LabelFits : ℕ → PlainLine → Type 0
LabelFits m l = length l.label ≤ m

labels_fit : (n m : ℕ) (ls : List PlainLine) → longest n (labels ls) ≤ m → AllByRecursion (LabelFits m) ls
labels_fit n m [] h = tt
labels_fit n m (l ∷ ls) h =
    let k = max n (length l.label) in
    let e : k ≤ longest k (labels ls) = least k (labels ls) in
    (omega arith, labels_fit k m ls h)

abbrev ValueFits : ℕ → PlainMark → Type 0
ValueFits m v = length v.value ≤ m

marks_fit : (n m : ℕ) (ms : List PlainMark) → longest n (values_of ms) ≤ m → AllByRecursion (ValueFits m) ms
marks_fit n m [] h = tt
marks_fit n m (v ∷ ms) h =
    let k = max n (length v.value) in
    let e : k ≤ longest k (values_of ms) = least k (values_of ms) in
    (omega arith, marks_fit k m ms h)

abbrev ValuesFit : ℕ → PlainLine → Type 0
ValuesFit m l = AllByRecursion (ValueFits m) l.marks

values_fit : (n m : ℕ) (ls : List PlainLine) → longest n (values ls) ≤ m → AllByRecursion (ValuesFit m) ls
values_fit n m [] h = tt
values_fit n m (l ∷ ls) h =
    let k = longest n (values_of l.marks) in
    let h2 : longest k (values ls) ≤ m = rw (← longest_of_both n (values_of l.marks) (values ls)) h in
    let e : k ≤ longest k (values ls) = least k (values ls) in
    (marks_fit n m l.marks (omega arith), values_fit k m ls h2)

abbrev TimeFits : ℕ → ℕ → Type 0
TimeFits m t = length (decimal t) ≤ m

times_fit : (n m : ℕ) (ts : List ℕ) → longest n (map decimal ts) ≤ m → AllByRecursion (TimeFits m) ts
times_fit n m [] h = tt
times_fit n m (t ∷ ts) h =
    let k = max n (length (decimal t)) in
    let e : k ≤ longest k (map decimal ts) = least k (map decimal ts) in
    (omega arith, times_fit k m ts h)

-- a field is as wide as its columns
length_left : (n : ℕ) (text : List ℕ) → length text ≤ n → length (left n text) ≡ n
unfolding left blanks
length_left n text h = omega (arith, length-append text (replicate (n - length text) 32), length-replicate {A = ℕ} (n - length text) 32)

length_right : (n : ℕ) (text : List ℕ) → length text ≤ n → length (right n text) ≡ n
unfolding right blanks
length_right n text h = omega (arith, length-append (replicate (n - length text) 32) text, length-replicate {A = ℕ} (n - length text) 32)

value_fits : (m : ℕ) (ms : List PlainMark) (t : ℕ) → 1 ≤ m → AllByRecursion (ValueFits m) ms → length (value_at ms t) ≤ m
value_fits m [] t some h = some
value_fits m (v ∷ ms) t some h = either (v.time == t) h.0 (value_fits m ms t some h.1)
  where
    either : (b : Bool) → length v.value ≤ m → length (value_at ms t) ≤ m → length (if b then v.value else value_at ms t) ≤ m
    either true x y = x
    either false x y = y

values_length : (n : ℕ) (ms : List PlainMark) (ts : List ℕ) → ((t : ℕ) → length (value_at ms t) ≤ n) → length (values_text n ms ts) ≡ n * length ts
values_length n ms [] h = omega arith
values_length n ms (t ∷ ts) h =
    let e : length (right n (value_at ms t)) ≡ n = length_right n (value_at ms t) (h t) in
    let more : length (values_text n ms ts) ≡ n * length ts = values_length n ms ts h in
    omega (arith, length-append (right n (value_at ms t)) (values_text n ms ts))

times_length : (n : ℕ) (ts : List ℕ) → AllByRecursion (TimeFits n) ts → length (times_text n ts) ≡ n * length ts
times_length n [] h = omega arith
times_length n (t ∷ ts) h =
    let e : length (right n (decimal t)) ≡ n = length_right n (decimal t) h.0 in
    let more : length (times_text n ts) ≡ n * length ts = times_length n ts h.1 in
    omega (arith, length-append (right n (decimal t)) (times_text n ts))

-- so many times as are shown have room
room_for : (a b q : ℕ) → b * q ≤ 100 - a → a + b ≤ 100 → a + b * max q 1 ≤ 100
room_for a b zero h fits = omega arith
room_for a b (suc q) h fits =
    let e : max (suc q) 1 ≡ suc q = omega arith in
    rw e (omega arith)

shown_room : (a b : ℕ) (ts : List ℕ) → a + b ≤ 100 → length ts ≤ max ((100 - a) / b) 1 → a + b * length ts ≤ 100
shown_room a b ts fits h =
    let e : a + b * max ((100 - a) / b) 1 ≤ 100 = room_for a b ((100 - a) / b) (mul-div-le (100 - a) b) fits in
    omega (arith, mul-le-mul_left b h)

heads_fit : (a b : ℕ) (ts : List ℕ) → 4 ≤ a → a + b ≤ 100 → AllByRecursion (TimeFits b) ts → length ts ≤ max ((100 - a) / b) 1
    → length (left a (codes "time") ++ (times_text b ts ++ codes "\n")) ≤ 101
heads_fit a b ts word fits times few =
    let room : a + b * length ts ≤ 100 = shown_room a b ts fits few in
    let name : length (left a (codes "time")) ≡ a = length_left a (codes "time") word in
    omega (arith, length-append (left a (codes "time")) (times_text b ts ++ codes "\n"), length-append (times_text b ts) (codes "\n"), times_length b ts times)

line_fits : (a b : ℕ) (ts : List ℕ) (l : PlainLine) → length l.label ≤ a → a + b ≤ 100 → 1 ≤ b → ValuesFit b l
    → length ts ≤ max ((100 - a) / b) 1 → length (left a l.label ++ (values_text b l.marks ts ++ codes "\n")) ≤ 101
line_fits a b ts l label fits some marks few =
    let room : a + b * length ts ≤ 100 = shown_room a b ts fits few in
    let name : length (left a l.label) ≡ a = length_left a l.label label in
    omega (
      arith,
      length-append (left a l.label) (values_text b l.marks ts ++ codes "\n"),
      length-append (values_text b l.marks ts) (codes "\n"),
      values_length b l.marks ts (λ t. value_fits b l.marks t some marks),
    )

all_lines_fit : (c : Columns) (ts : List ℕ) (ls : List PlainLine) → c.labels + c.values ≤ 100 → 1 ≤ c.values
    → AllByRecursion (LabelFits c.labels) ls → AllByRecursion (ValuesFit c.values) ls → length ts ≤ max ((100 - c.labels) / c.values) 1
    → AllByRecursion (λ (l : PlainLine). length (line_text c ts l) ≤ 101) ls
unfolding line_text
all_lines_fit c ts [] fits some labels values few = tt
all_lines_fit c ts (l ∷ ls) fits some labels values few =
    (line_fits c.labels c.values ts l labels.0 fits some values.0 few, all_lines_fit c ts ls fits some labels.1 values.1 few)

dropped_few : (n : ℕ) (ts : List ℕ) → length (drop (length ts - n) ts) ≤ n
dropped_few n ts = omega (arith, length-drop (length ts - n) ts)

shown_few : (c : Columns) (ts : List ℕ) → length (shown c ts) ≤ max ((100 - c.labels) / c.values) 1
unfolding shown
shown_few c ts = dropped_few (max ((100 - c.labels) / c.values) 1) ts

shown_fit : (m : ℕ) (c : Columns) (ts : List ℕ) → AllByRecursion (TimeFits m) ts → AllByRecursion (TimeFits m) (shown c ts)
unfolding shown
shown_fit m c ts h =
    let left_out = length ts - max ((100 - c.labels) / c.values) 1 in
    recursion_from_All (TimeFits m) (drop left_out ts) (All-drop (TimeFits m) left_out ts (All-from_recursion (TimeFits m) ts h))

heads_within : (c : Columns) (ts : List ℕ) → 4 ≤ c.labels → c.labels + c.values ≤ 100 → AllByRecursion (TimeFits c.values) ts
    → length ts ≤ max ((100 - c.labels) / c.values) 1 → length (heads_text c ts) ≤ 101
unfolding heads_text
heads_within c ts word fits times few = heads_fit c.labels c.values ts word fits times few

pub lines_fit : LinesFit
unfolding columns_of
lines_fit p h =
    let c = columns_of p in
    let few : length (shown c p.times) ≤ max ((100 - c.labels) / c.values) 1 = shown_few c p.times in
    let names : longest 4 (labels p.lines) ≤ c.labels = omega arith in
    let word : 4 ≤ c.labels = omega (arith, least 4 (labels p.lines)) in
    let both : longest (longest 3 (map decimal p.times)) (values p.lines) ≤ c.values = omega arith in
    let times : longest 3 (map decimal p.times) ≤ c.values = omega (arith, least (longest 3 (map decimal p.times)) (values p.lines)) in (
      heads_within c (shown c p.times) word h (shown_fit c.values c p.times (times_fit 3 c.values p.times times)) few,
      all_lines_fit c (shown c p.times) p.lines h (omega arith) (labels_fit 4 c.labels p.lines names)
          (values_fit (longest 3 (map decimal p.times)) c.values p.lines both) few,
    )
