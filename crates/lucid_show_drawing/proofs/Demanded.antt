-- What an outline tells whole is what is demanded.
use Rattle.lucid_show_drawing.proofs.Common.{◌≡◌, ◌⊎◌, ℕ, zero, suc, ◌+◌, ◌<◌, ◌≤◌, Bool, true, false, List, [], ◌∷◌, ◌++◌, length, take, drop, Option, Some, None, if◌then◌else◌, slice_get, inl, inr, refl, sym, ap, subst, ◌∙◌, arith, take_all, take-append-drop}
use Rattle.std.specs.List.Sorted.{IsPermutation}
use Rattle.std.specs.Prelude.{◌&&◌, is_some, nat_lt}
use Rattle.std.proofs.Common.{not}
use Rattle.std.proofs.lemmas.Bool.{and_parts, lt-ltb, or_cases}
use Rattle.std.proofs.lemmas.List.Sorted.{Contains-permutation, IsPermutation-sym, length_permutation}
use Rattle.std.proofs.lemmas.List.{length-map}
use Rattle.lucid_show_drawing.proofs.Common.{length-take}
use Rattle.lucid_show_drawing.proofs.Telling.{all_chosen, chosen_in, no_more_chosen, nothing_below}
use Rattle.std.proofs.lemmas.Option.{none-some, same_Some, slice_get_within}
use Rattle.lucid_tree.specs.Members.{In}
use Rattle.lucid_tree.proofs.Members.{contained, in_all, in_either, in_left, in_map, in_right, stands_at}
use Rattle.lucid_equations.specs.declared.table.Table.{Table}
use Rattle.lucid_cert_rules.proofs.Reaching.{same_is_one}
use Rattle.lucid_cert_rules.specs.Certificates.{PlainJudgment}
use Rattle.lucid_cert_rules.specs.Cells.{asked_at, is_among, same_cell}
use Rattle.lucid_cert_rules.specs.NeedLaws.{IsAskedBy, NeedsAreReached}
use Rattle.lucid_cert_rules.specs.Outlines.{CellNeeds, Line, Outlines, Tells, above, entry, lines_at, no_cell, no_more, of_element, of_name, whole}
use Rattle.lucid_cert_rules.specs.declared.cell.Cell.{Cell}
use Rattle.lucid_cert_rules.specs.declared.cell.Cell.TheVariants.{Named}
use Rattle.lucid_cert_rules.specs.declared.telling.Entry.{Entry}
use Rattle.lucid_show_grid.specs.Grids.{PlainGrid}
use Rattle.lucid_show_outline.specs.Chosen.{chosen}
use Rattle.lucid_show_outline.specs.Searches.{tests}
use Rattle.lucid_show_outline.specs.Views.{View}
use Rattle.lucid_show_drawing.specs.declared.asked.Asked.{Asked}
use Rattle.lucid_show_drawing.specs.Arrows.{cells_of}
use Rattle.lucid_show_drawing.specs.Drawings.{IsGridOf, all_entries}
use Rattle.lucid_show_drawing.specs.Laws.{IsDemanded, IsTest, Uses, WhatIsDemandedIsShown, by_cell, by_output}
use Rattle.lucid_show_drawing.specs.Looked.{AreTests, all_tests, box_at}
use Rattle.lucid_show_drawing.specs.Shown.{IsAsked, asks_nothing, numbers, test_entries, test_entry, told_whole}
use Rattle.lucid_show_drawing.proofs.LookedAt.{box_none, box_some, flat_in, in_flat}
use Rattle.lucid_show_drawing.proofs.Places.{is_among-push}

-- lines that wait, by the judgments that ask
asked_in : (d : ℕ) (found : List ℕ) (l : Line) → In l (lines_at d found) → In l.asked found
asked_in d [] l h = absurd h
asked_in d (i ∷ is) l (inl e) = inl (ap (λ (k : Line). k.asked) e)
asked_in d (i ∷ is) l (inr h) = inr (asked_in d is l h)

line_in : (d : ℕ) (found : List ℕ) (m : ℕ) → In m found → (l : Line) × In l (lines_at d found) × (l.asked ≡ m)
line_in d [] m h = absurd h
line_in d (i ∷ is) m (inl e) = (record { asked = i; depth = d }, inl refl, sym e)
line_in d (i ∷ is) m (inr h) = let there = line_in d is m h in (there.0, inr there.1, there.2)

module _ (T : Table) (js : List PlainJudgment) (law : NeedsAreReached) where
  pub found_used : {b : Cell} {found : List ℕ} → CellNeeds T js b found → (m : ℕ) (c : Cell) → In m found → asked_at T js m ≡ Some c → Uses T js b c
  found_used (of_name {i = i} {found = found} needs) m c there asks = (m, (law T js i found needs).0 m there, asks)
  found_used of_element m c there asks = absurd there

  pub used_found : {b : Cell} {found : List ℕ} → CellNeeds T js b found → (c : Cell) → Uses T js b c → IsAskedBy T js found c
  used_found (of_name {i = i} {found = found} needs) c u = (law T js i found needs).1 u.0 c u.1 u.2
  used_found of_element c u = absurd u

  -- what holds of the cells of all lines that wait, and of what such cells were computed from, holds of all that is told whole
  sound : (P : Cell → Type 0) → ((b c : Cell) → P b → Uses T js b c → P c) → {w : List Line} {told : List Cell} {es : List Entry} → Tells T js w told es
      → ((l : Line) (c : Cell) → In l w → asked_at T js l.asked ≡ Some c → P c) → (n : ℕ) (c : Cell) → In n (told_whole es) → asked_at T js n ≡ Some c → P c
  sound P closed no_more waits n c there asks = absurd there
  sound P closed (no_cell none rest) waits n c there asks = sound P closed rest (λ l d h. waits l d (inr h)) n c there asks
  sound P closed (above b is before rest) waits n c there asks = sound P closed rest (λ l d h. waits l d (inr h)) n c there asks
  sound P closed (whole {l = l} {more = more} b is new found needs rest) waits n c there asks =
      elim there [
        | inl first ↦ waits l c (inl refl) (ap (λ (m : ℕ). asked_at T js m) (sym first) ∙ asks)
        | inr later ↦ sound P closed rest
            (λ k d h e.
            elim (in_either k (lines_at (l.depth + 1) found) more h) [
              | inl below ↦ closed b d (waits l b (inl refl) is) (found_used needs k.asked d (asked_in (l.depth + 1) found k below) e)
              | inr beside ↦ waits k d (inr beside) e
            ])
            n c later asks
      ]

  -- a cell was told, or is told whole
  abbrev Told : List Cell → List Entry → Cell → Type 0
  Told told es c = (is_among told c ≡ true) ⊎ ((n : ℕ) × In n (told_whole es) × (asked_at T js n ≡ Some c))

  one_line : (k l : Line) (c : Cell) → k ≡ l → asked_at T js k.asked ≡ Some c → asked_at T js l.asked ≡ Some c
  one_line k l c same e = ap (λ (x : Line). asked_at T js x.asked) (sym same) ∙ e

  lift : (l : Line) (b : Cell) (told : List Cell) (es : List Entry) → asked_at T js l.asked ≡ Some b → (c : Cell) → Told (told ++ b ∷ []) es c
      → Told told (entry l false ∷ es) c
  lift l b told es is c (inl among) =
      elim (or_cases (is_among told c) (same_cell c b) (sym (is_among-push told c b) ∙ among)) [
        | inl before ↦ inl before
        | inr same ↦ inr (l.asked, inl refl, is ∙ ap (λ (d : Cell). Some d) (sym (same_is_one c b same)))
      ]
  lift l b told es is c (inr t) = inr (t.0, inr t.1, t.2)

  -- all that waits is told, and all from which what is told whole was computed
  complete : {w : List Line} {told : List Cell} {es : List Entry} → Tells T js w told es
      → ((l : Line) (c : Cell) → In l w → asked_at T js l.asked ≡ Some c → Told told es c)
      × ((n : ℕ) (b c : Cell) → In n (told_whole es) → asked_at T js n ≡ Some b → Uses T js b c → Told told es c)
  complete no_more = (λ l c h e. absurd h, λ n b c h e u. absurd h)
  complete (no_cell {l = l} none rest) =
      let later = complete rest in (
        λ k c h e. elim h [ inl same ↦ absurd (none-some c (sym none ∙ one_line k l c same e)) | inr there ↦ later.0 k c there e ],
        later.1,
      )
  complete (above {l = l} {told = told} b is before rest) =
      let later = complete rest in (
        λ k c h e.
            elim h [
              | inl same ↦ inl (ap (λ (d : Cell). is_among told d) (same_Some c b (sym (one_line k l c same e) ∙ is)) ∙ before)
              | inr there ↦ later.0 k c there e
            ],
        later.1,
      )
  complete (whole {l = l} {more = more} {told = told} {es = es} b is new found needs rest) =
      let later = complete rest in (
        λ k c h e.
            elim h [
              | inl same ↦ inr (l.asked, inl refl, one_line k l c same e)
              | inr there ↦ lift l b told es is c (later.0 k c (in_right k (lines_at (l.depth + 1) found) more there) e)
            ],
        λ n a c h e u.
            elim h [
              | inl first ↦
                  let same : a ≡ b = same_Some a b (sym e ∙ ap (λ (m : ℕ). asked_at T js m) first ∙ is) in
                  let asks = used_found needs c (subst (λ (d : Cell). Uses T js d c) same u) in
                  let there = line_in (l.depth + 1) found asks.0 asks.1 in
                  lift l b told es is c
                  (later.0 there.0 c (in_left there.0 (lines_at (l.depth + 1) found) more there.1) (ap (λ (m : ℕ). asked_at T js m) there.2 ∙ asks.2))
              | inr there ↦ lift l b told es is c (later.1 n a c there e u)
            ],
      )

  is_told : (es : List Entry) (c : Cell) → Told [] es c → (n : ℕ) × In n (told_whole es) × (asked_at T js n ≡ Some c)
  is_told es c (inl among) = absurd (cc)
  is_told es c (inr t) = t

  -- what an outline tells whole is demanded
  pub told_demanded : (number : ℕ) (es : List Entry) → Outlines T js number es → (n : ℕ) (c : Cell) → In n (told_whole es) → asked_at T js n ≡ Some c
      → IsDemanded T js number c
  told_demanded number es out =
      sound (λ (c : Cell). IsDemanded T js number c) (λ b c h u. by_cell h u) out.2
      (λ l c h e. by_output (l.asked, (law T js number out.0 out.1).0 l.asked (asked_in 1 out.0 l h), e))

  -- and what is demanded is told whole
  pub demanded_told : (number : ℕ) (es : List Entry) → Outlines T js number es → {c : Cell} → IsDemanded T js number c
      → (n : ℕ) × In n (told_whole es) × (asked_at T js n ≡ Some c)
  demanded_told number es out (by_output {c = c} u) =
      let asks = (law T js number out.0 out.1).1 u.0 c u.1 u.2 in
      let there = line_in 1 out.0 asks.0 asks.1 in
      is_told es c ((complete out.2).0 there.0 c there.1 (ap (λ (m : ℕ). asked_at T js m) there.2 ∙ asks.2))
  demanded_told number es out (by_cell {b = b} {c = c} h u) =
      let before = demanded_told number es out h in is_told es c ((complete out.2).1 before.0 b c before.1 before.2 u)

-- what stands in a list stands in each order of it
in_order : {A : Type 0} (xs ys : List A) (x : A) → IsPermutation xs ys → In x xs → In x ys
in_order xs ys x same h = let at = Contains-permutation xs ys x same (contained x xs h) in stands_at x ys at.0 at.1 at.2

in_front : (n : ℕ) (xs : List ℕ) (x : ℕ) → In x (take n xs) → In x xs
in_front n xs x h = subst (λ (z : List ℕ). In x z) (take-append-drop n xs) (in_left x (take n xs) (drop n xs) h)

-- values by their cells, and by their numbers
of_cell : (xs : List Asked) (c : Cell) → In c (cells_of xs) → (a : Asked) × In a xs × (c ≡ a.cell)
of_cell [] c h = absurd h
of_cell (x ∷ xs) c (inl e) = (x, inl refl, e)
of_cell (x ∷ xs) c (inr h) = let there = of_cell xs c h in (there.0, inr there.1, there.2)

of_number : (xs : List Asked) (n : ℕ) → In n (numbers xs) → (a : Asked) × In a xs × (n ≡ a.number)
of_number [] n h = absurd h
of_number (x ∷ xs) n (inl e) = (x, inl refl, e)
of_number (x ∷ xs) n (inr h) = let there = of_number xs n h in (there.0, inr there.1, there.2)

-- the numbers of what is told whole, of both lists
told_step : (b : Bool) (n : ℕ) (xs ys zs : List ℕ) → zs ≡ xs ++ ys → (if b then zs else n ∷ zs) ≡ (if b then xs else n ∷ xs) ++ ys
told_step true n xs ys zs same = same
told_step false n xs ys zs same = ap (λ (z : List ℕ). n ∷ z) same

told_both : (es ds : List Entry) → told_whole (es ++ ds) ≡ told_whole es ++ told_whole ds
told_both [] ds = refl
told_both (e ∷ es) ds = told_step e.above e.asked (told_whole es) (told_whole ds) (told_whole (es ++ ds)) (told_both es ds)

-- what an outline tells whole asks for something
told_asks : {T : Table} {js : List PlainJudgment} {w : List Line} {told : List Cell} {es : List Entry} → Tells T js w told es → (n : ℕ) → In n (told_whole es)
    → (c : Cell) × (asked_at T js n ≡ Some c)
told_asks no_more n h = absurd h
told_asks (no_cell none rest) n h = told_asks rest n h
told_asks (above b is before rest) n h = told_asks rest n h
told_asks {T} {js} (whole {l = l} b is new found needs rest) n h =
    elim h [ inl first ↦ (b, ap (λ (m : ℕ). asked_at T js m) first ∙ is) | inr later ↦ told_asks rest n later ]

-- the tests that have entries
test_step : (v : View) (b : Bool) (i : ℕ) (rest : List Entry) (n : ℕ) → asks_nothing v i ≡ b → In n (told_whole (if b then test_entry i ∷ rest else rest))
    → ((n ≡ i) × (asks_nothing v i ≡ true)) ⊎ In n (told_whole rest)
test_step v true i rest n is (inl same) = inl (same, is)
test_step v true i rest n is (inr later) = inr later
test_step v false i rest n is h = inr h

test_told : (v : View) (ts : List ℕ) (n : ℕ) → In n (told_whole (test_entries v ts)) → In n ts × (asks_nothing v n ≡ true)
test_told v [] n h = absurd h
test_told v (t ∷ ts) n h =
    elim (test_step v (asks_nothing v t) t (test_entries v ts) n refl h) [
      | inl here ↦ (inl here.0, ap (λ (m : ℕ). asks_nothing v m) here.0 ∙ here.1)
      | inr later ↦ let there = test_told v ts n later in (inr there.0, there.1)
    ]

first_test : (b : Bool) (i : ℕ) (rest : List Entry) → b ≡ true → In i (told_whole (if b then test_entry i ∷ rest else rest))
first_test true i rest is = inl refl
first_test false i rest is = absurd (cc)

later_test : (b : Bool) (i : ℕ) (rest : List Entry) (n : ℕ) → In n (told_whole rest) → In n (told_whole (if b then test_entry i ∷ rest else rest))
later_test true i rest n h = inr h
later_test false i rest n h = h

told_test : (v : View) (ts : List ℕ) (n : ℕ) → In n ts → asks_nothing v n ≡ true → In n (told_whole (test_entries v ts))
told_test v [] n h is = absurd h
told_test v (t ∷ ts) n (inl same) is =
    subst (λ (m : ℕ). In m (told_whole (test_entries v (t ∷ ts)))) (sym same)
    (first_test (asks_nothing v t) t (test_entries v ts) (ap (λ (m : ℕ). asks_nothing v m) (sym same) ∙ is))
told_test v (t ∷ ts) n (inr h) is = later_test (asks_nothing v t) t (test_entries v ts) n (told_test v ts n h is)

-- what asks for nothing
none_by : (o : Option Cell) → not (is_some o) ≡ true → o ≡ None
none_by None h = refl
none_by (Some c) h = absurd (cc)

asks_none : (v : View) (n : ℕ) → asks_nothing v n ≡ true → asked_at v.table v.judgments n ≡ None
unfolding asks_nothing
asks_none v n h =
    none_by (asked_at v.table v.judgments n) (and_parts (nat_lt n (length v.judgments)) (not (is_some (asked_at v.table v.judgments n))) h).1

nothing_asked : (v : View) (n : ℕ) → n < length v.judgments → asked_at v.table v.judgments n ≡ None → asks_nothing v n ≡ true
unfolding asks_nothing
nothing_asked v n there asks =
    ap (λ b. b && not (is_some (asked_at v.table v.judgments n))) (lt-ltb n (length v.judgments) there) ∙ ap (λ (o : Option Cell). not (is_some o)) asks

judgment_at : (js : List PlainJudgment) (i : ℕ) → i < length js → (j : PlainJudgment) × (slice_get js i ≡ Some j)
judgment_at [] i h = absurd (omega arith)
judgment_at (j ∷ js) zero h = (j, refl)
judgment_at (j ∷ js) (suc i) h = judgment_at js i (omega arith)

module _ (v : View) (ts : List ℕ) (are : AreTests v ts) where
  is_test : (n : ℕ) → In n (told_whole (test_entries v ts)) → IsTest v n
  is_test n h =
      let told = test_told v ts n h in
      let at = are.no_other n (contained n ts told.0) in
      let of = flat_in (tests v) v.judgments n (stands_at n (all_tests v) at.0 at.1 at.2) in
      let there = judgment_at v.judgments n (nothing_below v n told.1) in
      record { judgment = there.0; there = there.1; asks = asks_none v n told.1; search = of.0; of = of.1; tested = of.2 }

  test_is : (n : ℕ) → IsTest v n → In n (told_whole (test_entries v ts))
  test_is n is =
      let at = are.all n (contained n (all_tests v) (in_flat (tests v) v.judgments is.search n is.of is.tested)) in
      told_test v ts n (stands_at n ts at.0 at.1 at.2) (nothing_asked v n (slice_get_within v.judgments n is.judgment is.there) is.asks)

-- what is shown is told whole
shown_told : (v : View) (most number : ℕ) (g : PlainGrid) (is : IsGridOf v most number g) (n : ℕ) → In n (numbers is.shown) → In n (told_whole (all_entries v is.entries is.tests))
shown_told v most number g is n h =
    chosen_in v (all_entries v is.entries is.tests) n (in_front most (told_whole (chosen v (all_entries v is.entries is.tests))) n
    (in_order (numbers is.shown) (take most (told_whole (chosen v (all_entries v is.entries is.tests)))) n
    (IsPermutation-sym (take most (told_whole (chosen v (all_entries v is.entries is.tests)))) (numbers is.shown) is.each_once) h))

-- and where nothing is left out, what is told whole is shown
told_shown : (v : View) (most number : ℕ) (g : PlainGrid) (is : IsGridOf v most number g) → g.left_out ≡ 0 → (n : ℕ) → In n (told_whole (all_entries v is.entries is.tests))
    → In n (numbers is.shown)
told_shown v most number g is none n h =
    let some : List ℕ = told_whole (chosen v (all_entries v is.entries is.tests)) in
    let as_long : length (numbers is.shown) ≡ length (take most (told_whole (chosen v (all_entries v is.entries is.tests)))) =
    length_permutation (take most (told_whole (chosen v (all_entries v is.entries is.tests)))) (numbers is.shown) is.each_once in
    let shown_long : length (numbers is.shown) ≡ length is.shown = length-map is.shown (λ (a : Asked). a.number) in
    let front_long = length-take most (told_whole (chosen v (all_entries v is.entries is.tests))) in
    let fewer : length (told_whole (chosen v (all_entries v is.entries is.tests))) ≤ length (told_whole (all_entries v is.entries is.tests)) = no_more_chosen v (all_entries v is.entries is.tests) in
    let all_there : length (told_whole (all_entries v is.entries is.tests)) ≤ length is.shown = omega (arith, is.left_out, none) in
    let as_many : length (told_whole (all_entries v is.entries is.tests)) ≤ length (told_whole (chosen v (all_entries v is.entries is.tests))) = omega arith in
    let few : length (told_whole (chosen v (all_entries v is.entries is.tests))) ≤ most = omega arith in
    in_order (take most (told_whole (chosen v (all_entries v is.entries is.tests)))) (numbers is.shown) n is.each_once
    (subst (λ (z : List ℕ). In n z) (sym (take_all most (told_whole (chosen v (all_entries v is.entries is.tests))) few ∙ all_chosen v (all_entries v is.entries is.tests) as_many)) h)

-- a box that is shown, by its judgment
shown_box : (v : View) (most number : ℕ) (g : PlainGrid) (is : IsGridOf v most number g) → g.left_out ≡ 0 → (n : ℕ) (c : Cell)
    → In n (told_whole (all_entries v is.entries is.tests)) → box_at v n ≡ c → In c (cells_of is.shown)
shown_box v most number g is none n c told box =
    let a = of_number is.shown n (told_shown v most number g is none n told) in
    let asked : IsAsked v a.0 = in_all (IsAsked v) is.shown a.0 is.asked a.1 in
    let same : a.0.cell ≡ c = sym asked.asks ∙ ap (λ (m : ℕ). box_at v m) (sym a.2) ∙ box in
    subst (λ (d : Cell). In d (cells_of is.shown)) same (in_map (λ (x : Asked). x.cell) a.0 is.shown a.1)

pub demanded_shown : NeedsAreReached → WhatIsDemandedIsShown
demanded_shown law v most number g is = (
  λ c h.
      let a = of_cell is.shown c h in
      let asked : IsAsked v a.0 = in_all (IsAsked v) is.shown a.0 is.asked a.1 in
      let told = subst (λ (z : List ℕ). In a.0.number z) (told_both is.entries (test_entries v is.tests))
      (shown_told v most number g is a.0.number (in_map (λ (x : Asked). x.number) a.0 is.shown a.1)) in
      elim (in_either a.0.number (told_whole is.entries) (told_whole (test_entries v is.tests)) told) [
        | inl outlined ↦
            let asks = told_asks is.outlined.2 a.0.number outlined in
            let same : asks.0 ≡ c = sym (box_some v a.0.number asks.0 asks.1) ∙ asked.asks ∙ sym a.2 in
            inl (told_demanded v.table v.judgments law number is.entries is.outlined a.0.number c outlined (asks.1 ∙ ap (λ (d : Cell). Some d) same))
        | inr test ↦
            let it = is_test v is.tests is.are_tests a.0.number test in
            inr (a.0.number, it, a.2 ∙ sym asked.asks ∙ box_none v a.0.number it.asks)
      ],
  λ none c h.
      let told = demanded_told v.table v.judgments law number is.entries is.outlined h in
      shown_box v most number g is none told.0 c
      (subst (λ (z : List ℕ). In told.0 z) (sym (told_both is.entries (test_entries v is.tests)))
      (in_left told.0 (told_whole is.entries) (told_whole (test_entries v is.tests)) told.1)) (box_some v told.0 c told.2),
  λ none i it.
      shown_box v most number g is none i (Named i)
      (subst (λ (z : List ℕ). In i z) (sym (told_both is.entries (test_entries v is.tests)))
      (in_right i (told_whole is.entries) (told_whole (test_entries v is.tests)) (test_is v is.tests is.are_tests i it))) (box_none v i it.asks),
)
