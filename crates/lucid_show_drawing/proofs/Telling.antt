-- What an outline tells, and each test, is of a judgment that is there, which has a spot.
use Rattle.lucid_show_drawing.proofs.Common.{◌≡◌, ℕ, zero, suc, ◌+◌, ◌<◌, ◌≤◌, List, [], ◌∷◌, ◌++◌, length, get_or, take, drop, Option, Some, None, refl, Bool, All, slice_get, if◌then◌else◌, true, false, sym, ap, subst, ◌∙◌, append_assoc, arith, inl, inr}
use Rattle.std.specs.Prelude.{is_some, nat_lt}
use Rattle.std.specs.Option.{option_and_then, option_map}
use Rattle.std.proofs.lemmas.Bool.{and_parts, ltb-true}
use Rattle.std.proofs.lemmas.List.{at_drop_more, map-append, take-map}
use Rattle.std.proofs.lemmas.List.Sorted.{All-permutation, IsPermutation-map}
use Rattle.std.specs.List.Sorted.{IsPermutation}
use Rattle.std.proofs.lemmas.List.Elements.{All-append, All-from_recursion, All-nil, All-cons, All-push, All-take, recursion_from_All}
use Rattle.std.specs.List.{AllByRecursion as ByRecursion}
use Rattle.std.proofs.lemmas.List.Recursion.{is_count_by}
use Rattle.std.proofs.lemmas.Option.{slice_get_within}
use Rattle.std.proofs.Common.{cond, count_by, not}
use Rattle.lucid_tree.specs.Members.{In}
use Rattle.lucid_equations.specs.declared.table.Table.{Table}
use Rattle.lucid_cert_rules.specs.Certificates.{PlainJudgment}
use Rattle.lucid_cert_rules.specs.Cells.{asked_at, cell_of}
use Rattle.lucid_cert_rules.specs.Outlines.{Line, Outlines, Tells, above, entry, no_cell, no_more, whole}
use Rattle.lucid_show_drawing.specs.declared.asked.Asked.{Asked}
use Rattle.lucid_cert_rules.specs.declared.cell.Cell.{Cell}
use Rattle.lucid_cert_rules.specs.declared.telling.Entry.{Entry}
use Rattle.lucid_show_outline.specs.Chosen.{chosen, is_told}
use Rattle.lucid_show_outline.specs.Views.{View}
use Rattle.lucid_show_drawing.specs.Orders.{AllThere, AreAsked}
use Rattle.lucid_show_drawing.specs.Shown.{IsAsked, asks_nothing, numbers, test_entries, test_entry, told_whole}
use Rattle.lucid_show_drawing.specs.Spots.{spot_at, spot_for}

-- what asks for something is there
some_below : (T : Table) (js : List PlainJudgment) (i : ℕ) (c : Cell) (o : Option PlainJudgment) → slice_get js i ≡ o
    → option_and_then (cell_of T) o ≡ Some c → i < length js
some_below T js i c None is h = absurd (cc)
some_below T js i c (Some j) is h = slice_get_within js i j is

asks_below : (T : Table) (js : List PlainJudgment) (i : ℕ) (c : Cell) → asked_at T js i ≡ Some c → i < length js
asks_below T js i c asks = some_below T js i c (slice_get js i) refl asks

-- each entry is of a judgment that is there
pub told_there : {T : Table} {js : List PlainJudgment} {lines : List Line} {told : List Cell} {es : List Entry} → Tells T js lines told es
    → All (λ (e : Entry). e.asked < length js) es
told_there {T} {js} no_more = All-nil (λ (e : Entry). e.asked < length js)
told_there (no_cell none rest) = told_there rest
told_there {T} {js} (above {l = l} {es = es} c asks before rest) =
    All-cons (λ (e : Entry). e.asked < length js) (entry l true) es (asks_below T js l.asked c asks) (told_there rest)
told_there {T} {js} (whole {l = l} {es = es} c asks new found needs rest) =
    All-cons (λ (e : Entry). e.asked < length js) (entry l false) es (asks_below T js l.asked c asks) (told_there rest)

-- so is each of a test
pub nothing_below : (v : View) (i : ℕ) → asks_nothing v i ≡ true → i < length v.judgments
unfolding asks_nothing
nothing_below v i h = ltb-true i (length v.judgments) (and_parts (nat_lt i (length v.judgments)) (not (is_some (asked_at v.table v.judgments i))) h).0

test_there : (v : View) (b : Bool) (i : ℕ) (rest : List Entry) → asks_nothing v i ≡ b → All (λ (e : Entry). e.asked < length v.judgments) rest
    → All (λ (e : Entry). e.asked < length v.judgments) (if b then test_entry i ∷ rest else rest)
test_there v true i rest is later = All-cons (λ (e : Entry). e.asked < length v.judgments) (test_entry i) rest (nothing_below v i is) later
test_there v false i rest is later = later

pub tests_there : (v : View) (is : List ℕ) → All (λ (e : Entry). e.asked < length v.judgments) (test_entries v is)
tests_there v [] = All-nil (λ (e : Entry). e.asked < length v.judgments)
tests_there v (i ∷ is) = test_there v (asks_nothing v i) i (test_entries v is) refl (tests_there v is)

-- a judgment that is there has a spot
not_there : (js : List PlainJudgment) (i : ℕ) → i < length js → slice_get js i ≡ None → ⊥
not_there [] i h none = absurd (omega arith)
not_there (j ∷ js) zero h none = absurd (cc)
not_there (j ∷ js) (suc i) h none = not_there js i (omega arith) none

none_of : (v : View) (o : Option PlainJudgment) → option_map (spot_for v) o ≡ None → o ≡ None
none_of v None h = refl
none_of v (Some j) h = absurd (cc)

pub no_spot : (v : View) (i : ℕ) → i < length v.judgments → spot_at v i ≡ None → ⊥
unfolding spot_at
no_spot v i there none = not_there v.judgments i there (none_of v (slice_get v.judgments i) none)

pub entries_more : (v : View) (is : List ℕ) (k : ℕ) (d : ℕ) → k < length is
    → test_entries v (drop k is)
    ≡ (if asks_nothing v (get_or is k d) then test_entry (get_or is k d) ∷ test_entries v (drop (k + 1) is) else test_entries v (drop (k + 1) is))
entries_more v is k d h = at_drop_more (λ xs. test_entries v xs) is k d h

pub told_more : (es : List Entry) (i : ℕ) (d : Entry) → i < length es
    → told_whole (drop i es) ≡ (if (get_or es i d).above then told_whole (drop (i + 1) es) else (get_or es i d).asked ∷ told_whole (drop (i + 1) es))
told_more es i d h = at_drop_more (λ xs. told_whole xs) es i d h

-- one entry more: told whole, or above
pub told_one : (es : List Entry) (i : ℕ) (d : Entry) → i < length es → (get_or es i d).above ≡ false → (old new : List Asked) (a : Asked)
    → a.number ≡ (get_or es i d).asked → new ≡ old ++ a ∷ [] → numbers old ++ told_whole (drop i es) ≡ told_whole es
    → numbers new ++ told_whole (drop (i + 1) es) ≡ told_whole es
told_one es i d h not_above old new a number added so_far =
    ap (λ (z : List Asked). numbers z ++ told_whole (drop (i + 1) es)) added
    ∙ ap (λ (z : List ℕ). z ++ told_whole (drop (i + 1) es)) (map-append (λ (x : Asked). x.number) old (a ∷ []))
    ∙ append_assoc (numbers old) (a.number ∷ []) (told_whole (drop (i + 1) es)) ∙ ap (λ (n : ℕ). numbers old ++ n ∷ told_whole (drop (i + 1) es)) number
    ∙ ap (λ (z : List ℕ). numbers old ++ z)
    (sym (told_more es i d h ∙ ap (λ b. if b then told_whole (drop (i + 1) es) else (get_or es i d).asked ∷ told_whole (drop (i + 1) es)) not_above)) ∙ so_far

pub told_none : (es : List Entry) (i : ℕ) (d : Entry) → i < length es → (get_or es i d).above ≡ true → (old new : List Asked) → new ≡ old
    → numbers old ++ told_whole (drop i es) ≡ told_whole es → numbers new ++ told_whole (drop (i + 1) es) ≡ told_whole es
told_none es i d h before old new same so_far =
    ap (λ (z : List Asked). numbers z ++ told_whole (drop (i + 1) es)) same
    ∙ ap (λ (z : List ℕ). numbers old ++ z)
    (sym (told_more es i d h ∙ ap (λ b. if b then told_whole (drop (i + 1) es) else (get_or es i d).asked ∷ told_whole (drop (i + 1) es)) before)) ∙ so_far

pub asked_one : (v : View) (old new : List Asked) (a : Asked) → new ≡ old ++ a ∷ [] → IsAsked v a → All (IsAsked v) old → All (IsAsked v) new
asked_one v old new a added is so_far = subst (λ (z : List Asked). All (IsAsked v) z) (sym added) (All-push (IsAsked v) old a so_far is)

pub asked_none : (v : View) (old new : List Asked) → new ≡ old → All (IsAsked v) old → All (IsAsked v) new
asked_none v old new same so_far = subst (λ (z : List Asked). All (IsAsked v) z) (sym same) so_far

-- what a test of `!` says
pub not_true : (b : Bool) → b ≡ false → b ≡ false
not_true b h = h

pub not_false : (b : Bool) → b ≡ true → b ≡ true
not_false b h = h

-- what holds of each entry holds of each that is chosen
chosen_by : (v : View) (P : Entry → Type 0) (b : Bool) (e : Entry) (rest : List Entry) → P e → ByRecursion P rest
    → ByRecursion P (if b then e ∷ rest else rest)
chosen_by v P true e rest h later = (h, later)
chosen_by v P false e rest h later = later

each_chosen : (v : View) (P : Entry → Type 0) (es : List Entry) → ByRecursion P es → ByRecursion P (chosen v es)
each_chosen v P [] all = all
each_chosen v P (e ∷ es) all = chosen_by v P (is_told v e.asked) e (chosen v es) all.0 (each_chosen v P es all.1)

All-chosen : (v : View) (P : Entry → Type 0) (es : List Entry) → All P es → All P (chosen v es)
All-chosen v P es all = All-from_recursion P (chosen v es) (each_chosen v P es (recursion_from_All P es all))

-- how many are told whole
count_step : (b : Bool) (n : ℕ) (rest : List ℕ) → length (if b then rest else n ∷ rest) ≡ cond (not b) (1 + length rest) (length rest)
count_step true n rest = refl
count_step false n rest = omega arith

pub whole_counted : (es : List Entry) → length (told_whole es) ≡ count_by (λ (e : Entry). not e.above) es
whole_counted es = is_count_by (λ xs. length (told_whole xs)) (λ (e : Entry). not e.above) refl (λ x xs. count_step x.above x.asked (told_whole xs)) es

-- an outline by equal tables and judgments, of an equal number
pub outline_at : (T U : Table) (js ks : List PlainJudgment) (i k : ℕ) (es ds : List Entry) → T ≡ U → js ≡ ks → i ≡ k → ds ≡ es → Outlines T js i es
    → Outlines U ks k ds
outline_at T U js ks i k es ds t j n d out =
    subst (λ (z : List Entry). Outlines U ks k z) (sym d)
    (subst (λ (z : ℕ). Outlines U ks z es) n
    (subst (λ (z : List PlainJudgment). Outlines U z i es) j (subst (λ (z : Table). Outlines z js i es) t out)))

-- what is told of an outline and of tests
pub all_there : (v : View) (i : ℕ) (es told : List Entry) (tests : List ℕ) → told ≡ chosen v (es ++ test_entries v tests)
    → Outlines v.table v.judgments i es → AllThere v told
all_there v i es told tests is out =
    subst (λ (z : List Entry). AllThere v z) (sym is)
    (All-chosen v (λ (e : Entry). e.asked < length v.judgments) (es ++ test_entries v tests)
    (All-append (λ (e : Entry). e.asked < length v.judgments) es (test_entries v tests) (told_there out.2) (tests_there v tests)))

-- what is shown of all
pub shown_once : (v : View) (es : List Entry) (all shown : List Asked) (most : ℕ) → AreAsked v (told_whole es) all → IsPermutation (take most all) shown
    → IsPermutation (take most (told_whole es)) (numbers shown)
shown_once v es all shown most are same =
    subst (λ (z : List ℕ). IsPermutation z (numbers shown)) (sym (take-map (λ (a : Asked). a.number) most all) ∙ ap (λ (z : List ℕ). take most z) are.same)
    (IsPermutation-map (λ (a : Asked). a.number) (take most all) shown same)

pub shown_asked : (v : View) (es : List Entry) (all shown : List Asked) (most : ℕ) → AreAsked v (told_whole es) all → IsPermutation (take most all) shown
    → All (IsAsked v) shown
shown_asked v es all shown most are same = All-permutation (IsAsked v) (take most all) shown same (All-take (IsAsked v) most all are.each)

-- of what is chosen no more is told whole than of all
told_if : (b : Bool) (e : Entry) (es : List Entry)
    → told_whole (if b then e ∷ es else es) ≡ (if b then (if e.above then told_whole es else e.asked ∷ told_whole es) else told_whole es)
told_if true e es = refl
told_if false e es = refl

no_more_step : (above told : Bool) (x : ℕ) (some all : List ℕ) → length some ≤ length all
    → length (if told then (if above then some else x ∷ some) else some) ≤ length (if above then all else x ∷ all)
no_more_step true true x some all h = h
no_more_step true false x some all h = h
no_more_step false true x some all h = omega arith
no_more_step false false x some all h = omega arith

pub no_more_chosen : (v : View) (es : List Entry) → length (told_whole (chosen v es)) ≤ length (told_whole es)
no_more_chosen v [] = omega arith
no_more_chosen v (e ∷ es) =
    subst (λ (z : List ℕ). length z ≤ length (told_whole (e ∷ es))) (sym (told_if (is_told v e.asked) e (chosen v es)))
    (no_more_step e.above (is_told v e.asked) e.asked (told_whole (chosen v es)) (told_whole es) (no_more_chosen v es))

-- and all, where it is as many
all_step : (above told : Bool) (x : ℕ) (some all : List ℕ) → length some ≤ length all → (length all ≤ length some → some ≡ all)
    → length (if above then all else x ∷ all) ≤ length (if told then (if above then some else x ∷ some) else some)
    → (if told then (if above then some else x ∷ some) else some) ≡ (if above then all else x ∷ all)
all_step true true x some all h same k = same k
all_step true false x some all h same k = same k
all_step false true x some all h same k = let less : length all ≤ length some = omega arith in ap (λ (z : List ℕ). x ∷ z) (same less)
all_step false false x some all h same k = absurd (omega arith)

pub all_chosen : (v : View) (es : List Entry) → length (told_whole es) ≤ length (told_whole (chosen v es)) → told_whole (chosen v es) ≡ told_whole es
all_chosen v [] h = refl
all_chosen v (e ∷ es) h =
    told_if (is_told v e.asked) e (chosen v es)
    ∙ all_step e.above (is_told v e.asked) e.asked (told_whole (chosen v es)) (told_whole es) (no_more_chosen v es) (all_chosen v es)
    (subst (λ (z : List ℕ). length (told_whole (e ∷ es)) ≤ length z) (told_if (is_told v e.asked) e (chosen v es)) h)

-- each that is chosen is told
chosen_in_step : (above told : Bool) (x n : ℕ) (some all : List ℕ) → (In n some → In n all)
    → In n (if told then (if above then some else x ∷ some) else some) → In n (if above then all else x ∷ all)
chosen_in_step true true x n some all later h = later h
chosen_in_step true false x n some all later h = later h
chosen_in_step false true x n some all later (inl e) = inl e
chosen_in_step false true x n some all later (inr h) = inr (later h)
chosen_in_step false false x n some all later h = inr (later h)

pub chosen_in : (v : View) (es : List Entry) (n : ℕ) → In n (told_whole (chosen v es)) → In n (told_whole es)
chosen_in v [] n h = absurd h
chosen_in v (e ∷ es) n h =
    chosen_in_step e.above (is_told v e.asked) e.asked n (told_whole (chosen v es)) (told_whole es) (chosen_in v es n)
    (subst (λ (z : List ℕ). In n z) (told_if (is_told v e.asked) e (chosen v es)) h)
