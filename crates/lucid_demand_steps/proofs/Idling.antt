-- Which parts of a row that waits for none are idle.
use Rattle.lucid_demand_steps.proofs.Common.{◌≡◌, ℕ, zero, suc, ◌<◌, List, [], ◌∷◌, Some, None, refl, sym, ap, ◌∙◌, subst, arith, list_all, PlainValue, Head, const, Elements, Look, row, PlainNodes, Table, PlainTask, PlainRow, PartState, idle, asked, got, is_free, waits_for_none, all_idle, state_at, value_in, value_of_part, node_of, look_of_row, IsPart, part_by_look, part_by_reference, Holding, is_search, Demand, table_of, RowFacts, and_parts}
use Rattle.lucid_tree.specs.Tree.{choose}
use Rattle.std.proofs.Common.{length}
use Rattle.std.specs.Prelude.{true}

-- a part that no task was asked for and that has no value is idle
free_is_idle : (s : PartState) → is_free s ≡ true → ((v : PlainValue) → value_in s ≡ Some v → ⊥) → s ≡ idle
free_is_idle idle f n = refl
free_is_idle (asked slot) f n = absurd (cc)
free_is_idle (got v) f n = absurd (n v refl)

parts_are_free : (ps : List PartState) (i : ℕ) → list_all is_free ps ≡ true → is_free (state_at ps i) ≡ true
parts_are_free [] i e = refl
parts_are_free (p ∷ ps) zero e = (and_parts (is_free p) (list_all is_free ps) e).0
parts_are_free (p ∷ ps) (suc i) e = parts_are_free ps i (and_parts (is_free p) (list_all is_free ps) e).1

-- A part without a value, of a row that waits for none, is idle.
pub part-is_idle : (r : PlainRow) (i : ℕ) → waits_for_none r ≡ true → ((v : PlainValue) → value_of_part r i ≡ Some v → ⊥) → state_at r.parts i ≡ idle
part-is_idle r i e n = free_is_idle (state_at r.parts i) (parts_are_free r.parts i e) n

-- a node is of one form
pub one-form : (f g : Head) (es gs : PlainNodes) → row f es ≡ row g gs → f ≡ g
one-form f g es gs e = cc

-- a search has no look but at its parts 0 and 1
no_third : (f : Head) (r : PlainRow) (l : Look) → is_search f ≡ true → look_of_row f r 2 ≡ Some l → ⊥
no_third (const v) r l s e = absurd (cc)
no_third choose r l s e = absurd (cc)
no_third _ r l s e = absurd (cc)

no_third_part : (T : Table) (r : PlainRow) (f : Head) (es : PlainNodes) (j : ℕ) (x : PlainTask) → node_of T r.task ≡ row f es → is_search f ≡ true → j ≡ 2
    → IsPart T r j x → ⊥
no_third_part T r f es j x e s two (part_by_look {f = g} {es = gs} {l = l} i n q t) =
    no_third g r l (subst (λ h. is_search h ≡ true) (one-form f g es gs (sym e ∙ n)) s) (subst (λ k. look_of_row g r k ≡ Some l) two q)
no_third_part T r f es j x e s two (part_by_reference k o) = absurd (cc)

-- The third part of a search that waits for none is idle: a search has no look there.
pub search-is_idle : (d : Demand) (b : Elements) (h : Holding) (lost : ℕ) (r : PlainRow) (f : Head) (es : PlainNodes) → RowFacts d b h lost r
    → node_of (table_of d) r.task ≡ row f es → is_search f ≡ true → waits_for_none r ≡ true → state_at r.parts 2 ≡ idle
search-is_idle d b h lost r f es facts e s free =
    part-is_idle r 2 free (λ v q. let a = facts.got_parts 2 v q in no_third_part (table_of d) r f es 2 a.task e s refl a.is)

all_idle_list : (ps : List PartState) → length ps ≡ 3 → ((i : ℕ) → i < 3 → state_at ps i ≡ idle) → ps ≡ all_idle
all_idle_list (p ∷ (q ∷ (r ∷ []))) n h =
    ap (λ x. x ∷ (q ∷ (r ∷ []))) (h 0 (omega arith)) ∙ ap (λ x. idle ∷ (x ∷ (r ∷ []))) (h 1 (omega arith))
    ∙ ap (λ x. idle ∷ (idle ∷ (x ∷ []))) (h 2 (omega arith))
all_idle_list ps n h = absurd (omega (arith, n))

-- Three parts of which each is idle are all idle.
pub all-are_idle : (r : PlainRow) → length r.parts ≡ 3 → ((i : ℕ) → i < 3 → state_at r.parts i ≡ idle) → r.parts ≡ all_idle
all-are_idle r n h = all_idle_list r.parts n h

-- So are all parts of a search that waits for none, and whose subject and stream have no value yet.
pub search-is_all_idle : (d : Demand) (b : Elements) (h : Holding) (lost : ℕ) (r : PlainRow) (f : Head) (es : PlainNodes) → RowFacts d b h lost r
    → node_of (table_of d) r.task ≡ row f es → is_search f ≡ true → waits_for_none r ≡ true → value_of_part r 0 ≡ None → value_of_part r 1 ≡ None
    → r.parts ≡ all_idle
search-is_all_idle d b h lost r f es facts e s free no_subject no_stream = all-are_idle r facts.three each
  where
    valueless : (i : ℕ) → value_of_part r i ≡ None → (v : PlainValue) → value_of_part r i ≡ Some v → ⊥
    valueless i n v q = let z : None ≡ Some v = sym n ∙ q in absurd (cc)

    each : (i : ℕ) → i < 3 → state_at r.parts i ≡ idle
    each zero lt = part-is_idle r 0 free (valueless 0 no_subject)
    each (suc zero) lt = part-is_idle r 1 free (valueless 1 no_stream)
    each (suc (suc zero)) lt = search-is_idle d b h lost r f es facts e s free
    each (suc (suc (suc i))) lt = absurd (omega (arith, lt))
