-- In a log no place has two keys of one kind.
use Rattle.lucid_compile.proofs.Common.{◌≡◌, ℕ, suc, ◌+◌, ◌≤◌, IsTrue, cond, length, List, [], ◌∷◌, ◌++◌, map, nat_eq, refl, sym, ap, ◌∙◌, arith, append_assoc, map-append, PlainTree, form, name, call, block, PlainTrees, no_trees, tree, PlainDefs, no_defs, defines, defines_function, defines_current, places, places_in_defs, times, times-append, in_body, place_of, first_place, Note, FunctionStand, Log, with_stand, with_call, with_function, opened_block, opened_function, with_parameters, added, added_all, added_defs, first_true, second_true, current_right, note, noted_actuals, parameter_number, piece, plain_right}
use Rattle.std.proofs.lemmas.List.{append-nil}
use Rattle.lucid_tree.specs.WellMade.{places_in}
use Rattle.lucid_compile.specs.Static.{Static, in_block}
use Rattle.lucid_compile.proofs.Stands.{parameters-calls, parameters-functions}
use Rattle.lucid_compile.proofs.Passing.{calls_pass_actuals, all_pass_actuals, defs_pass_actuals}

-- the places of names, calls, call places and functions
abbrev pub names_at : Log → List ℕ
names_at l = map (λ s. s.at) l.names

abbrev pub calls_at : Log → List ℕ
calls_at l = map (λ c. c.at) l.calls

abbrev pub sites_at : Log → List ℕ
sites_at l = map (λ c. first_place (noted_actuals c.kind)) l.calls

abbrev pub functions_at : Log → List ℕ
functions_at l = map (λ f. f.at) l.functions

parameters-at : (k : Static) (i : ℕ) (ats : List ℕ) (l : Log) → names_at (with_parameters k i ats l) ≡ names_at l ++ ats
parameters-at k i [] l = sym (append-nil (names_at l))
parameters-at k i (at ∷ ats) l =
    let s : Note = note at k (parameter_number i) in
    parameters-at k (suc i) ats (with_stand s l) ∙ ap (λ x. x ++ ats) (map-append (λ x. x.at) l.names (s ∷ [])) ∙ append_assoc (names_at l) (at ∷ []) ats

stand-times : (x : ℕ) (s : Note) (l : Log) → times x (names_at (with_stand s l)) ≡ times x (names_at l) + cond (nat_eq x s.at) 1 0
stand-times x s l = ap (times x) (map-append (λ y. y.at) l.names (s ∷ [])) ∙ times-append x (names_at l) (s.at ∷ []) ∙ omega arith

call-times : (x : ℕ) (c : Note) (l : Log) → times x (calls_at (with_call c l)) ≡ times x (calls_at l) + cond (nat_eq x c.at) 1 0
call-times x c l = ap (times x) (map-append (λ y. y.at) l.calls (c ∷ [])) ∙ times-append x (calls_at l) (c.at ∷ []) ∙ omega arith

site-times : (x : ℕ) (c : Note) (l : Log) → times x (sites_at (with_call c l)) ≡ times x (sites_at l) + cond (nat_eq x (first_place (noted_actuals c.kind))) 1 0
site-times x c l = ap (times x) (map-append (λ y. first_place (noted_actuals y.kind)) l.calls (c ∷ [])) ∙ times-append x (sites_at l) (first_place (noted_actuals c.kind) ∷ [])
    ∙ omega arith

function-times : (x : ℕ) (f : FunctionStand) (l : Log) → times x (functions_at (with_function f l)) ≡ times x (functions_at l) + cond (nat_eq x f.at) 1 0
function-times x f l = ap (times x) (map-append (λ y. y.at) l.functions (f ∷ [])) ∙ times-append x (functions_at l) (f.at ∷ []) ∙ omega arith

-- the places of a tree below its own
abbrev pub below : PlainTree → List ℕ
below (form at f es) = places_in es
below (name at x) = []
below (call at x es) = places_in es
below (block at e ds) = places e ++ places_in_defs ds

pub own-first : (e : PlainTree) → places e ≡ place_of e ∷ below e
own-first (form at f es) = refl
own-first (name at x) = refl
own-first (call at x es) = refl
own-first (block at e ds) = refl

module _ (x : ℕ) where
  mutual
    pub names-times : (k : Static) (e : PlainTree) (l : Log)
        → times x (names_at (added k e l)) + times x (calls_at (added k e l)) ≤ times x (names_at l) + times x (calls_at l) + times x (places e)
    names-times k (form at f es) l = omega (arith, all_names-times k es l)
    names-times k (name at n) l = omega arith
    names-times k (call at n es) l =
        let c : Note = note at k (piece (call at n es)) in
        omega (arith, all_names-times k es l, call-times x c (added_all k es l))
    names-times k (block at e ds) l =
        omega (
          arith,
          times-append x (places e) (places_in_defs ds),
          names-times (in_block ds k) e (opened_block ds k l),
          def_names-times (in_block ds k) k ds
              (added (in_block ds k) e (opened_block ds k l)),
        )

    all_names-times : (k : Static) (es : PlainTrees) (l : Log)
        → times x (names_at (added_all k es l)) + times x (calls_at (added_all k es l)) ≤ times x (names_at l) + times x (calls_at l) + times x
        (places_in es)
    all_names-times k no_trees l = omega arith
    all_names-times k (tree e es) l = omega (arith, times-append x (places e) (places_in es), names-times k e l, all_names-times k es (added k e l))

    def_names-times : (k o : Static) (ds : PlainDefs) (l : Log)
        → times x (names_at (added_defs k o ds l)) + times x (calls_at (added_defs k o ds l)) ≤ times x (names_at l) + times x (calls_at l) + times x
        (places_in_defs ds)
    def_names-times k o no_defs l = omega arith
    def_names-times k o (defines at n e ds) l =
        let s : Note = note at k (plain_right e) in
        omega (
          arith,
          times-append x (places e) (places_in_defs ds),
          names-times k e l,
          stand-times x s (added k e l),
          def_names-times k o ds
              (with_stand s (added k e l)),
        )
    def_names-times k o (defines_function at n ns ats e ds) l =
        let y : Static = in_body ns ats k in
        let f : FunctionStand = record { at = at; first = length l.names; names = ns; places = ats; right = e; home = k } in
        let b : Log = with_parameters y 0 ats (opened_function ns ats k l) in
        let c : Log = added y e b in
        omega (
          arith,
          times-append x (ats ++ places e) (places_in_defs ds),
          times-append x ats (places e),
          ap (times x)
              (parameters-at y 0 ats (opened_function ns ats k l)),
          times-append x (names_at l) ats,
          ap (λ z. times x (map (λ v. v.at) z))
              (parameters-calls y 0 ats (opened_function ns ats k l)),
          names-times y e b,
          def_names-times k o ds (with_function f c),
        )
    def_names-times k o (defines_current at n e ds) l =
        let s : Note = note at k (current_right e) in
        omega (
          arith,
          times-append x (places e) (places_in_defs ds),
          names-times o e l,
          stand-times x s (added o e l),
          def_names-times k o ds
              (with_stand s (added o e l)),
        )

  mutual
    pub functions-times : (k : Static) (e : PlainTree) (l : Log) → times x (functions_at (added k e l)) ≤ times x (functions_at l) + times x (places e)
    functions-times k (form at f es) l = omega (arith, all_functions-times k es l)
    functions-times k (name at n) l = omega arith
    functions-times k (call at n es) l = omega (arith, all_functions-times k es l)
    functions-times k (block at e ds) l =
        omega (
          arith,
          times-append x (places e) (places_in_defs ds),
          functions-times (in_block ds k) e (opened_block ds k l),
          def_functions-times
              (in_block ds k) k ds (added (in_block ds k) e (opened_block ds k l)),
        )

    all_functions-times : (k : Static) (es : PlainTrees) (l : Log)
        → times x (functions_at (added_all k es l)) ≤ times x (functions_at l) + times x (places_in es)
    all_functions-times k no_trees l = omega arith
    all_functions-times k (tree e es) l = omega (
      arith,
      times-append x (places e) (places_in es),
      functions-times k e l,
      all_functions-times k es
          (added k e l),
    )

    def_functions-times : (k o : Static) (ds : PlainDefs) (l : Log)
        → times x (functions_at (added_defs k o ds l)) ≤ times x (functions_at l) + times x (places_in_defs ds)
    def_functions-times k o no_defs l = omega arith
    def_functions-times k o (defines at n e ds) l =
        let s : Note = note at k (plain_right e) in
        omega (arith, times-append x (places e) (places_in_defs ds), functions-times k e l, def_functions-times k o ds (with_stand s (added k e l)))
    def_functions-times k o (defines_function at n ns ats e ds) l =
        let y : Static = in_body ns ats k in
        let f : FunctionStand = record { at = at; first = length l.names; names = ns; places = ats; right = e; home = k } in
        let b : Log = with_parameters y 0 ats (opened_function ns ats k l) in
        let c : Log = added y e b in
        omega (
          arith,
          times-append x (ats ++ places e) (places_in_defs ds),
          times-append x ats (places e),
          ap (λ z. times x (map (λ v. v.at) z))
              (parameters-functions y 0 ats (opened_function ns ats k l)),
          functions-times y e b,
          function-times x f c,
          def_functions-times k o ds
              (with_function f c),
        )
    def_functions-times k o (defines_current at n e ds) l =
        let s : Note = note at k (current_right e) in
        omega (arith, times-append x (places e) (places_in_defs ds), functions-times o e l, def_functions-times k o ds (with_stand s (added o e l)))

  mutual
    pub sites-times : (k : Static) (e : PlainTree) (l : Log) → IsTrue (calls_pass_actuals e)
        → times x (sites_at (added k e l)) ≤ times x (sites_at l) + times x (below e)
    sites-times k (form at f es) l h = all_sites-times k es l h
    sites-times k (name at n) l h = omega arith
    sites-times k (call at n no_trees) l h = absurd (cc)
    sites-times k (call at n (tree e es)) l h =
        let c : Note = note at k (piece (call at n (tree e es))) in
        omega (
          arith,
          ap (times x) (own-first e),
          times-append x (places e) (places_in es),
          sites-times k e l (first_true (calls_pass_actuals e) _ h),
          all_sites-times k es (added k e l) (second_true (calls_pass_actuals e) _ h),
          site-times x c (added_all k (tree e es) l),
        )
    sites-times k (block at e ds) l h =
        omega (
          arith,
          ap (times x) (own-first e),
          times-append x (places e) (places_in_defs ds),
          sites-times (in_block ds k) e (opened_block ds k l)
              (first_true (calls_pass_actuals e) _ h),
          def_sites-times (in_block ds k) k ds (added (in_block ds k) e (opened_block ds k l))
              (second_true (calls_pass_actuals e) _ h),
        )

    all_sites-times : (k : Static) (es : PlainTrees) (l : Log) → IsTrue (all_pass_actuals es)
        → times x (sites_at (added_all k es l)) ≤ times x (sites_at l) + times x (places_in es)
    all_sites-times k no_trees l h = omega arith
    all_sites-times k (tree e es) l h =
        omega (
          arith,
          ap (times x) (own-first e),
          times-append x (places e) (places_in es),
          sites-times k e l (first_true (calls_pass_actuals e) _ h),
          all_sites-times k es (added k e l) (second_true (calls_pass_actuals e) _ h),
        )

    def_sites-times : (k o : Static) (ds : PlainDefs) (l : Log) → IsTrue (defs_pass_actuals ds)
        → times x (sites_at (added_defs k o ds l)) ≤ times x (sites_at l) + times x (places_in_defs ds)
    def_sites-times k o no_defs l h = omega arith
    def_sites-times k o (defines at n e ds) l h =
        let s : Note = note at k (plain_right e) in
        omega (
          arith,
          ap (times x) (own-first e),
          times-append x (places e) (places_in_defs ds),
          sites-times k e l (first_true (calls_pass_actuals e) _ h),
          def_sites-times k o ds (with_stand s (added k e l)) (second_true (calls_pass_actuals e) _ h),
        )
    def_sites-times k o (defines_function at n ns ats e ds) l h =
        let y : Static = in_body ns ats k in
        let f : FunctionStand = record { at = at; first = length l.names; names = ns; places = ats; right = e; home = k } in
        let b : Log = with_parameters y 0 ats (opened_function ns ats k l) in
        let c : Log = added y e b in
        omega (
          arith,
          ap (times x) (own-first e),
          times-append x (ats ++ places e) (places_in_defs ds),
          times-append x ats (places e),
          ap
              (λ z. times x (map (λ v. first_place (noted_actuals v.kind)) z)) (parameters-calls y 0 ats (opened_function ns ats k l)),
          sites-times y e b
              (first_true (calls_pass_actuals e) _ h),
          def_sites-times k o ds (with_function f c) (second_true (calls_pass_actuals e) _ h),
        )
    def_sites-times k o (defines_current at n e ds) l h =
        let s : Note = note at k (current_right e) in
        omega (
          arith,
          ap (times x) (own-first e),
          times-append x (places e) (places_in_defs ds),
          sites-times o e l (first_true (calls_pass_actuals e) _ h),
          def_sites-times k o ds (with_stand s (added o e l)) (second_true (calls_pass_actuals e) _ h),
        )
