-- Trees that are shaped, and definitions that freeze the time, part by part.
use Rattle.lucid_compile.proofs.Common.{◌≡◌, ℕ, true, false, IsTrue, nat_eq, List, refl, arith, nat_tests, both_true, first_true, second_true, is_shaped, defs_are_shaped, PlainDefs, no_defs, def_of, one_def, Def, DefKind, freezes}
use Rattle.lucid_tree.specs.declared.tree.DefKind.TheVariants.{Plain as PlainKind, Function as FunctionKind, Current as CurrentKind}

pub shaped-one : (d : Def) (ds : PlainDefs) (x : DefKind) → IsTrue (defs_are_shaped (def_of d.at d.name x ds))
    → IsTrue (defs_are_shaped (def_of d.at d.name x no_defs)) × IsTrue (defs_are_shaped ds)
shaped-one d ds (PlainKind e) h = (both_true (is_shaped e) true (first_true (is_shaped e) _ h) refl, second_true (is_shaped e) _ h)
shaped-one d ds (FunctionKind ps ats e) h = (both_true _ true (first_true _ (defs_are_shaped ds) h) refl, second_true _ (defs_are_shaped ds) h)
shaped-one d ds (CurrentKind e) h = (both_true (is_shaped e) true (first_true (is_shaped e) _ h) refl, second_true (is_shaped e) _ h)

pub as_many : (n m : ℕ) → IsTrue (nat_eq n m) → n ≡ m
as_many n m h = grind (arith, nat_tests)

-- definitions freeze where the first does, and where the others do
one-freezes : (at : ℕ) (n : List ℕ) (x : DefKind) (ds : PlainDefs) → freezes (def_of at n x no_defs) ≡ true → freezes (def_of at n x ds) ≡ true
one-freezes at n (CurrentKind e) ds h = refl
one-freezes at n _ ds h =
    let q : false ≡ true = h in
    cc

pub freezes-first : (d : Def) (ds : PlainDefs) → freezes (one_def d no_defs) ≡ true → freezes (one_def d ds) ≡ true
freezes-first d ds h = one-freezes d.at d.name d.kind ds h

others-freeze : (at : ℕ) (n : List ℕ) (x : DefKind) (ds : PlainDefs) → freezes ds ≡ true → freezes (def_of at n x ds) ≡ true
others-freeze at n (CurrentKind e) ds h = refl
others-freeze at n _ ds h = h

pub freezes-rest : (d : Def) (ds : PlainDefs) → freezes ds ≡ true → freezes (one_def d ds) ≡ true
freezes-rest d ds h = others-freeze d.at d.name d.kind ds h
