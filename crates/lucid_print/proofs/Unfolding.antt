-- Pieces that were put before others.
use Rattle.lucid_print.proofs.Common.{◌≡◌, ℕ, ◌+◌, ◌≤◌, List, [], ◌∷◌, ◌++◌, false, refl, sym, ap, ◌∙◌, arith, append_assoc, codes, PlainTree, PlainTrees, tree, PlainDefs, placed, parted, parted_more, texts, source, parts, definitions, part_of, steps_left, sign, work, nat_tests, Bor}
use Rattle.std.proofs.Common.{nat_lt}
use Rattle.lucid_tree.specs.Rights.{right_of}
use Rattle.lucid_tree.specs.DefsView.{one_def, def_of}
use Rattle.lucid_tree.specs.declared.tree.Def.{Def}
use Rattle.lucid_tree.specs.declared.tree.DefKind.{DefKind}
use Rattle.lucid_tree.specs.declared.tree.DefKind.TheVariants as def_kind
use Rattle.lucid_print.specs.declared.print.Piece.{Piece}
use Rattle.lucid_print.specs.declared.print.Piece.TheVariants.{Placed}
use Rattle.lucid_print.specs.Canonical.{Part}
use Rattle.lucid_print.specs.Pieces.{text_of, left, steps_of, work_of_defs, Unfolds}

-- one piece
pub put : {o n : List Piece} {p : Piece} → n ≡ p ∷ o → Unfolds o n (text_of p) (steps_of p)
put {o} {n} {p} e = record { is = ap left e; within = omega (arith, ap steps_left e) }

-- pieces before those
pub before : {o m n : List Piece} {s t : List ℕ} {i j : ℕ} → Unfolds o m t j → Unfolds m n s i → Unfolds o n (s ++ t) (i + j)
before {o} {m} {n} {s} {t} {i} {j} a b = record {
  is = b.is ∙ ap (λ l. s ++ l) a.is ∙ sym (append_assoc s t (left o));
  within = omega (arith, a.within, b.within);
}

-- and those of the same text, of no more steps
pub are : {o n : List Piece} {s t : List ℕ} {i j : ℕ} → Unfolds o n s i → s ≡ t → i ≤ j → Unfolds o n t j
are {o} {n} {s} {t} {i} {j} a e h = record { is = a.is ∙ ap (λ l. l ++ left o) e; within = omega (arith, a.within, h) }

-- and none, of no text
pub none : (o : List Piece) (t : List ℕ) (k : ℕ) → [] ≡ t → Unfolds o o t k
none o t k e = record { is = ap (λ l. l ++ left o) e; within = omega arith }

-- where any level will do there are no parentheses
pub placed_anywhere : (p : Part) → placed 0 p ≡ p.text
placed_anywhere p =
    let never : nat_lt p.level 0 ≡ false = grind (arith, nat_tests) in
    rw never refl

-- a tree in a place that wants no level
pub whole : {o n : List Piece} {e : Bor PlainTree} → n ≡ Placed e 0 ∷ o → Unfolds o n (source e.now) (work e.now + 3)
whole {o} {n} {e} h = are (put h) (placed_anywhere (part_of e.now)) (omega arith)

-- a first argument, and others
pub first_argument : (x : PlainTree) (es fs : PlainTrees) → es ≡ tree x fs → codes "(" ++ (source x ++ (parted_more (texts (parts fs)) ++ codes ")")) ≡ codes "(" ++ (parted (texts (parts es)) ++ codes ")")
unfolding source
first_argument x es fs is = ap (λ l. codes "(" ++ l) (sym (append_assoc (source x) (parted_more (texts (parts fs))) (codes ")"))) ∙ ap (λ l. codes "(" ++ (parted (texts (parts l)) ++ codes ")")) (sym is)

-- a first definition, and others
pub first_definition : (d : Def) (ds es : PlainDefs) → ds ≡ one_def d es → definitions ds ≡ d.name ++ (sign d.kind ++ (source (right_of d.kind) ++ (codes "; " ++ definitions es)))
unfolding definitions
first_definition d ds es is = ap definitions is ∙ of d.kind
  where
    of : (k : DefKind) → definitions (def_of d.at d.name k es) ≡ d.name ++ (sign k ++ (source (right_of k) ++ (codes "; " ++ definitions es)))
    of (def_kind.Plain e) = simp append_assoc
    of (def_kind.Function ps ats e) = simp append_assoc
    of (def_kind.Current e) = simp append_assoc

pub definition_work : (d : Def) (ds es : PlainDefs) → ds ≡ one_def d es → work_of_defs ds ≡ work (right_of d.kind) + work_of_defs es + 9
definition_work d ds es is = ap work_of_defs is ∙ of d.kind
  where
    of : (k : DefKind) → work_of_defs (def_of d.at d.name k es) ≡ work (right_of k) + work_of_defs es + 9
    of (def_kind.Plain e) = refl
    of k = refl
