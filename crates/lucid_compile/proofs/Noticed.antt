-- The places of the pieces that a walk notes differ in a well made tree, and so do those of its constants.
use Rattle.lucid_compile.proofs.Common.{◌≡◌, ℕ, suc, ◌+◌, ◌≤◌, Bool, true, false, cond, if◌then◌else◌, List, [], ◌∷◌, ◌++◌, map, nat_eq, refl, ap, ◌∙◌, arith, map-append, const, PlainTree, form, name, call, block, PlainTrees, no_trees, tree, PlainDefs, no_defs, defines, defines_function, defines_current, places, places_in_defs, IsWellMade, AllDiffer, times, times-append, once-differ, differ-once, freezes, in_body, Kind, Note, note, opening, piece, plain_right, current_right, parameter_notes, block_piece}
use Rattle.std.proofs.lemmas.List.Elements.{filter-append}
use Rattle.lucid_tree.specs.WellMade.{places_in}
use Rattle.lucid_compile.specs.Static.{Static, outermost, in_block}
use Rattle.lucid_compile.specs.Notes.{block_opens, notes, notes_in, notes_in_defs, is_piece}
use Rattle.lucid_compile.proofs.Walking.{pieces_of, constants_of}

-- how often a piece is noted at a place
abbrev noted : ℕ → List Note → ℕ
noted x ns = times x (map (λ n. n.at) (pieces_of ns))

noted-append : (x : ℕ) (ns ms : List Note) → noted x (ns ++ ms) ≡ noted x ns + noted x ms
noted-append x ns ms = ap (λ l. times x (map (λ n. n.at) l)) (filter-append (λ n. is_piece n.kind) ns ms)
    ∙ ap (times x) (map-append (λ n. n.at) (pieces_of ns) (pieces_of ms)) ∙ times-append x (map (λ n. n.at) (pieces_of ns)) (map (λ n. n.at) (pieces_of ms))

noted-opens : (x at : ℕ) (k : Static) (b : Bool) → noted x (if b then note at k opening ∷ [] else []) ≡ 0
noted-opens x at k true = refl
noted-opens x at k false = refl

noted-block : (x at : ℕ) (k : Static) (e : PlainTree) (ds : PlainDefs) (b : Bool)
    → noted x (if b then note at k (piece (block at e ds)) ∷ [] else []) ≤ cond (nat_eq x at) 1 0
noted-block x at k e ds true = omega arith
noted-block x at k e ds false = omega arith

noted-parameters : (x : ℕ) (k : Static) (i : ℕ) (ats : List ℕ) → noted x (parameter_notes k i ats) ≡ 0
noted-parameters x k i [] = refl
noted-parameters x k i (at ∷ ats) = noted-parameters x k (suc i) ats

module _ (x : ℕ) where
  mutual
    noted-tree : (k : Static) (e : PlainTree) → noted x (notes k e) ≤ times x (places e)
    noted-tree k (form at f es) = omega (arith, noted-append x (notes_in k es) (note at k (piece (form at f es)) ∷ []), noted-trees k es)
    noted-tree k (name at n) = omega arith
    noted-tree k (call at n es) = omega (arith, noted-append x (notes_in k es) (note at k (piece (call at n es)) ∷ []), noted-trees k es)
    noted-tree k (block at e ds) =
        let y : Static = in_block ds k in
        omega (
          arith,
          noted-append x (block_opens ds at k ++ notes y e ++ notes_in_defs y k ds) (block_piece e ds at k),
          noted-append x (block_opens ds at k ++ notes y e) (notes_in_defs y k ds),
          noted-append x (block_opens ds at k) (notes y e),
          noted-opens x at y (freezes ds),
          noted-block x at k e ds (freezes ds),
          times-append x (places e) (places_in_defs ds),
          noted-tree y e,
          noted-defs y k ds,
        )

    noted-trees : (k : Static) (es : PlainTrees) → noted x (notes_in k es) ≤ times x (places_in es)
    noted-trees k no_trees = omega arith
    noted-trees k (tree e es) =
        omega (arith, noted-append x (notes k e) (notes_in k es), times-append x (places e) (places_in es), noted-tree k e, noted-trees k es)

    noted-defs : (k o : Static) (ds : PlainDefs) → noted x (notes_in_defs k o ds) ≤ times x (places_in_defs ds)
    noted-defs k o no_defs = omega arith
    noted-defs k o (defines at n e ds) =
        omega (
          arith,
          noted-append x (notes k e) (note at k (plain_right e) ∷ notes_in_defs k o ds),
          times-append x (places e) (places_in_defs ds),
          noted-tree k e,
          noted-defs k o ds,
        )
    noted-defs k o (defines_function at n ns ats e ds) =
        let y : Static = in_body ns ats k in
        omega (
          arith,
          noted-append x (note at y opening ∷ parameter_notes y 0 ats ++ notes y e) (notes_in_defs k o ds),
          noted-append x (note at y opening ∷ parameter_notes y 0 ats) (notes y e),
          noted-parameters x y 0 ats,
          times-append x (ats ++ places e) (places_in_defs ds),
          times-append x ats (places e),
          noted-tree y e,
          noted-defs k o ds,
        )
    noted-defs k o (defines_current at n e ds) =
        omega (
          arith,
          noted-append x (notes o e) (note at k (current_right e) ∷ notes_in_defs k o ds),
          times-append x (places e) (places_in_defs ds),
          noted-tree o e,
          noted-defs k o ds,
        )

pub pieces-differ : (e : PlainTree) → IsWellMade e → AllDiffer (map (λ n. n.at) (pieces_of (notes outermost e)))
pieces-differ e made =
    once-differ (map (λ n. n.at) (pieces_of (notes outermost e)))
    (λ x. omega (arith, noted-tree x outermost e, differ-once (places e) made.placed x))

-- a constant is a piece
abbrev held : ℕ → List Note → ℕ
held x ns = times x (map (λ n. n.at) (constants_of ns))

constant-or-not : (x : ℕ) (n : Note) (ns : List Note) (y : Kind) → n.kind ≡ y → held x ns ≤ noted x ns → held x (n ∷ ns) ≤ noted x (n ∷ ns)
constant-or-not x n ns (piece (form at (const v) es)) q h = rw q (omega (arith, h))
constant-or-not x n ns (piece e) q h = rw q (omega (arith, h))
constant-or-not x n ns _ q h = rw q h

fewer-constants : (x : ℕ) (ns : List Note) → held x ns ≤ noted x ns
fewer-constants x [] = omega arith
fewer-constants x (n ∷ ns) = constant-or-not x n ns n.kind refl (fewer-constants x ns)

pub constants-differ : (e : PlainTree) → IsWellMade e → AllDiffer (map (λ n. n.at) (constants_of (notes outermost e)))
constants-differ e made =
    once-differ (map (λ n. n.at) (constants_of (notes outermost e)))
    (λ x. omega (arith, fewer-constants x (notes outermost e), noted-tree x outermost e, differ-once (places e) made.placed x))
