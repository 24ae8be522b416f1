-- A program with its columns as the subject is well made.
use Rattle.lucid_columns.proofs.Common.{ℕ, suc, ◌+◌, ◌<◌, ◌≤◌, length, true, List, [], ◌∷◌, ◌++◌, refl, sym, ap, subst, arith, append-nil, inl, inr, All, IsTrue, PlainTree, block, PlainDefs, IsWellMade, over_space, with_columns, ◌*◌, ◌⊎◌, length-append}
use Rattle.lucid_lists.proofs.Truths.{both_true, second_true}
use Rattle.lucid_tree.specs.Members.{In, AllDiffer}
use Rattle.lucid_tree.specs.WellMade.{places, places_in_defs, is_shaped, defs_are_shaped}
use Rattle.lucid_tree.proofs.Members.{in_right, in_either, in_all, differ_right, differ_both}

module _ (base : ℕ) where
  -- the places of names, and those of what stands between them
  abbrev IsPlaced : (first place : ℕ) → Type 0
  IsPlaced j p = ((base + j ≤ p) × (p < base + 16)) ⊎ (base + 16 + j ≤ p)

  later : (j p : ℕ) → IsPlaced (suc j) p → IsPlaced j p
  later j p (inl h) = inl (omega (arith, h.0), h.1)
  later j p (inr h) = inr (omega (arith, h))

  placed : (j : ℕ) (n : List ℕ) (ns : List (List ℕ)) (p : ℕ) → j + length ns < 16 → In p (places (over_space base j n ns)) → IsPlaced j p
  placed j n [] p few (inl e) = inl (omega (arith, e), omega (arith, e, few))
  placed j n [] p few (inr i) = absurd i
  placed j n (k ∷ ns) p few (inl e) = inr (omega (arith, e))
  placed j n (k ∷ ns) p few (inr (inl e)) = inl (omega (arith, e), omega (arith, e, few))
  placed j n (k ∷ ns) p few (inr (inr i)) =
      later j p (placed (suc j) k ns p (omega (arith, few)) (subst (In p) (append-nil (places (over_space base (suc j) k ns))) i))

  differ : (j : ℕ) (n : List ℕ) (ns : List (List ℕ)) → j + length ns < 16 → AllDiffer (places (over_space base j n ns))
  differ j n [] few = ((λ i. i), tt)
  differ j n (k ∷ ns) few = (
    λ i. elim i [
      | inl e ↦ absurd (omega (arith, e))
      | inr h ↦ elim (there (base + 16 + j) h) [ inl p ↦ absurd (omega (arith, p.1)) | inr p ↦ absurd (omega (arith, p)) ]
    ],
    (
      λ h. elim (there (base + j) h) [ inl p ↦ absurd (omega (arith, p.0)) | inr p ↦ absurd (omega (arith, p)) ],
      subst AllDiffer (sym (append-nil (places (over_space base (suc j) k ns)))) (differ (suc j) k ns (omega (arith, few))),
    ),
  )
    where
      there : (p : ℕ) → In p (places (over_space base (suc j) k ns) ++ []) → IsPlaced (suc j) p
      there p i = placed (suc j) k ns p (omega (arith, few)) (subst (In p) (append-nil (places (over_space base (suc j) k ns))) i)

  few_places : (j : ℕ) (n : List ℕ) (ns : List (List ℕ)) → length (places (over_space base j n ns)) ≤ 2 * length ns + 1
  few_places j n [] = omega arith
  few_places j n (k ∷ ns) = omega (arith, few_places (suc j) k ns, ap length (append-nil (places (over_space base (suc j) k ns))))

  shaped : (j : ℕ) (n : List ℕ) (ns : List (List ℕ)) → IsTrue (is_shaped (over_space base j n ns))
  shaped j n [] = refl
  shaped j n (k ∷ ns) = both_true (is_shaped (over_space base (suc j) k ns)) true (shaped (suc j) k ns) refl

  still_well_made : (at : ℕ) (e : PlainTree) (ds : PlainDefs) (n : List ℕ) (ns : List (List ℕ)) → length ns < 16 → IsWellMade (block at e ds)
      → All (λ p. p < base) (places (block at e ds)) → length (places (block at e ds)) ≤ 1048576 → IsWellMade (block at (over_space base 0 n ns) ds)
  still_well_made at e ds n ns few well lower short = record {
    shaped = both_true (is_shaped (over_space base 0 n ns)) (defs_are_shaped ds) (shaped 0 n ns) (second_true (is_shaped e) (defs_are_shaped ds) well.shaped);
    placed = (
      (λ i. elim (in_either at (places (over_space base 0 n ns)) (places_in_defs ds) i) [
        | inl j ↦ apart at j (in_all (λ p. p < base) (places (block at e ds)) at lower (inl refl))
        | inr j ↦ well.placed.0 (in_right at (places e) (places_in_defs ds) j)
      ]),
      differ_both (places (over_space base 0 n ns)) (places_in_defs ds) (differ 0 n ns (omega (arith, few)))
          (differ_right (places e) (places_in_defs ds) well.placed.1)
          (λ p i j. apart p i (in_all (λ p. p < base) (places (block at e ds)) p lower (inr (in_right p (places e) (places_in_defs ds) j)))),
    );
    few = omega (
      arith,
      short,
      few,
      few_places 0 n ns,
      length-append (places (over_space base 0 n ns)) (places_in_defs ds),
      length-append (places e) (places_in_defs ds),
    );
  }
    where
      apart : (p : ℕ) → In p (places (over_space base 0 n ns)) → p < base → ⊥
      apart p i lt = elim (placed 0 n ns p (omega (arith, few)) i) [ inl h ↦ absurd (omega (arith, h.0, lt)) | inr h ↦ absurd (omega (arith, h, lt)) ]

-- So is any tree with columns of it as the subject.
pub beside_well_made : (e : PlainTree) (base : ℕ) (columns : List (List ℕ)) → length columns ≤ 16 → IsWellMade e → All (λ p. p < base) (places e)
    → length (places e) ≤ 1048576
    → IsWellMade (with_columns e base columns)
beside_well_made e base [] few well lower short = well
beside_well_made (block at e ds) base (n ∷ ns) few well lower short = still_well_made base at e ds n ns (omega (arith, few)) well lower short
beside_well_made _ base (n ∷ ns) few well lower short = well
