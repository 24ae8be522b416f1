-- Held values: entries with values, and their datons with the same values.
use Rattle.lucid_compile.proofs.Common.{◌≡◌, ℕ, List, map, Option, Some, None, refl, sym, ap, ◌∙◌, subst, PlainValue, PlainTree, In, Elements, empty, Referent, in_map, root, Equations, Daton, Points, valued_datons, valued_entries, Numbers, Source, daton_of, Compiles, HoldsExactly, node_hval, eqhval}
use Rattle.lucid_tree.specs.Meaning as of_trees
use Rattle.lucid_compile.proofs.Targets.{Placed}
use Rattle.lucid_compile.proofs.Same.{HeldAlike, hval-same}
use Rattle.lucid_compile.proofs.One.{daton-one}
use Rattle.lucid_compile.proofs.Placed.{Each, each-at}
use Rattle.lucid_compile.proofs.Distinct.{from_map}
use Rattle.lucid_compile.proofs.Numbers.{valued_daton, PlacedValue, values-placed, valued_datons-are}

same_values : (o r : Option PlainValue) → ((v : PlainValue) → o ≡ Some v → r ≡ Some v) → ((v : PlainValue) → r ≡ Some v → o ≡ Some v) → o ≡ r
same_values None None h g = refl
same_values None (Some v) h g = g v refl
same_values (Some v) r h g = sym (h v refl)

module _ (nu : Numbers) (so : Source) (p : Equations) (e : PlainTree) (c : Compiles nu so p e) (b : Elements) where
  module _ (held : Referent → ℕ → Option PlainValue) (kept : Daton → ℕ → Option PlainValue) (values : List (Referent × ℕ × PlainValue))
      (placed : Each (PlacedValue nu so p e c b) values) (lists : HoldsExactly values held) (also : HoldsExactly (map (valued_daton nu) values) kept) where
    forth : (k : Referent) (s : ℕ) (v : PlainValue) → held k s ≡ Some v → kept (daton_of nu k) s ≡ Some v
    forth k s v h = (also (daton_of nu k) s v).1 (in_map (valued_daton nu) (k, s, v) values ((lists k s v).0 h))

    back : (k : Referent) (s : ℕ) (v : PlainValue) → Placed nu so p k → kept (daton_of nu k) s ≡ Some v → held k s ≡ Some v
    back k s v g h =
        let q : (x : Referent × ℕ × PlainValue) × In x values
        × ((daton_of nu k, s, v) ≡ valued_daton nu x) = from_map (valued_daton nu) (daton_of nu k, s, v) values ((also (daton_of nu k) s v).0 h) in
        let key : k ≡ q.0.0 = daton-one nu so p k q.0.0 g (each-at (PlacedValue nu so p e c b) values q.0 placed q.1) (ap (λ z. z.0) q.2) in
        (lists k s v).1 (subst (λ z. In z values) (sym (λ i. (key i, (q.2 i).1, (q.2 i).2))) q.1)

    alike : HeldAlike nu so p held kept
    alike k s g = same_values (held k s) (kept (daton_of nu k) s) (forth k s) (λ v h. back k s v g h)

  -- with the values held of all that is referred to from a list of points, what is held of the table is what is held of the tree
  pub points-alike : (m : ℕ) (points : Points) (held : Referent → ℕ → Option PlainValue) (kept : Daton → ℕ → Option PlainValue)
      → HoldsExactly (valued_entries b m e points) held → HoldsExactly (valued_datons p b m points) kept → HeldAlike nu so p held kept
  points-alike m points held kept lists also =
      alike held kept (valued_entries b m e points) (values-placed nu so p e c b m points) lists
      (subst (λ xs. HoldsExactly xs kept) (valued_datons-are nu so p e c b m points) also)

  -- and the approximations are equal, at every point
  pub held-same : (m : ℕ) (points : Points) (held : Referent → ℕ → Option PlainValue) (kept : Daton → ℕ → Option PlainValue)
      → HoldsExactly (valued_entries b m e points) held → HoldsExactly (valued_datons p b m points) kept → (n t s : ℕ)
      → eqhval p (record { element = b; held = kept }) n t s ≡ of_trees.hval (record { element = b; held = held }) n e empty t s
  held-same m points held kept lists also n t s =
      ap (λ r. node_hval p (record { element = b; held = kept }) n r root t s) c.root
      ∙ sym (hval-same nu so p b held kept (points-alike m points held kept lists also) n e empty t s tt c.kept)
