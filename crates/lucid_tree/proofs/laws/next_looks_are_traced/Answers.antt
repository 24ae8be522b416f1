use Rattle.lucid_tree.proofs.Common.{[], ◌∷◌, refl, subst, sym, inl, inr, In, Look}
use Rattle.lucid_tree.specs.PlanLaws.{point_of}
use Rattle.lucid_tree.proofs.RestsTraced.{next_taken, next_seen, next_seen_on, seen_on_the_way}
use Rattle.lucid_tree.proofs.laws.next_looks_are_traced.Goals as goal

pub returns-clause-taken : goal.returns-clause-taken
returns-clause-taken c = next_taken (λ l v. Unit {0})

pub returns-clause-among : goal.returns-clause-among
returns-clause-among c m n h f t s r ls k a l i = next_seen m r (λ i t s. (i, t, s) ∷ []) n h f t s ls k a l i (point_of l) (inl refl)

pub returns-clause-from_some_on : goal.returns-clause-from_some_on
returns-clause-from_some_on c rs h m f t s ls k a =
    let d = next_seen_on rs h (λ i t s. (i, t, s) ∷ []) m f t s ls k a in
    (d.0, λ e g l i. d.1 e g l i (point_of l) (inl refl))

pub returns-clause-on_the_way : goal.returns-clause-on_the_way
returns-clause-on_the_way c m p v r xs a x i = found (seen_on_the_way m r (λ i t s. (i, t, s) ∷ []) (λ l. In (point_of l) xs) p v a x i)
  where
    found : (l : Look) × In (point_of l) xs × In x (point_of l ∷ []) → In x xs
    found y = elim y.2 [ inl e ↦ subst (λ z. In z xs) (sym e) y.1 | inr j ↦ absurd j ]
