-- Tasks that stand for others, and what they carry over.
use Rattle.lucid_demand_steps.proofs.Common.{◌≡◌, ℕ, zero, suc, ◌⊎◌, inl, inr, List, [], ◌++◌, None, refl, sym, ap, ◌∙◌, subst, arith, IsTrue, IsSome, PlainValue, In, Elements, Table, PlainTask, DatonAt, Holding, higher, Lacks, StandsFor, val_of, hval_of, visits_of, TaskMeans, IsDefined, TaskNeeds, Demand, table_of, IsSeen, Answers}
use Rattle.lucid_tree.proofs.Members.{in_left, in_right}

-- A task stands for itself, by no reference.
pub stands-itself : (T : Table) (x : PlainTask) → StandsFor T [] x x
stands-itself T x = record {
  fewer = 0;
  limit = refl;
  rank = omega arith;
  values = λ b h l m. refl;
  visits = λ b m e v i. i;
  needs = λ b k n. inr n;
}

higher-twice : (a b m : ℕ) → higher (higher b a) m ≡ higher b (higher a m)
higher-twice a zero m = refl
higher-twice a (suc b) m = ap suc (higher-twice a b m)

-- What stands for what stands for a task stands for that task, by the references of both.
pub stands-then : (T : Table) (ks ls : List DatonAt) (x y z : PlainTask) → StandsFor T ks x y → StandsFor T ls y z → StandsFor T (ks ++ ls) x z
stands-then T ks ls x y z p q = record {
  fewer = higher q.fewer p.fewer;
  limit = q.limit ∙ ap (λ n. higher q.fewer n) p.limit ∙ sym (higher-twice p.fewer q.fewer x.limit);
  rank = omega (arith, p.rank, q.rank);
  values = λ b h l m.
      p.values b h (λ k i. l k (in_left k ks ls i)) m ∙ q.values b h (λ k i. l k (in_right k ks ls i)) (higher p.fewer m)
      ∙ ap (λ n. hval_of T b h n z) (sym (higher-twice p.fewer q.fewer m));
  visits = λ b m e v i. subst (λ n. In v (visits_of T b n e z)) (sym (higher-twice p.fewer q.fewer m)) (q.visits b (higher p.fewer m) e v (p.visits b m e v i));
  needs = λ b k n. onward b k (q.needs b k n);
}
  where
    inner : (b : Elements) (k : DatonAt) → In k ks ⊎ TaskNeeds T b x k → In k (ks ++ ls) ⊎ TaskNeeds T b x k
    inner b k (inl i) = inl (in_left k ks ls i)
    inner b k (inr n) = inr n

    onward : (b : Elements) (k : DatonAt) → In k ls ⊎ TaskNeeds T b y k → In k (ks ++ ls) ⊎ TaskNeeds T b x k
    onward b k (inl i) = inl (in_right k ks ls i)
    onward b k (inr n) = inner b k (p.needs b k n)

nothing-lacks : (ks : List DatonAt) → Lacks (λ k s. None) ks
nothing-lacks ks k i = refl

-- What a task means, the task for which it stands means.
pub standing-means : (T : Table) (b : Elements) (ks : List DatonAt) (x y : PlainTask) (v : PlainValue) → StandsFor T ks x y → TaskMeans T b x v
    → TaskMeans T b y v
standing-means T b ks x y v p h = (higher p.fewer h.0, sym (p.values b (λ k s. None) (nothing-lacks ks) h.0) ∙ h.1)

-- An answer of a task answers the task for which it stands, where the datons on the way are held.
pub standing-answers : (d : Demand) (b : Elements) (h : Holding) (lost : ℕ) (ks : List DatonAt) (x y : PlainTask) (v : PlainValue)
    → StandsFor (table_of d) ks x y
    → (IsTrue d.first.keeps → lost ≡ 0 → (k : DatonAt) → In k ks → IsSome (h k.0 k.1)) → Answers d b h lost x v → Answers d b h lost y v
standing-answers d b h lost ks x y v p held a = record {
  means = standing-means (table_of d) b ks x y v p a.means;
  exact = λ e. ap (λ n. val_of (table_of d) b n y) p.limit ∙ sym (p.values b (λ k s. None) (nothing-lacks ks) x.limit) ∙ a.exact e;
  kept = λ e z k n. go e z k (p.needs b k n);
}
  where
    go : IsTrue d.first.keeps → lost ≡ 0 → (k : DatonAt) → In k ks ⊎ TaskNeeds (table_of d) b x k → IsSome (h k.0 k.1)
    go e z k (inl i) = held e z k i
    go e z k (inr n) = a.kept e z k n

-- Where a task's own approximation is defined, and none of the datons on the way is held, so is that of the task that stands for it.
pub standing-is_defined : (T : Table) (b : Elements) (h : Holding) (ks : List DatonAt) (x y : PlainTask) → Lacks h ks → StandsFor T ks x y → IsDefined T b h y
    → IsDefined T b h x
standing-is_defined T b h ks x y l p g = (g.0, p.values b h l x.limit ∙ ap (λ n. hval_of T b h n y) (sym p.limit) ∙ g.1)

-- What the root sees of a task, it sees of the task that stands for it.
pub standing-is_seen : (d : Demand) (b : Elements) (ks : List DatonAt) (x y : PlainTask) → StandsFor (table_of d) ks x y → IsSeen d b y → IsSeen d b x
standing-is_seen d b ks x y p s = record {
  added = s.added;
  none = s.none;
  holds = λ e l v i. s.holds e l v (subst (λ n. In v (visits_of (table_of d) b n e y)) (sym p.limit) (p.visits b x.limit e v i));
}
