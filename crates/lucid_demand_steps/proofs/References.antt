-- What a reference goes on with stands for it where its daton isn't held; what a reference, a call and an input visit.
use Rattle.lucid_demand_steps.proofs.Common.{◌≡◌, ℕ, zero, suc, ◌+◌, ◌*◌, ◌<◌, ◌⊎◌, inl, inr, List, [], ◌∷◌, Option, Some, None, refl, sym, ap, ◌∙◌, subst, arith, filter_map, PlainValue, In, Inside, Elements, goes_to, referred, reference_of, entered_of, invoke, NodePosition, node_aim, node_hval, node_visits, IsNeeded, equations_of, Table, PlainTask, DatonAt, node_of, RefersTo, GoesTo, MayRead, Holding, StandsFor, Lacks, given, hval_of, visits_of, task_visits, TaskNeeds}
use Rattle.std.proofs.Common.{length}
use Rattle.lucid_tree.specs.Levels.{or_else, looked_up, look_up_of}
use Rattle.lucid_tree.proofs.Members.{in_read}
use Rattle.lucid_equations.proofs.Needs as law
use Rattle.lucid_equations.proofs.CallsEnter.{calls-enter}

held-not : (o r : Option PlainValue) → o ≡ None → or_else o r ≡ r
held-not None r e = refl
held-not (Some v) r e = absurd (cc)

suc-times : (l n : ℕ) → suc l * n ≡ n + l * n
suc-times l n = omega arith

-- A task of a lower limit has a lower rank.
pub lower-limit : (n l a x m : ℕ) → a < n → m ≡ suc l → l * n + a < m * n + x
lower-limit n l a x m h e = let q : m * n ≡ n + l * n = ap (λ i. i * n) e ∙ suc-times l n in omega (arith, q, h)

module _ (T : Table) (x body : PlainTask) (k : DatonAt) (g : GoesTo T x k body) where
  abbrev position : NodePosition
  position = record { node = node_of T body; context = body.context }

  value-at : (b : Elements) (h : Holding) → Lacks h (k ∷ []) → (m : ℕ) → hval_of T b h m body ≡ hval_of T b h (suc m) x
  value-at b h l m =
      ap (λ r. node_hval (equations_of T) (given b h) m (node_of T body) body.context body.time r) g.same_space
      ∙ sym ((law.reference-value (equations_of T) (given b h) m (node_of T x) x.context x.time x.space k.0 position body.time g.aim).0
      ∙ held-not (h k.0 x.space) (node_hval (equations_of T) (given b h) m (node_of T body) body.context body.time x.space)
      (ap (λ r. h k.0 r) (sym g.space) ∙ l k (inl refl)))

  visits-at : (b : Elements) (m e : ℕ) → Inside (visits_of T b m e body) (visits_of T b (suc m) e x)
  visits-at b m e v i =
      law.reference-visits (equations_of T) b m e (node_of T x) x.context x.time x.space k.0 position body.time g.aim v
      (inr (subst (λ r. In v (node_visits (equations_of T) b m e (node_of T body) body.context body.time r)) g.same_space i))

  needs-at : (b : Elements) (q : DatonAt) → TaskNeeds T b x q → In q (k ∷ []) ⊎ TaskNeeds T b body q
  needs-at b q n =
      elim (law.reference-needs (equations_of T) b (node_of T x) x.context x.time x.space k.0 position body.time g.aim q n) [
        | inl i ↦ inl (inl (i ∙ (λ j. (k.0, sym g.space j))))
        | inr j ↦ inr (subst (λ r. IsNeeded (equations_of T) b (node_of T body) body.context body.time r q) (sym g.same_space) j)
      ]

  -- The body of a reference stands for it by its daton.
  pub references-stand : StandsFor T (k ∷ []) body x
  references-stand = record {
    fewer = 1;
    limit = g.limit;
    rank = let low = lower-limit (length T.nodes) body.limit body.node x.node x.limit g.there g.limit in omega (arith, low);
    values = value-at;
    visits = visits-at;
    needs = needs-at;
  }

-- A reference that goes on visits its daton, with each added number.
pub reference-visits : (T : Table) (b : Elements) (e : ℕ) (x y : PlainTask) (k : DatonAt) → GoesTo T x k y
    → In k (filter_map reference_of (task_visits T b e x))
reference-visits T b e x y k g =
    let at : NodePosition = record { node = node_of T y; context = y.context } in
    in_read reference_of (referred k.0 at y.time x.space) k (task_visits T b e x) (ap (λ s. Some (k.0, s)) (sym g.space))
    (subst (λ m. In (referred k.0 at y.time x.space) (visits_of T b m e x)) (sym g.limit)
    (law.reference-visits (equations_of T) b y.limit e (node_of T x) x.context x.time x.space k.0 at y.time g.aim _ (inl refl)))

-- A call that leads to a daton enters its context, at each limit.
pub call-enters : (T : Table) (b : Elements) (m e : ℕ) (x : PlainTask) (n at l : ℕ) (k : DatonAt) → node_of T x ≡ invoke n at l → RefersTo T x k
    → In k.0.context (filter_map entered_of (visits_of T b m e x))
call-enters T b m e x n at l k h r =
    subst (λ z. In k.0.context (filter_map entered_of (node_visits (equations_of T) b m e z x.context x.time x.space))) (sym h)
    (calls-enter (equations_of T) b m e n at l x.context x.time x.space k.0 r.position r.time
    (subst (λ z. node_aim (equations_of T) z x.context x.time ≡ goes_to k.0 r.position r.time) h r.aim))

-- An input that may read looks its element up.
pub input-consults : (T : Table) (b : Elements) (e : ℕ) (x : PlainTask) (n : List ℕ) (j : ℕ) → MayRead T x n j
    → In (n, j) (filter_map look_up_of (task_visits T b e x))
input-consults T b e x n j r = go x.limit r.deep
  where
    go : (m : ℕ) → 0 < m → In (n, j) (filter_map look_up_of (visits_of T b m e x))
    go zero h = absurd (omega (arith, h))
    go (suc m) h = in_read look_up_of (looked_up n j) (n, j) (visits_of T b (suc m) e x) refl
        (law.element-visits (equations_of T) b m e (node_of T x) x.context x.time x.space n j r.aim)
