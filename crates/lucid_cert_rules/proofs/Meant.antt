-- What follows is meant: by induction on the number of the judgment.
use Rattle.lucid_cert_rules.proofs.FollowingCommon.{◌≡◌, ℕ, zero, suc, ◌+◌, ◌<◌, ◌≤◌, Bool, true, false, cond, List, [], ◌∷◌, length, Option, Some, None, ◌⊎◌, inl, inr, refl, sym, ap, ◌∙◌, subst, arith, slice_get, option_and_then, option_and_then_some, same_Some, PlainValue, Head, Look, plan, element_of, goes_to, nowhere, Elements, Context, frozen_frame, PlainNode, row, freeze, reference, invoke, PlainNodes, number_aim, node_at, node_by, row_at, parts, Node, Table, PlainJudgment, fed, context_in, used, only, part_number, onward, of_part, by_onward, by_node, given, FollowsIn, ◌==◌, nat_lt, and_parts, ltb-true, eqb-true, cases_order, cond_some}
use Rattle.lucid_tree.specs.Levels.{nothing_held}
use Rattle.lucid_tags.specs.EqualityDecides.{same_context_is_equality}
use Rattle.lucid_equations.specs.NumberAims.{NumberAim, plain_aim, plain_position, NodesGoByNumbers}
use Rattle.lucid_equations.specs.Values.{node_val}
use Rattle.lucid_equations.specs.Rows.{equations_of}
use Rattle.lucid_equations.specs.RowParts.{HasPart, RowsAreTheirNodes, PartsReadTheirNodes}
use Rattle.lucid_equations.specs.Laws.{NodeApproximationsStay}
use Rattle.lucid_equations.specs.Moving.{FreezingKeepsValues}
use Rattle.lucid_equations.specs.Needs.{ReferencesHaveValues, ElementsHaveValues}
use Rattle.lucid_equations.specs.Parts.{reads_parts}
use Rattle.lucid_equations.specs.Ranges.{IsInRange}
use Rattle.lucid_equations.specs.declared.rows.Node.TheVariants.{Freeze}
use Rattle.lucid_cert_rules.specs.Follows.{contexts, is_context, is_of}
use Rattle.lucid_cert_rules.specs.Meant.{WhatFollowsIsMeant}
use Rattle.lucid_cert_rules.proofs.FedRuns.{fed_runs, runs_up}

-- the laws of tables that it rests on
pub record Laws : Type 0 where
  pub stay : NodeApproximationsStay
  pub rows : RowsAreTheirNodes
  pub parts : PartsReadTheirNodes
  pub freezing : FreezingKeepsValues
  pub numbers : NodesGoByNumbers
  pub references : ReferencesHaveValues
  pub elements : ElementsHaveValues

-- a row's node that is a frozen time is that of its one part
frozen_part : (T : Table) (e : PlainNode) (n : Node) → node_by T n ≡ freeze e → (k : ℕ) → slice_get (parts n) 0 ≡ Some k → e ≡ node_at T k
frozen_part T e (Freeze a) h k p =
    let q : a ≡ k = cc in
    let r : node_at T a ≡ e = cc in sym r ∙ ap (node_at T) q
frozen_part T e n h k p = absurd (cc)

same_there : (o : Option Context) (c : Context) → is_context o c ≡ true → o ≡ Some c
same_there (Some d) c e = ap Some ((same_context_is_equality d c).0 e)
same_there None c e = absurd (cc)

module _ (T : Table) (in_range : IsInRange T) (laws : Laws) (b : Elements) (cs : List (Option Context)) (js : List PlainJudgment) (most : ℕ) where
  -- a part by its number
  has_part : (id i k : ℕ) → part_number T id i ≡ Some k → HasPart T id i k
  has_part id i k e = option_and_then_some _ (row_at T id) k e (λ n t m. record { row = n; there = t; names = m })

  -- a judgment's value is its node's at a limit
  abbrev pub Has : (limit node : ℕ) → Context → (time space : ℕ) → PlainValue → Type 0
  Has m n c t s v = node_val (equations_of T) b m (node_at T n) c t s ≡ Some v

  -- it is so of the judgment of a number
  abbrev pub IsMeant : ℕ → Type 0
  IsMeant i = (j : PlainJudgment) (c : Context) → slice_get js i ≡ Some j → context_in cs j.context ≡ Some c
      → Has (i + 1 + most) j.node c j.time j.space j.value

  up : (m n id : ℕ) → m ≤ n → (c : Context) (t s : ℕ) (v : PlainValue) → Has m id c t s v → Has n id c t s v
  up m n id l c t s v h = laws.stay (equations_of T) (nothing_held b) m n l (node_at T id) c t s v h

  module _ (i : ℕ) (earlier : (u : ℕ) → u < i → IsMeant u) where
    of_judgment : (u n : ℕ) (c : Context) (t s : ℕ) (v : PlainValue) (j : PlainJudgment) → u < i → slice_get js u ≡ Some j → is_of cs j n c t s ≡ true
        → j.value ≡ v
        → Has (i + most) n c t s v
    of_judgment u n c t s v j l there is e =
        let p = and_parts (j.node == n) _ is in
        let q = and_parts (is_context (context_in cs j.context) c) _ p.1 in
        let r = and_parts (j.time == t) (j.space == s) q.1 in
        let m = earlier u l j c there (same_there _ c q.0) in
        let P0 : ℕ → Type 0 = λ k. Has (u + 1 + most) k c j.time j.space j.value in
        let P1 : ℕ → Type 0 = λ k. Has (u + 1 + most) n c k j.space j.value in
        let P2 : ℕ → Type 0 = λ k. Has (u + 1 + most) n c t k j.value in
        let P3 : PlainValue → Type 0 = λ k. Has (u + 1 + most) n c t s k in
        let m0 = subst P0 (eqb-true j.node n p.0) m in
        let m1 = subst P1 (eqb-true j.time t r.0) m0 in
        let m2 = subst P2 (eqb-true j.space s r.1) m1 in
        let m3 = subst P3 e m2 in up (u + 1 + most) (i + most) n (omega (arith, l)) c t s v m3

    -- what a use has is meant
    used_means : (n : ℕ) (c : Context) (t s u : ℕ) (v : PlainValue) → used cs js i n c t s u ≡ Some v → Has (i + most) n c t s v
    unfolding used
    used_means n c t s u v e =
        let p = cond_parts (nat_lt u i) _ v e in
        option_and_then_some _ (slice_get js u) v p.1 (λ j there k.
        let q = cond_some (is_of cs j n c t s) j.value v k in of_judgment u n c t s v j (ltb-true u i p.0) there q.0 q.1)
      where
        cond_parts : (x : Bool) (o : Option PlainValue) (y : PlainValue) → cond x o None ≡ Some y → (x ≡ true) × (o ≡ Some y)
        cond_parts true o y h = (refl, h)
        cond_parts false o y h = absurd (cc)

    -- what is read of a part, by a use
    part_means : (id : ℕ) (f : Head) (es : PlainNodes) (c : Context) → node_at T id ≡ row f es → (l : Look) (u : ℕ) (v : PlainValue)
        → of_part T (used cs js i) id c l u ≡ Some v
        → reads_parts (equations_of T) (nothing_held b) (i + 1 + most) es c l.part l.time l.space ≡ Some v
    part_means id f es c is l u v e =
        option_and_then_some _ (part_number T id l.part) v e (λ k t m.
        laws.parts T in_range id l.part k (has_part id l.part k t) f es is (nothing_held b) (i + 1 + most) c l.time l.space
        ∙ up (i + most) (i + 1 + most) k (omega arith) c l.time l.space v (used_means k c l.time l.space u v m))

    by_row : (id : ℕ) (f : Head) (es : PlainNodes) (c : Context) (t s : ℕ) (us : List ℕ) (v : PlainValue) → t + length us ≤ most → node_at T id ≡ row f es
        → fed (of_part T (used cs js i) id c) (plan (t + length us) f t s) us ≡ Some v → Has (i + 1 + most) id c t s v
    by_row id f es c t s us v l is e =
        let r = reads_parts (equations_of T) (nothing_held b) (i + 1 + most) es c in
        let runs = fed_runs (of_part T (used cs js i) id c) r (part_means id f es c is) (plan (t + length us) f t s) us v e in
        let P : PlainNode → Type 0 = λ x. node_val (equations_of T) b (i + 1 + most) x c t s ≡ Some v in
        subst P (sym is) (runs_up (t + length us) (i + 1 + most) (omega (arith, l)) f t s r v runs)

    -- one more than the limit of the uses
    limit : (id : ℕ) (c : Context) (t s : ℕ) (v : PlainValue) → Has (suc (i + most)) id c t s v → Has (i + 1 + most) id c t s v
    limit id c t s v h =
        let e : suc (i + most) ≡ i + 1 + most = omega arith in
        let P : ℕ → Type 0 = λ m. Has m id c t s v in subst P e h

    -- the value of the one use
    only_one : (value : ℕ → Option PlainValue) (us : List ℕ) (v : PlainValue) → only value us ≡ Some v → (u : ℕ) × (value u ≡ Some v)
    only_one value [] v e = absurd (cc)
    only_one value (u ∷ []) v e = (u, e)
    only_one value (u ∷ x ∷ us) v e = absurd (cc)

    by_freeze : (id : ℕ) (e : PlainNode) (c : Context) (t s : ℕ) (us : List ℕ) (v : PlainValue) → node_at T id ≡ freeze e
        → only (λ u. option_and_then (λ n. used cs js i n (frozen_frame t c) t s u) (part_number T id 0)) us ≡ Some v → Has (i + 1 + most) id c t s v
    by_freeze id e c t s us v is h =
        let one = only_one _ us v h in
        option_and_then_some _ (part_number T id 0) v one.1 (λ k p m.
        let d = has_part id 0 k p in
        let subject = frozen_part T e d.row (sym (laws.rows T in_range id d.row d.there) ∙ is) k d.names in
        let value = up (i + most) (i + 1 + most) k (omega arith) (frozen_frame t c) t s v (used_means k (frozen_frame t c) t s one.0 v m) in
        let P : PlainNode → Type 0 = λ x. node_val (equations_of T) b (i + 1 + most) x c t s ≡ Some v in
        subst P (sym is) (laws.freezing (equations_of T) e (nothing_held b) (i + 1 + most) c t s
        ∙ (ap (λ (x : PlainNode). node_val (equations_of T) b (i + 1 + most) x (frozen_frame t c) t s) subject ∙ value)))

    by_aim : (id : ℕ) (c : Context) (t s : ℕ) (us : List ℕ) (v : PlainValue) (a : NumberAim) → number_aim T id c t ≡ a
        → by_onward b (used cs js i) (onward a) s us ≡ Some v
        → Has (i + 1 + most) id c t s v
    by_aim id c t s [] v (element_of n j) is h =
        let aim = laws.numbers T in_range id c t ∙ ap (plain_aim T) is in
        let e = (laws.elements (equations_of T) (nothing_held b) (i + most) (node_at T id) c t s n j aim).0 in limit id c t s v (e ∙ h)
    by_aim id c t s (u ∷ us) v (element_of n j) is h = absurd (cc)
    by_aim id c t s us v (goes_to d x u) is h =
        let aim = laws.numbers T in_range id c t ∙ ap (plain_aim T) is in
        let one = only_one _ us v h in
        let e = (laws.references (equations_of T) (nothing_held b) (i + most) (node_at T id) c t s d (plain_position T x) u aim).0 in
        limit id c t s v (e ∙ used_means x.number x.context u s one.0 v one.1)
    by_aim id c t s us v nowhere is h = absurd (cc)

    by_its_node : (id : ℕ) (c : Context) (t s : ℕ) (us : List ℕ) (v : PlainValue) (e : PlainNode) → t + length us ≤ most → node_at T id ≡ e
        → by_node T b (used cs js i) e id c t s us ≡ Some v → Has (i + 1 + most) id c t s v
    by_its_node id c t s us v (row f es) l is h = by_row id f es c t s us v l is h
    by_its_node id c t s us v (freeze e) l is h = by_freeze id e c t s us v is h
    by_its_node id c t s us v (reference r) l is h = by_aim id c t s us v (number_aim T id c t) refl h
    by_its_node id c t s us v (invoke n at k) l is h = by_aim id c t s us v (number_aim T id c t) refl h

    gives_meant : (id : ℕ) (c : Context) (t s : ℕ) (us : List ℕ) (v : PlainValue) → t + length us ≤ most → given T b (used cs js i) id c t s us ≡ Some v
        → Has (i + 1 + most) id c t s v
    unfolding given
    gives_meant id c t s us v l h = by_its_node id c t s us v (node_at T id) l refl h

    follows_meant : (f : FollowsIn T b cs js i) → f.judgment.time + length f.judgment.uses ≤ most → IsMeant i
    follows_meant f l j c there context =
        let same : f.judgment ≡ j = same_Some f.judgment j (sym f.there ∙ there) in
        let at : f.context ≡ c = same_Some f.context c (sym f.form.context ∙ (ap (λ (x : PlainJudgment). context_in cs x.context) same ∙ context)) in
        let value = gives_meant f.judgment.node f.context f.judgment.time f.judgment.space f.judgment.uses f.judgment.value l f.gives in
        let P : PlainJudgment → Type 0 = λ x. Has (i + 1 + most) x.node f.context x.time x.space x.value in
        let Q : Context → Type 0 = λ x. Has (i + 1 + most) j.node x j.time j.space j.value in subst Q at (subst P same value)

  lesser : (i k : ℕ) → i < suc k → (i < k) ⊎ (i ≡ k)
  lesser i k h = split (cases_order i k)
    where
      split : (i ≡ k) ⊎ ((i < k) ⊎ (k < i)) → (i < k) ⊎ (i ≡ k)
      split (inl e) = inr e
      split (inr (inl e)) = inl e
      split (inr (inr e)) = absurd (omega (arith, e, h))

  -- all judgments below a number follow, and none has a time and uses that together are more
  abbrev pub Follow : ℕ → Type 0
  Follow n = (i : ℕ) → i < n → FollowsIn T b cs js i

  abbrev pub Within : ℕ → Type 0
  Within n = (i : ℕ) (j : PlainJudgment) → i < n → slice_get js i ≡ Some j → j.time + length j.uses ≤ most

  next_meant : (n : ℕ) → Follow n → Within n → (k : ℕ) → suc k ≤ n → ((u : ℕ) → u < k → IsMeant u) → (i : ℕ) → (i < k) ⊎ (i ≡ k) → IsMeant i
  next_meant n all within k l below i (inl q) = below i q
  next_meant n all within k l below i (inr q) =
      let f = all i (omega (arith, q, l)) in
      follows_meant i (λ u m. below u (omega (arith, m, q))) f (within i f.judgment (omega (arith, q, l)) f.there)

  pub all_meant : (n : ℕ) → Follow n → Within n → (k : ℕ) → k ≤ n → (i : ℕ) → i < k → IsMeant i
  all_meant n all within zero l i h = absurd (omega (arith, h))
  all_meant n all within (suc k) l i h = next_meant n all within k l (all_meant n all within k (omega (arith, l))) i (lesser i k h)

pub what_follows_is_meant : Laws → WhatFollowsIsMeant
what_follows_is_meant laws T r b w n most all within i j c l there context =
    all_meant T r laws b (contexts T w) w.judgments most n all within n (omega arith) i l j c there context
