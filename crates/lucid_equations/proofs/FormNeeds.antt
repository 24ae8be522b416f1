-- What a form visits and needs, by its looks.
use Rattle.lucid_equations.proofs.Common.{◌≡◌, ℕ, zero, suc, ◌+◌, Some, refl, sym, ◌∙◌, subst, add-zero, filter_map, PlainValue, Head, In, Inside, plan, Elements, nothing_held, Below, below, deeper, referred, reference_of, in_read, inside-read, Context, PlainNode, row, PlainNodes, no_nodes, node, part_of, Equations, Daton, NodePosition, part_at, node_value, node_val, node_walk, node_visits, IsNeeded, reads_parts, visits_parts}
use Rattle.lucid_equations.specs.Parts.{looked_at, LookNeeds}
use Rattle.lucid_equations.proofs.Looked.{looked-inside, look-found, looked-defined}
use Rattle.lucid_equations.proofs.Moving.{part-read, part-walked}
use Rattle.lucid_equations.proofs.NodeWalks.{needed-visited}
use Rattle.lucid_equations.proofs.Needs.{gone-to}

module _ (p : Equations) (b : Elements) where
  pub look-visited : (m d : ℕ) (f : Head) (es : PlainNodes) (c : Context) (t s i u r : ℕ) → In (i, u, r) (looked_at p b m d f es c t s)
      → Inside (visits_parts p b m d es c i u r) (node_visits p b m d (row f es) c t s)
  look-visited m d f es c t s i u r q = looked-inside m (reads_parts p (nothing_held b) (m + d) es c) (visits_parts p b m d es c) (plan (m + d) f t s) (i, u, r)
      q

  -- a part that has a value is there
  pub part-there : (m : ℕ) (g : Below Daton NodePosition) (es : PlainNodes) (c : Context) (i u r : ℕ) (w : PlainValue) → part_at p m g es c i u r ≡ Some w
      → (e : PlainNode) × (part_of es i ≡ Some e)
  part-there m g no_nodes c i u r w h = absurd (cc)
  part-there m g (node e es) c zero u r w h = (e, refl)
  part-there m g (node e es) c (suc i) u r w h = part-there m g es c i u r w h

  -- where a form has a value, a look of it has one
  look-value : (m : ℕ) (f : Head) (es : PlainNodes) (c : Context) (t s : ℕ) (v : PlainValue) → node_val p b m (row f es) c t s ≡ Some v → (q : ℕ × ℕ × ℕ)
      → In q (looked_at p b m 0 f es c t s) → (w : PlainValue) × (reads_parts p (nothing_held b) m es c q.0 q.1 q.2 ≡ Some w)
  look-value m f es c t s v h q i =
      let zero_more : m + 0 ≡ m = add-zero m in
      let whole : node_val p b (m + 0) (row f es) c t s ≡ Some v = subst (λ n. node_val p b n (row f es) c t s ≡ Some v) (sym zero_more) h in
      let had = looked-defined m (reads_parts p (nothing_held b) (m + 0) es c) (plan (m + 0) f t s) v whole q i in
      (had.0, subst (λ n. reads_parts p (nothing_held b) n es c q.0 q.1 q.2 ≡ Some had.0) zero_more had.1)

  -- what is read and seen of a part is what the part has and visits
  pub part-value : (m : ℕ) (es : PlainNodes) (c : Context) (i u r : ℕ) (w : PlainValue) (e : PlainNode) → part_of es i ≡ Some e
      → reads_parts p (nothing_held b) m es c i u r ≡ Some w → node_val p b m e c u r ≡ Some w
  part-value m es c i u r w e h k = sym (part-read p m (below (node_value p) (nothing_held b) m) es i e h c u r) ∙ k

  pub part-sees : (m : ℕ) (es : PlainNodes) (c : Context) (i u r : ℕ) (e : PlainNode) → part_of es i ≡ Some e
      → visits_parts p b m 0 es c i u r ≡ node_visits p b m 0 e c u r
  part-sees m es c i u r e h = part-walked p (nothing_held b) m 0 (deeper (node_walk p (nothing_held b)) m 0) es i e h c u r

  -- a daton that is seen of a part with a value is needed for the part
  pub seen-needed : (m : ℕ) (es : PlainNodes) (c : Context) (i u r : ℕ) (w : PlainValue) (e : PlainNode) (d : Daton × ℕ) (x : NodePosition) (z : ℕ)
      → part_of es i ≡ Some e → reads_parts p (nothing_held b) m es c i u r ≡ Some w → In (referred d.0 x z d.1) (visits_parts p b m 0 es c i u r)
      → IsNeeded p b e c u r d
  seen-needed m es c i u r w e d x z h k a = (
    m,
    w,
    part-value m es c i u r w e h k,
    in_read reference_of (referred d.0 x z d.1) d (node_visits p b m 0 e c u r) refl
        (subst (In (referred d.0 x z d.1)) (part-sees m es c i u r e h) a),
  )

  pub need-by_look : (f : Head) (es : PlainNodes) (c : Context) (t s : ℕ) (d : Daton × ℕ) → IsNeeded p b (row f es) c t s d → LookNeeds p b f es c t s d
  need-by_look f es c t s d n =
      let g = gone-to d.0 d.1 (node_visits p b n.0 0 (row f es) c t s) n.3 in
      let found = look-found n.0 (reads_parts p (nothing_held b) (n.0 + 0) es c) (visits_parts p b n.0 0 es c) (plan (n.0 + 0) f t s)
      (referred d.0 g.position g.time d.1) g.there in
      let had = look-value n.0 f es c t s n.1 n.2 found.0 found.1 in
      let there = part-there n.0 (below (node_value p) (nothing_held b) n.0) es c found.0.0 found.0.1 found.0.2 had.0 had.1 in
      record {
        limit = n.0;
        value = n.1;
        is = n.2;
        look = found.0;
        looked = found.1;
        part = there.0;
        there = there.1;
        needs = seen-needed n.0 es c found.0.0 found.0.1 found.0.2 had.0 there.0 d g.position g.time there.1 had.1 found.2;
      }

  pub need-of_look : (f : Head) (es : PlainNodes) (c : Context) (t s : ℕ) (d : Daton × ℕ) → LookNeeds p b f es c t s d → IsNeeded p b (row f es) c t s d
  need-of_look f es c t s d l =
      let had = look-value l.limit f es c t s l.value l.is l.look l.looked in
      let value : node_val p b l.limit l.part c l.look.1 l.look.2 ≡ Some had.0 =
      part-value l.limit es c l.look.0 l.look.1 l.look.2 had.0 l.part l.there had.1 in
      let among : In d (filter_map reference_of (node_visits p b l.limit 0 l.part c l.look.1 l.look.2)) =
      needed-visited p b l.limit l.part c l.look.1 l.look.2 had.0 d value l.needs in
      let all_in : Inside (visits_parts p b l.limit 0 es c l.look.0 l.look.1 l.look.2) (node_visits p b l.limit 0 (row f es) c t s) =
      look-visited l.limit 0 f es c t s l.look.0 l.look.1 l.look.2 l.looked in
      let part_in : Inside (node_visits p b l.limit 0 l.part c l.look.1 l.look.2) (node_visits p b l.limit 0 (row f es) c t s) =
      subst (λ xs. Inside xs (node_visits p b l.limit 0 (row f es) c t s)) (part-sees l.limit es c l.look.0 l.look.1 l.look.2 l.part l.there) all_in in (
        l.limit,
        l.value,
        l.is,
        inside-read reference_of (node_visits p b l.limit 0 l.part c l.look.1 l.look.2) (node_visits p b l.limit 0 (row f es) c t s)
            part_in d among,
      )

  pub form-needs : (f : Head) (es : PlainNodes) (c : Context) (t s : ℕ) (d : Daton × ℕ)
      → (IsNeeded p b (row f es) c t s d → LookNeeds p b f es c t s d) × (LookNeeds p b f es c t s d → IsNeeded p b (row f es) c t s d)
  form-needs f es c t s d = (need-by_look f es c t s d, need-of_look f es c t s d)
