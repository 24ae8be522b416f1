-- What a wanted task goes on with is wanted; where it can't go on, the root's approximation is undefined; and what it reads the root consults.
use Rattle.lucid_cert.proofs.Common.{◌≡◌, ℕ, suc, ◌-◌, ◌<◌, ◌≤◌, List, [], Option, Some, None, inr, refl, sym, ap, ◌∙◌, subst, arith, get_or, filter_map, In, Elements, goes_to, nowhere, Context, context_of, PlainNode, row, node_val, node_visits, IsInRange, equations_of, node_at, row_at, Node, Table, nodes-by-numbers, row-node, PlainTask, node_of, visits_of, task_val, task_visits, Onward, PassesOn, going, row_onward, Position, IsWanted, task_at, references_of}
use Rattle.lucid_tree.specs.Levels.{element_of, nothing_held, look_up_of}
use Rattle.lucid_tree.proofs.Members.{inside-read}
use Rattle.lucid_tags.specs.Contexts.{frozen_frame}
use Rattle.lucid_equations.specs.Nodes.{freeze, reference, invoke, refer}
use Rattle.lucid_equations.specs.Datons.{Daton, node_aim}
use Rattle.lucid_equations.specs.NumberAims.{NumberPosition, NumberAim, number_aim, plain_aim, plain_position, row_aim}
use Rattle.lucid_equations.specs.declared.rows.Node.TheVariants as rows
use Rattle.lucid_equations.proofs.Needs as law
use Rattle.lucid_demand_steps.specs.Parts.{IsReference}
use Rattle.lucid_demand_steps.specs.Stands.{val_of}
use Rattle.lucid_demand_steps.proofs.References.{input-consults}
use Rattle.lucid_cert_rules.specs.Follows.{onward}

-- an option that has no value
pub none_where : {A : Type 0} (o : Option A) → ((x : A) → o ≡ Some x → ⊥) → o ≡ None
none_where None h = refl
none_where (Some x) h = absurd (h x refl)

-- where an aim goes on with a position, it is that of some daton
goes_where : (a : NumberAim) (p : NumberPosition) (u : ℕ) → goes_to tt p u ≡ onward a → (d : Daton) × (a ≡ goes_to d p u)
goes_where (element_of n j) p u e = absurd (cc)
goes_where (goes_to d q v) p u e =
    let same : p ≡ q = cc in
    let time : u ≡ v = cc in (d, ap (λ (x : NumberPosition). goes_to d x v) (sym same) ∙ ap (λ (x : ℕ). goes_to d p x) (sym time))
goes_where nowhere p u e = absurd (cc)

goes_parts : (p q : NumberPosition) (u v : ℕ) → ◌≡◌ {A = Onward} (goes_to tt p u) (goes_to tt q v) → (p ≡ q) × (u ≡ v)
goes_parts p q u v e =
    let same : p ≡ q = cc in
    let time : u ≡ v = cc in (same, time)

goes_nowhere : (a : NumberAim) → nowhere ≡ onward a → (a ≡ nowhere)
goes_nowhere (element_of n j) e = absurd (cc)
goes_nowhere (goes_to d q v) e = absurd (cc)
goes_nowhere nowhere e = refl

pub wants_itself : (T : Table) (b : Elements) (x : PlainTask) → IsWanted T b x x
wants_itself T b x = record { needed = λ v e. (v, e); added = 0; seen = λ d l z i. i }

module _ (T : Table) (b : Elements) (root x : PlainTask) (w : IsWanted T b root x) where
  -- where its own approximation is undefined, so is the root's
  pub undefined_root : task_val T b x ≡ None → task_val T b root ≡ None
  undefined_root e = none_where (task_val T b root) (λ v f.
      let d = w.needed v f in
      let g : Some d.0 ≡ None = sym d.1 ∙ e in absurd (cc))

  module _ (range : IsInRange T) where
    -- A frozen time's subject is wanted in the context that it enters,
    pub frozen_is_wanted : (a : ℕ) → row_at T x.node ≡ Some (rows.Freeze a)
        → IsWanted T b root (record { node = a; context = frozen_frame x.time x.context; time = x.time; space = x.space; limit = x.limit })
    frozen_is_wanted a there = record {
      needed = λ v e. let d = w.needed v e in (d.0, sym value ∙ d.1);
      added = w.added;
      seen = λ d l z i. w.seen d l z (subst (λ (n : PlainNode). In z (node_visits (equations_of T) b x.limit d n x.context x.time x.space)) (sym is) (inr i));
    }
      where
        is : node_of T x ≡ freeze (node_at T a)
        is = row-node T range x.node (rows.Freeze a) there

        value : task_val T b x ≡ node_val (equations_of T) b x.limit (node_at T a) (frozen_frame x.time x.context) x.time x.space
        value = ap (λ (n : PlainNode). node_val (equations_of T) b x.limit n x.context x.time x.space) is

    -- and what a reference or a call goes on with, one reference further on.
    module _ (k : Daton) (p : NumberPosition) (u : ℕ) (aim : number_aim T x.node x.context x.time ≡ goes_to k p u) where
      node_goes : node_aim (equations_of T) (node_of T x) x.context x.time ≡ goes_to k (plain_position T p) u
      node_goes = nodes-by-numbers T range x.node x.context x.time ∙ ap (plain_aim T) aim

      abbrev body : (limit : ℕ) → PlainTask
      body m = record { node = p.number; context = p.context; time = u; space = x.space; limit = m }

      one_more : (m : ℕ) → x.limit ≡ suc m → task_val T b x ≡ task_val T b (body m)
      one_more m e =
          ap (λ (n : ℕ). val_of T b n x) e
          ∙ (law.reference-value (equations_of T) (nothing_held b) m (node_of T x) x.context x.time x.space k (plain_position T p) u node_goes).0

      pub referred_is_wanted : (m : ℕ) → x.limit ≡ suc m → IsWanted T b root (body m)
      referred_is_wanted m e = record {
        needed = λ v h. let d = w.needed v h in (d.0, sym (one_more m e) ∙ d.1);
        added = w.added;
        seen = λ d l z i. w.seen d l z (subst (λ (n : ℕ). In z (visits_of T b n d x)) (sym e)
            (law.reference-visits (equations_of T) b m d (node_of T x) x.context x.time x.space k (plain_position T p) u node_goes z (inr i)));
      }

    -- A reference that leads nowhere has no value,
    leads_nowhere : (e : PlainNode) → node_of T x ≡ e → IsReference e → node_aim (equations_of T) e x.context x.time ≡ nowhere → task_val T b x ≡ None
    leads_nowhere (row f es) h is to = absurd is
    leads_nowhere (freeze e) h is to = absurd is
    leads_nowhere (reference r) h is to =
        ap (λ (n : PlainNode). node_val (equations_of T) b x.limit n x.context x.time x.space) h
        ∙ (law.nowhere-value (equations_of T) (nothing_held b) x.limit x.context x.time x.space).0 r to
    leads_nowhere (invoke n at l) h is to =
        ap (λ (q : PlainNode). node_val (equations_of T) b x.limit q x.context x.time x.space) h
        ∙ (law.nowhere-value (equations_of T) (nothing_held b) x.limit x.context x.time x.space).1 n at l to

    nowhere_is_undefined : (e : PlainNode) → node_of T x ≡ e → IsReference e → number_aim T x.node x.context x.time ≡ nowhere → task_val T b root ≡ None
    nowhere_is_undefined e h is to =
        undefined_root (leads_nowhere e h is (ap (λ (n : PlainNode). node_aim (equations_of T) n x.context x.time) (sym h)
        ∙ nodes-by-numbers T range x.node x.context x.time ∙ ap (plain_aim T) to))

    -- the aim of a row's number is the row's
    aim_of_row : (n : Node) → row_at T x.node ≡ Some n → number_aim T x.node x.context x.time ≡ row_aim T (Some n) x.context x.time
    aim_of_row n there = ap (λ (o : Option Node). row_aim T o x.context x.time) there

    -- What passes on goes on with what is wanted, so many references on;
    module _ (known : List Context) (at : Position) where
      aimed : (n : Node) → row_at T x.node ≡ Some n → 1 ≤ x.limit
          → goes_to tt (record { number = at.node; context = context_of known at.context }) at.time ≡ onward (row_aim T (Some n) x.context x.time)
          → IsWanted T b root (task_at known at x.space (x.limit - 1))
      aimed n there some e =
          let g = goes_where (row_aim T (Some n) x.context x.time) (record { number = at.node; context = context_of known at.context }) at.time e in
          let one : x.limit ≡ suc (x.limit - 1) = omega (arith, some) in
          referred_is_wanted g.0 (record { number = at.node; context = context_of known at.context }) at.time (aim_of_row n there ∙ g.1) (x.limit - 1) one

      pub passed_is_wanted : (n : Node) → row_at T x.node ≡ Some n → PassesOn n → going known (Some at) ≡ row_onward T n x.context x.time
          → references_of n ≤ x.limit
          → IsWanted T b root (task_at known at x.space (x.limit - references_of n))
      passed_is_wanted (rows.Freeze a) there passes e some =
          let same = goes_parts (record { number = at.node; context = context_of known at.context })
          (record { number = a; context = frozen_frame x.time x.context }) at.time x.time e in
          let number : at.node ≡ a = ap (λ (q : NumberPosition). q.number) same.0 in
          let context : context_of known at.context ≡ frozen_frame x.time x.context = ap (λ (q : NumberPosition). q.context) same.0 in
          let time : at.time ≡ x.time = same.1 in
          let limit : x.limit - 0 ≡ x.limit = omega arith in
          let P0 : ℕ
          → Type 0 =
          λ q. IsWanted T b root (record { node = q; context = frozen_frame x.time x.context; time = x.time; space = x.space; limit = x.limit }) in
          let P1 : Context → Type 0 = λ q. IsWanted T b root (record { node = at.node; context = q; time = x.time; space = x.space; limit = x.limit }) in
          let P2 : ℕ
          → Type 0 =
          λ q. IsWanted T b root (record { node = at.node; context = context_of known at.context; time = q; space = x.space; limit = x.limit }) in
          let P3 : ℕ → Type 0 = λ q. IsWanted T b root (task_at known at x.space q) in
          subst P3 (sym limit) (subst P2 (sym time) (subst P1 (sym context) (subst P0 (sym number) (frozen_is_wanted a there))))
      passed_is_wanted (rows.Refer m l) there passes e some = aimed (rows.Refer m l) there some e
      passed_is_wanted (rows.Call m q l) there passes e some = aimed (rows.Call m q l) there some e
      passed_is_wanted n there passes e some = absurd passes

    -- and where it goes on with nothing, the root's approximation is undefined.
    pub passed_nowhere : (n : Node) → row_at T x.node ≡ Some n → PassesOn n → nowhere ≡ row_onward T n x.context x.time → task_val T b root ≡ None
    passed_nowhere (rows.Freeze a) there passes e = absurd (cc)
    passed_nowhere (rows.Refer m l) there passes e =
        nowhere_is_undefined (reference (refer m l)) (row-node T range x.node (rows.Refer m l) there) tt
        (aim_of_row (rows.Refer m l) there ∙ goes_nowhere (row_aim T (Some (rows.Refer m l)) x.context x.time) e)
    passed_nowhere (rows.Call m q l) there passes e =
        nowhere_is_undefined (invoke m q l) (row-node T range x.node (rows.Call m q l) there) tt
        (aim_of_row (rows.Call m q l) there ∙ goes_nowhere (row_aim T (Some (rows.Call m q l)) x.context x.time) e)
    passed_nowhere n there passes e = absurd passes

    -- An input with no reference left is too deep, and else its element is consulted.
    module _ (k : ℕ) (there : row_at T x.node ≡ Some (rows.Input k)) where
      its_element : node_aim (equations_of T) (node_of T x) x.context x.time ≡ element_of (get_or T.inputs k []) x.time
      its_element = nodes-by-numbers T range x.node x.context x.time ∙ ap (plain_aim T) (aim_of_row (rows.Input k) there)

      pub input_too_deep : x.limit ≡ 0 → task_val T b root ≡ None
      input_too_deep e = undefined_root (ap (λ (n : ℕ). val_of T b n x) e
          ∙ (law.element-value (equations_of T) (nothing_held b) 0 (node_of T x) x.context x.time x.space (get_or T.inputs k []) x.time its_element).1)

      pub input_is_consulted : 0 < x.limit → (d : ℕ) → w.added ≤ d → In (get_or T.inputs k [], x.time) (filter_map look_up_of (task_visits T b d root))
      input_is_consulted some d l =
          inside-read look_up_of (task_visits T b d x) (task_visits T b d root) (w.seen d l) (get_or T.inputs k [], x.time)
          (input-consults T b d x (get_or T.inputs k []) x.time (record { aim = its_element; deep = some }))
