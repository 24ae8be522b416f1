-- What a node gives, by its row.
use Rattle.lucid_cert_rules.proofs.FollowingCommon.{◌≡◌, ℕ, ◌+◌, Bool, true, List, [], length, Option, Some, None, get_or, refl, sym, ap, ◌∙◌, subst, slice_get, option_and_then, same_Some, arity, Head, apply, plan, Elements, element_of, Context, frozen_frame, PlainNode, row, freeze, reference, invoke, PlainNodes, number_aim, node_at, node_by, row_at, parts, Node, Table, PlainJudgment, fed, only, part_number, onward, of_part, by_onward, by_node, given, used, context_in, FollowsIn, HasHead, ◌↔◌}
use Rattle.lucid_tree.specs.declared.form.Form.{Form}
use Rattle.lucid_tree.specs.Tree.{const, stream}
use Rattle.lucid_equations.specs.Nodes.{no_nodes, input, refer}
use Rattle.lucid_equations.specs.NumberAims.{row_aim}
use Rattle.lucid_equations.specs.Rows.{nodes_of, at, all_at, constant_at, read}
use Rattle.lucid_equations.specs.declared.rows.Node.TheVariants as rows
use Rattle.lucid_equations.proofs.Formed.{is_form_node}
use Rattle.lucid_cert_rules.specs.Follows.{Judged, HasForm}
use Rattle.lucid_cert_rules.specs.RestPlans.{IsForm, IsRead}
use Rattle.lucid_cert_rules.specs.Checking.{PassesOn, row_onward}

-- a form has a head, and its node is that with parts
pub record IsOfForm (T : Table) (n : Node) : Type 0 where
  pub head : Head
  pub has : HasHead T n head
  pub nodes : PlainNodes
  pub is : node_by T n ≡ row head nodes

-- a form over streams was read
abbrev IsThere : Option (Form × List ℕ) → Type 0
IsThere None = ⊥
IsThere (Some p) = Unit {0}

has_read : (T : Table) (n : Node) (p : Form × List ℕ) → read n ≡ Some p → HasHead T n (stream p.0)
has_read T (rows.Const k) p e = absurd (subst IsThere (sym e) tt)
has_read T (rows.Apply op args) p e = absurd (subst IsThere (sym e) tt)
has_read T n p e = subst (λ (o : Option (Form × List ℕ)). IsRead o (stream p.0)) (sym e) refl

of_read : (T : Table) (n : Node) (o : Option (Form × List ℕ)) → read n ≡ o → IsThere o → IsOfForm T n
of_read T n None e there = absurd there
of_read T n (Some p) e there = record { head = stream p.0; has = has_read T n p e; nodes = all_at (nodes_of T) p.1; is = (is_form_node n p e).node_is T }

pub of_form : (T : Table) (n : Node) → IsForm n → IsOfForm T n
of_form T (rows.Const k) h = record { head = const (constant_at T k); has = refl; nodes = no_nodes; is = refl }
of_form T (rows.Input k) h = absurd h
of_form T (rows.Apply op args) h = record { head = apply op (arity op); has = refl; nodes = all_at (nodes_of T) (parts (rows.Apply op args)); is = refl }
of_form T (rows.Freeze a) h = absurd h
of_form T (rows.Refer n l) h = absurd h
of_form T (rows.Call n q l) h = absurd h
of_form T n h = of_read T n (read n) refl tt

module _ (T : Table) (b : Elements) (value : Judged) (id : ℕ) (n : Node) (there : row_at T id ≡ Some n) (is : node_at T id ≡ node_by T n) (c : Context)
    (t s : ℕ) (us : List ℕ) where
  by_its_node : (e : PlainNode) → node_at T id ≡ e → given T b value id c t s us ≡ by_node T b value e id c t s us
  unfolding given
  by_its_node e h = ap (λ (x : PlainNode). by_node T b value x id c t s us) h

  -- a form gives what its plan is fed to
  pub record GivesByPlan : Type 0 where
    pub head : Head
    pub has : HasHead T n head
    pub gives : given T b value id c t s us ≡ fed (of_part T value id c) (plan (t + length us) head t s) us

  pub form_gives : IsForm n → GivesByPlan
  form_gives h =
      let f = of_form T n h in record { head = f.head; has = f.has; gives = by_its_node (row f.head f.nodes) (is ∙ f.is) }

  aim_is : number_aim T id c t ≡ row_aim T (Some n) c t
  aim_is = ap (λ (x : Option Node). row_aim T x c t) there

  part_is : (i : ℕ) → part_number T id i ≡ slice_get (parts n) i
  part_is i = ap (λ (x : Option Node). option_and_then (λ y. slice_get (parts y) i) x) there

-- an input gives its element, and what passes on what it goes on with
pub input_gives : (T : Table) (b : Elements) (value : Judged) (id k : ℕ) (c : Context) (t s : ℕ) (us : List ℕ) → row_at T id ≡ Some (rows.Input k)
    → node_at T id ≡ node_by T (rows.Input k)
    → given T b value id c t s us ≡ by_onward b value (element_of (get_or T.inputs k []) t) s us
input_gives T b value id k c t s us there is =
    by_its_node T b value id (rows.Input k) there is c t s us (reference (input (get_or T.inputs k []))) is
    ∙ ap (λ x. by_onward b value (onward x) s us) (aim_is T b value id (rows.Input k) there is c t s us)

pub passes_gives : (T : Table) (b : Elements) (value : Judged) (id : ℕ) (n : Node) (c : Context) (t s : ℕ) (us : List ℕ) → PassesOn n → row_at T id ≡ Some n
    → node_at T id ≡ node_by T n
    → given T b value id c t s us ≡ by_onward b value (row_onward T n c t) s us
passes_gives T b value id (rows.Freeze a) c t s us h there is =
    by_its_node T b value id (rows.Freeze a) there is c t s us (freeze (at (nodes_of T) a)) is
    ∙ ap (λ (x : Option ℕ). only (λ u. option_and_then (λ m. value m (frozen_frame t c) t s u) x) us) (part_is T b value id (rows.Freeze a) there is c t s us 0)
passes_gives T b value id (rows.Refer m l) c t s us h there is =
    by_its_node T b value id (rows.Refer m l) there is c t s us (reference (refer m l)) is
    ∙ ap (λ x. by_onward b value (onward x) s us) (aim_is T b value id (rows.Refer m l) there is c t s us)
passes_gives T b value id (rows.Call m q l) c t s us h there is =
    by_its_node T b value id (rows.Call m q l) there is c t s us (invoke m q l) is
    ∙ ap (λ x. by_onward b value (onward x) s us) (aim_is T b value id (rows.Call m q l) there is c t s us)
passes_gives T b value id n c t s us h there is = absurd h

-- A judgment that can follow does where its node gives its value.
pub follows_where : (T : Table) (b : Elements) (cs : List (Option Context)) (js : List PlainJudgment) (i : ℕ) (j : PlainJudgment) (c : Context) (it : Bool)
    → slice_get js i ≡ Some j → HasForm T cs j c
    → (it ≡ true) ↔ (given T b (used cs js i) j.node c j.time j.space j.uses ≡ Some j.value) → (it ≡ true) ↔ FollowsIn T b cs js i
follows_where T b cs js i j c it there form h = (
  λ e. record { judgment = j; there = there; context = c; form = form; gives = h.0 e },
  λ f.
      let same : f.judgment ≡ j = same_Some f.judgment j (sym f.there ∙ there) in
      let context : f.context ≡ c = same_Some f.context c (sym f.form.context ∙ (ap (λ (x : PlainJudgment). context_in cs x.context) same ∙ form.context)) in
      let P : PlainJudgment → Type 0 = λ x. given T b (used cs js i) x.node f.context x.time x.space x.uses ≡ Some x.value in
      let Q : Context → Type 0 = λ x. given T b (used cs js i) j.node x j.time j.space j.uses ≡ Some j.value in
      h.1 (subst Q context (subst P same f.gives)),
)
