-- What a call goes on with is found, and no context becomes known but that which it enters.
use Rattle.lucid_demand.proofs.Common.{ℕ, inl, inr, List, Option, None, refl, sym, ap, ◌∙◌, subst, filter_map, In, entered_of, Context, IsOneForOne, KeepsKnown, context_of, space_of, Task, equations_of, Table, plain_task, plain_key, node_of, aim_of_task, Evaluating, plain_aim, IsAim, Enters, FindsAim, Aim, OnErr}
use Rattle.std.proofs.Common.{◌≡◌, ◌⊎◌, Some, IfSome, Result, Ok, Err, IfOk}
use Rattle.lucid_equations.specs.Nodes.{invoke}
use Rattle.lucid_equations.specs.Datons.{node_aim, call_aim}
use Rattle.lucid_demand_steps.specs.Stands.{visits_of}
use Rattle.lucid_demand_steps.proofs.References.{call-enters}
use Rattle.lucid_demand_steps.specs.Aims.{IsOfDaton}
use Rattle.lucid_demand_steps.proofs.FoundAims.{aim_refers}

module _ (T : Table) (old known : List Context) (x : Task) (n at l : ℕ) (is : node_of T (plain_task old x) ≡ invoke n at l) where
  aim_is : (o : Option Aim) → plain_aim T known o ≡ call_aim (equations_of T) n at l (context_of old x.tag) x.time
      → plain_aim T known o ≡ aim_of_task T (plain_task old x)
  aim_is o e = e ∙ sym (ap (λ z. node_aim (equations_of T) z (context_of old x.tag) x.time) is)

  -- what it enters is its daton's context
  of_daton : (o : Option Aim) (c : Context) → plain_aim T known o ≡ call_aim (equations_of T) n at l (context_of old x.tag) x.time
      → IfSome o (IsAim T known (space_of x.tag)) → IsOfDaton known o c
      → Enters T (plain_task old x) c
  of_daton None c e there own = absurd own
  of_daton (Some a) c e there own = λ b m k. subst (λ z. In z (filter_map entered_of (visits_of T b m k (plain_task old x)))) (sym own)
      (call-enters T b m k (plain_task old x) n at l (plain_key known a.key) is (aim_refers T known (plain_task old x) a (aim_is (Some a) e) there))

  call_enters : {E : Type 0} (result : Result (Option Aim) E)
      → IfOk result (λ o. plain_aim T known o ≡ call_aim (equations_of T) n at l (context_of old x.tag) x.time)
      → IfOk result (λ o. IfSome o (IsAim T known (space_of x.tag))) → IfOk result (λ o. (c : Context) → In c known → In c old ⊎ IsOfDaton known o c)
      → OnErr result (known ≡ old)
      → (c : Context) → In c known → In c old ⊎ Enters T (plain_task old x) c
  call_enters (Ok o) e there entered err c i = elim (entered c i) [ inl j ↦ inl j | inr own ↦ inr (of_daton o c e there own) ]
  call_enters (Err f) e there entered err c i = inl (subst (λ k. In c k) err i)

  aims : {E : Type 0} (result : Result (Option Aim) E) → IfOk result (λ o. plain_aim T known o ≡ call_aim (equations_of T) n at l (context_of old x.tag) x.time)
      → IfOk result (λ o. plain_aim T known o ≡ aim_of_task T (plain_task old x))
  aims (Ok o) e = aim_is o e
  aims (Err f) e = tt

-- A call's aim is found.
pub call_finds : {E : Type 0} (o old : Evaluating) (view : o ≡ old) (x : Task) (n at l : ℕ) (known : List Context) (result : Result (Option Aim) E)
    → node_of o.engine.table (plain_task o.engine.known x) ≡ invoke n at l
    → IfOk result (λ a. plain_aim o.engine.table known a ≡ call_aim (equations_of o.engine.table) n at l (context_of o.engine.known x.tag) x.time)
    → IfOk result (λ a. IfSome a (IsAim o.engine.table known (space_of x.tag)))
    → IfOk result (λ a. (c : Context) → In c known → In c o.engine.known ⊎ IsOfDaton known a c)
    → OnErr result (known ≡ o.engine.known) → KeepsKnown o.engine.known known → IsOneForOne known
    → FindsAim old (record { engine = record o.engine { known = known }; rows = o.rows }) x result
call_finds o old view x n at l known result is aim there entered err keeps one =
    subst (λ z. FindsAim z (record { engine = record o.engine { known = known }; rows = o.rows }) x result) view (record {
      aim = λ reference. aims o.engine.table o.engine.known known x n at l is result aim;
      there = there;
      only = refl;
      entered = call_enters o.engine.table o.engine.known known x n at l is result aim there entered err;
      keeps = keeps;
      one_for_one = λ before. one;
    })
