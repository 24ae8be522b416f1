-- An operator whose arguments are told: what a look at one leaves, why what is told answers its task, and why what the operator gives answers
-- its own.
use Rattle.lucid_demand.proofs.Common.{ℕ, inl, inr, List, [], ◌∷◌, Option, None, refl, sym, ap, ◌∙◌, subst, arith, IsTrue, IsSome, Value, plain, Elements, Context, Key, space_of, Task, TaskRow, Got, Idle, Stored, value_at, IsTouched, World, PlainTask, PlainRow, DatonAt, plain_task, plain_key, plain_row, aim_of_task, RefersTo, EngineView, holding, MayHave, Demand, RowFacts, answers_over, plain_aim, IsAim, Aim, arity, Evaluating, IsTurned}
use Rattle.std.proofs.Common.{◌≡◌, ◌⊎◌, Some}
use Rattle.std.specs.Prelude.{option_map}
use Rattle.lucid_tasks.specs.declared.Part.{Part}
use Rattle.lucid_tasks.specs.Rows as rows
use Rattle.lucid_ops.specs.Algebra.{algebra}
use Rattle.lucid_tree.specs.Tree.{apply}
use Rattle.lucid_tree.specs.Rows.{arguments}
use Rattle.lucid_tree.specs.Rests.{AllHave, and_then, at_start}
use Rattle.lucid_demand_steps.specs.Tasks.{new_row, got}
use Rattle.lucid_demand_steps.specs.Demands.{table_of, Answers}
use Rattle.lucid_demand_steps.specs.Rows.{PartAnswers}
use Rattle.lucid_demand_steps.specs.Changes.{with_part}
use Rattle.lucid_demand_steps.specs.Decisions.{IsConstant, GivesByPlan, LookHas}
use Rattle.lucid_demand_steps.proofs.HeldByKey.{held_by_key}
use Rattle.lucid_demand_steps.proofs.Answering.{held-answers, constant-answers}
use Rattle.lucid_demand_steps.proofs.FoundAims.{aim_refers}
use Rattle.lucid_demand_steps.proofs.NewRows.{new_row-facts}
use Rattle.lucid_demand_steps.proofs.PartFacts.{part-got}
use Rattle.lucid_demand_steps.proofs.OperatorParts.{operator_node, operator_part}
use Rattle.lucid_demand_steps.proofs.Giving.{plan_answers}
use Rattle.lucid_demand.specs.declared.operators.Operation.{Operation}
use Rattle.lucid_demand.specs.Naming.{IsNamedAim, MayHaveRow, AnswersTask}
use Rattle.lucid_demand.specs.Telling.{IsOperation, IsTold, LooksAt}
use Rattle.lucid_demand.proofs.TouchedKeys.{held_as_before}
use Rattle.lucid_demand.proofs.Turning.{answers_turned}
use Rattle.lucid_demand.proofs.AskedParts.{may_ask_turned}
use Rattle.lucid_demand.proofs.NamedBodies.{row_touched}

-- ---- where something changed

-- A row may be made where the policy had its turn.
module _ (d : Demand) (e new : Evaluating) (w : World) (part : Option Part) (x y : Task) (key : Option Key) (m : MayHaveRow d e w part x y key)
    (t : IsTurned e.engine new.engine) where
  pub row_turned : new.rows ≡ e.rows → MayHaveRow d new w part x y key
  row_turned same = subst (λ rs. MayHaveRow d (record { engine = new.engine; rows = rs }) w part x y key) (sym same)
      (subst (λ (z : EngineView). MayHaveRow d (record { engine = z; rows = e.rows }) w part x y key) (sym t.only) (record {
        least = m.least;
        may = may_ask_turned d e w part x m.least m.may new.engine t;
        stands = m.stands;
        still = m.still;
        lower = m.lower;
        tag = m.tag;
        key_tag = m.key_tag;
        wanted = m.wanted;
        remembers = m.remembers;
      }))

  -- What answers a task answers it then.
  pub task_answers_turned : (z : Task) (v : Value) → AnswersTask d e z v → AnswersTask d new z v
  task_answers_turned z v a b k =
      subst (λ (known : List Context). Answers d b (holding new.engine) new.engine.stored.lost (plain_task known z) (plain v))
      (sym (ap (λ (q : EngineView). q.known) t.only))
      (answers_turned d e.engine new.engine w m.may.owns t b (plain_task e.engine.known z) (plain v)
      (a b (subst (λ (q : EngineView). MayHave q b) t.only k)))

-- It may be made after a look,
module _ (d : Demand) (old new : Evaluating) (w : World) (part : Option Part) (x y : Task) (key : Option Key) (m : MayHaveRow d old w part x y key)
    (l : LooksAt old new) where
  abbrev stored_so : Stored → Evaluating
  stored_so s = record { engine = record old.engine { stored = s }; rows = old.rows }

  row_stored : (new.engine.stored ≡ old.engine.stored) ⊎ ((k : Key) × IsTouched old.engine.stored new.engine.stored k)
      → MayHaveRow d (stored_so new.engine.stored) w part x y key
  row_stored (inl same) = subst (λ s. MayHaveRow d (stored_so s) w part x y key) (sym same) m
  row_stored (inr k) = row_touched d old w part x y key m new.engine.stored k.0 k.1

  pub row_looked : MayHaveRow d new w part x y key
  row_looked = subst (λ z. MayHaveRow d z w part x y key) (sym l.only) (row_stored l.stored)

  -- and what answers a task answers it.
  module _ (z : Task) (v : Value) (a : AnswersTask d old z v) where
    answers_stored : (new.engine.stored ≡ old.engine.stored) ⊎ ((k : Key) × IsTouched old.engine.stored new.engine.stored k)
        → AnswersTask d (stored_so new.engine.stored) z v
    answers_stored (inl same) = subst (λ s. AnswersTask d (stored_so s) z v) (sym same) a
    answers_stored (inr k) = λ b h.
        answers_over d (holding old.engine) (holding (stored_so new.engine.stored).engine) old.engine.stored.lost new.engine.stored.lost
        (λ keeps none. (
          sym k.1.lost ∙ none,
          λ q i. subst (λ o. IsSome o)
              (sym (held_as_before d old.engine w new.engine.stored k.0 m.may.owns k.1 q)) i,
        )) b (plain_task old.engine.known z) (plain v) (a b h)

    pub task_answers_looked : AnswersTask d new z v
    task_answers_looked = subst (λ q. AnswersTask d q z v) (sym l.only) (answers_stored l.stored)

-- ---- what is told of a task answers it

module _ (d : Demand) (e : Evaluating) (w : World) (part : Option Part) (x y : Task) (key : Option Key) (m : MayHaveRow d e w part x y key) (z : Task)
    (v : Value) where
  abbrev argument : PlainTask
  argument = plain_task e.engine.known z

  told_table : e.engine.table ≡ table_of d
  told_table = m.may.owns.since.goes_on.table

  module _ (a : Aim) (named : IsNamedAim e z a) (held : value_at e.engine.stored a.key ≡ Some v) where
    abbrev daton : DatonAt
    daton = plain_key e.engine.known a.key

    aim_there : IsAim (table_of d) e.engine.known (space_of z.tag) a
    aim_there = subst (λ T. IsAim T e.engine.known (space_of z.tag) a) told_table named.there

    refers : RefersTo (table_of d) argument daton
    refers = aim_refers (table_of d) e.engine.known argument a
        (subst (λ T. plain_aim T e.engine.known (Some a) ≡ aim_of_task T argument) told_table named.leads) aim_there

    is_held : holding e.engine daton.0 daton.1 ≡ Some (plain v)
    is_held = held_by_key e.engine.known e.engine.stored a.key m.may.owns.contexts m.may.owns.keys aim_there.key_known ∙ ap (option_map plain) held

    not_emptied : IsTrue d.first.empties → ⊥
    not_emptied empties = let both : None ≡ Some (plain v) = sym (m.may.nothing empties daton.0 daton.1) ∙ is_held in absurd (cc)

    name_answers : AnswersTask d e z v
    name_answers b h =
        let stock = m.may.owns.stock.stock b h in
        held-answers d b (holding e.engine) e.engine.stored.lost argument daton (plain v) refers is_held not_emptied stock.right stock.closed

  pub told_answers : IsTold e z v → AnswersTask d e z v
  told_answers (inl constant) = λ b h. constant-answers d b (holding e.engine) e.engine.stored.lost argument (plain v)
      (subst (λ T. IsConstant T argument (plain v)) told_table constant)
  told_answers (inr held) = name_answers held.0 held.1 held.2

-- ---- an operation whose row may be made

module _ (d : Demand) (e : Evaluating) (w : World) (part : Option Part) (x y : Task) (key : Option Key) (m : MayHaveRow d e w part x y key) (o : Operation)
    (is : IsOperation (table_of d) y.node o) where
  abbrev its : PlainTask
  its = plain_task e.engine.known y

  abbrev args : List ℕ
  args = o.first ∷ o.second ∷ is.rest

  -- the row that would be made
  abbrev new : PlainRow
  new = new_row its part None

  new_facts : (b : Elements) → MayHave e.engine b → RowFacts d b (holding e.engine) e.engine.stored.lost new
  new_facts b z = new_row-facts d b (holding e.engine) e.engine.stored.lost its part None (m.wanted b z) m.still (λ k q. absurd (cc))

  -- What the operator gives for values that answer both answers it.
  module _ (left right : Value) (first : AnswersTask d e (record y { node = o.first }) left) (second : AnswersTask d e (record y { node = o.second }) right) where
    -- the row once it had both
    abbrev full : TaskRow
    full = record { task = y; parent = part; cursor = rows.start; key = None; parts = Got left ∷ Got right ∷ Idle ∷ [] }

    -- its parts are what the looks at both arguments want
    both_have : (n : ℕ) → n ≡ 2
        → AllHave (LookHas (table_of d) (apply o.op n) (plain_row e.engine.known full)) (arguments n 0 its.time its.space) (plain left ∷ plain right ∷ [])
    both_have n two = subst
        (λ k. AllHave (LookHas (table_of d) (apply o.op k) (plain_row e.engine.known full)) (arguments k 0 its.time its.space) (plain left ∷ plain right ∷ []))
        (sym two)
        (inl (record { index = 0; look = refl; value = refl }), (inl (record { index = 1; look = refl; value = refl }), tt))

    full_gives : GivesByPlan (table_of d) (plain_row e.engine.known full) (algebra o.op (plain left ∷ plain right ∷ []))
    full_gives = record {
      form = apply o.op (arity o.op);
      nodes = (operator_node (table_of d) y.node o.op args m.may.demand.in_range is.row).0;
      is = (operator_node (table_of d) y.node o.op args m.may.demand.in_range is.row).1;
      along = and_then (plain left ∷ plain right ∷ []) at_start (both_have (arity o.op) is.two);
    }

    full_facts : (b : Elements) → MayHave e.engine b → RowFacts d b (holding e.engine) e.engine.stored.lost (plain_row e.engine.known full)
    full_facts b z =
        part-got d b (holding e.engine) e.engine.stored.lost (with_part 0 (got (plain left)) new) 1 (plain right)
        (part-got d b (holding e.engine) e.engine.stored.lost new 0 (plain left) (new_facts b z) (omega arith) (λ u q. absurd (cc)) one)
        (omega arith) (λ u q. absurd (cc)) two
      where
        one : PartAnswers d b (holding e.engine) e.engine.stored.lost new 0 (plain left)
        one = record {
          task = record its { node = o.first };
          is = operator_part (table_of d) new o.op args 0 o.first m.may.demand.in_range is.row (omega (arith, is.two)) refl;
          answers = first b z;
        }

        two : PartAnswers d b (holding e.engine) e.engine.stored.lost (with_part 0 (got (plain left)) new) 1 (plain right)
        two = record {
          task = record its { node = o.second };
          is = operator_part (table_of d) (with_part 0 (got (plain left)) new) o.op args 1 o.second m.may.demand.in_range is.row (omega (arith, is.two)) refl;
          answers = second b z;
        }

    pub operation_answers : (v : Value) → plain v ≡ algebra o.op (plain left ∷ plain right ∷ []) → AnswersTask d e y v
    operation_answers v same b z = subst (λ u. Answers d b (holding e.engine) e.engine.stored.lost its u) (sym same)
        (plan_answers d b (holding e.engine) e.engine.stored.lost (plain_row e.engine.known full) m.may.demand (full_facts b z)
        (algebra o.op (plain left ∷ plain right ∷ [])) full_gives)
