-- What stays true while what only moves the point is passed, move by move.
use Rattle.lucid_demand_steps.proofs.DecidingCommon.{ℕ, suc, inl, inr, List, [], ◌∷◌, Option, None, refl, sym, ap, ◌∙◌, subst, arith, option_and_then, slice_get, In, Context, frozen_frame, IsKnown, IsUnknown, Task, IsInRange, Node, parts, Table, PlainTask, plain_task, node_of, passed_contexts, node_by}
use Rattle.std.proofs.Common.{◌≡◌, ◌<◌, ◌⊎◌, Some, IfSome, option_map}
use Rattle.lucid_tags.specs.Known.{tag_of, IsOneForOne, KeepsKnown}
use Rattle.lucid_demand_steps.specs.Parts.{on_with, IsTask, moved, moved_by, passed}
use Rattle.lucid_demand_steps.proofs.MovingRows.{moved-moves}
use Rattle.lucid_demand_steps.proofs.Passing.{passed-once, passed-way}
use Rattle.lucid_equations.specs.Rows.{row_at}
use Rattle.lucid_equations.specs.declared.rows.Node.TheVariants.{Freeze}
use Rattle.lucid_demand_steps.proofs.History.{keeps_known_then}
use Rattle.lucid_demand_steps.specs.Aims.{EntersUnknown}

-- the contexts of the frozen times on the way of a task
abbrev way : Table → List Context → Task → List Context
way T known x = passed_contexts T (suc x.node) (plain_task known x)

-- A task was reached from the first one by what only moves the point.
pub record Passes (T : Table) (old now : List Context) (first task : Task) : Type 0 where
  pub known : IsKnown now task.tag
  pub there : IsTask T (plain_task now task)
  pub same : passed T (plain_task now task) ≡ passed T (plain_task old first)
  pub left : (c : Context) → In c (way T now task) → In c (way T old first)
  pub entered : (c : Context) → In c now → In c old ⊎ In c (way T old first)
  pub keeps : KeepsKnown old now
  pub one_for_one : IsOneForOne old → IsOneForOne now

-- the contexts of one move are those of the first on the way
once-on : (T : Table) (x : PlainTask) (n : ℕ) (c : Context) (o : Option PlainTask) → In c (on_with o [] (λ y. y.context ∷ []))
    → In c (on_with o [] (λ y. y.context ∷ passed_contexts T n y))
once-on T x n c None i = i
once-on T x n c (Some y) (inl e) = inl e
once-on T x n c (Some y) (inr i) = absurd i

-- what a move from here enters is on the way
entered-on : (T : Table) (old now : List Context) (first task : Task) → Passes T old now first task → (c : Context)
    → In c (passed_contexts T 1 (plain_task now task)) → In c (way T old first)
entered-on T old now first task p c i = p.left c (once-on T (plain_task now task) task.node c (moved T (plain_task now task)) i)

pub entered-end : (T : Table) (old now new : List Context) (first task : Task) → Passes T old now first task
    → ((c : Context) → In c new → In c now ⊎ In c (passed_contexts T 1 (plain_task now task))) → (c : Context) → In c new → In c old ⊎ In c (way T old first)
entered-end T old now new first task p f c i = elim (f c i) [ inl j ↦ p.entered c j | inr j ↦ inr (entered-on T old now first task p c j) ]

-- a move goes on,
pub passes-on : (T : Table) → IsInRange T → (old now new : List Context) (first task next : Task) → Passes T old now first task
    → option_map (plain_task new) (Some next) ≡ moved T (plain_task now task) → IfSome (Some next) (λ y. IsKnown new y.tag)
    → ((c : Context) → In c new → In c now ⊎ In c (passed_contexts T 1 (plain_task now task))) → KeepsKnown now new → (IsOneForOne now → IsOneForOne new)
    → Passes T old new first next
passes-on T range old now new first task next p is k f q one =
    let m = moved-moves T range (plain_task now task) (plain_task new next) (sym is) in
    record {
      known = k;
      there = omega (arith, m.lower, p.there);
      same = sym (passed-once T range (plain_task now task) (plain_task new next) (sym is)) ∙ p.same;
      left = λ c i. p.left c (subst (In c) (sym (passed-way T range (plain_task now task) (plain_task new next) (sym is))) (inr i));
      entered = entered-end T old now new first task p f;
      keeps = keeps_known_then old now new p.keeps q;
      one_for_one = λ o. one (p.one_for_one o);
    }

-- each to a lower node,
pub next-lower : (T : Table) → IsInRange T → (now new : List Context) (task next : Task)
    → option_map (plain_task new) (Some next) ≡ moved T (plain_task now task) → next.node < task.node
next-lower T range now new task next is = (moved-moves T range (plain_task now task) (plain_task new next) (sym is)).lower

pub keeps-end : (T : Table) (old now new : List Context) (first task : Task) → Passes T old now first task → KeepsKnown now new → KeepsKnown old new
keeps-end T old now new first task p q = keeps_known_then old now new p.keeps q

-- what isn't known later wasn't known before
unknown-before : (old now : List Context) (c : Context) → KeepsKnown old now → IsUnknown now c → IsUnknown old c
unknown-before old now c p u i low e =
    u i (p.known (tag_of i) low) (p.same (tag_of i) low ∙ e)

pub unknown-on : (T : Table) (old now : List Context) (first task : Task) → Passes T old now first task
    → EntersUnknown now (passed_contexts T 1 (plain_task now task)) → EntersUnknown old (way T old first)
unknown-on T old now first task p u = (u.0, entered-on T old now first task p u.0 u.1, unknown-before old now u.0 p.keeps u.2)

-- a frozen time goes on with its subject, in the context that it enters
frozen-moved : (T : Table) (x : PlainTask) (a : ℕ) → row_at T x.node ≡ Some (Freeze a) → node_of T x ≡ node_by T (Freeze a)
    → Some (record x { node = a; context = frozen_frame x.time x.context }) ≡ moved T x
frozen-moved T x a h is =
    let on : Option Node → Option PlainTask = λ o.
    option_map (λ n. record x { node = n; context = frozen_frame x.time x.context }) (option_and_then (λ n. slice_get (parts n) 0) o) in
    sym (ap (moved_by T x) is ∙ ap on h)

-- a frozen time's context is that of one move
pub frozen-way : (T : Table) (x : PlainTask) (a : ℕ) → row_at T x.node ≡ Some (Freeze a) → node_of T x ≡ node_by T (Freeze a)
    → In (frozen_frame x.time x.context) (passed_contexts T 1 x)
frozen-way T x a h is = subst (λ o. In (frozen_frame x.time x.context) (on_with o [] (λ y. y.context ∷ []))) (frozen-moved T x a h is) (inl refl)
