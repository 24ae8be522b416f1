-- What asking leads to: why what is set and asked for at last was so for what was wanted first, and what is so where nothing else is wanted.
use Rattle.lucid_demand.proofs.Common.{ℕ, List, Option, None, refl, sym, subst, IsErrAnd, IsSome, Value, Key, IsKnown, KeepsKnown, Task, TaskRow, Evaluating, DemandFault, SetsPart}
use Rattle.std.proofs.Common.{◌≡◌, ◌<◌, Some, length}
use Rattle.std.specs.Prelude.{IfSome, IfOk, Result, Ok, Err, ⊤}
use Rattle.lucid_tasks.specs.declared.Part.{Part}
use Rattle.lucid_tasks.specs.Rows.{IsIdlePart, IsPast, Asks}
use Rattle.lucid_demand.specs.declared.operators.Wanted.{Wanted}
use Rattle.lucid_demand.specs.Telling.{HasFirst}
use Rattle.lucid_demand.specs.Leading.{LeadsTo, OnDone}
use Rattle.lucid_demand.proofs.TakenParts.{err_is}
use Rattle.lucid_demand.proofs.AskedParts.{Passes, passes_known, sets_then}
use Rattle.lucid_demand.proofs.NamedBodies.{row_sets, within_sets}
use Rattle.lucid_demand.proofs.AskedOperators.{made_sets}

-- a part is one
itself : (p : Option Part) → IfSome p (λ q. IsSome p)
itself None = tt
itself (Some q) = refl

pub any_part : (p : Option Part) (sub : Part) → IfSome p (λ q. IsSome (Some sub))
any_part None sub = tt
any_part (Some q) sub = refl

-- and what is for a part leads to what is for one
on_part : (a b c : Option Part) → IfSome a (λ p. IsSome b) → IfSome b (λ p. IsSome c) → IfSome a (λ p. IsSome c)
on_part None b c h g = tt
on_part (Some p) None c h g = absurd (cc)
on_part (Some p) (Some q) c h g = g

-- Where there is no answer for what is wanted then, there is none for what was wanted first, if that was for a part.
pub open_leads : (old now : Evaluating) (a b : Wanted) → LeadsTo old now a b → (answer : Option Value) → IfSome b.part (λ p. answer ≡ None)
    → IfSome a.part (λ p. answer ≡ None)
open_leads old now a b l answer none = by_parts a.part b.part l.for_part none
  where
    by_parts : (p q : Option Part) → IfSome p (λ x. IsSome q) → IfSome q (λ x. answer ≡ None) → IfSome p (λ x. answer ≡ None)
    by_parts None q h n = tt
    by_parts (Some p) None h n = absurd (cc)
    by_parts (Some p) (Some q) h n = n

-- It leads to itself,
pub leads_here : (now : Evaluating) (a : Wanted) → IfSome a.part (IsIdlePart now.rows) → a.task.node < length now.engine.table.nodes
    → IsKnown now.engine.known a.task.tag → LeadsTo now now a a
leads_here now a idle there known = record { for_part = itself a.part; idle = idle; there = there; known = known; sets = λ new s. s; asks = λ i new result last x may. last x may }

-- and on.
pub leads_on : (old mid now : Evaluating) (a b c : Wanted) → LeadsTo old mid a b → LeadsTo mid now b c → LeadsTo old now a c
leads_on old mid now a b c p q = record {
  for_part = on_part a.part b.part c.part p.for_part q.for_part;
  idle = q.idle;
  there = q.there;
  known = q.known;
  sets = λ new s. p.sets new (q.sets new s);
  asks = λ i new result last x may. p.asks i new result (λ y m. q.asks i new result last y m) x may;
}

-- What is set of a new row's part, once more contexts are known, leaves what was set before.
pub leads_sets : (old looked mid now new : Evaluating) → Passes old looked → Passes mid now → (part : Option Part) (sub : Part)
    → IfSome part (IsIdlePart looked.rows) → IsPast looked.rows sub.slot → IfSome part (SetsPart looked mid) → SetsPart now new sub
    → IfSome part (SetsPart old new)
leads_sets old looked mid now new first last part sub idle past made s =
    sets_then old looked new first part (within_sets looked mid new part sub idle past made (sets_then mid now new last (Some sub) s))

-- a refusal wants nothing else
pub done_err : (r : Result (Option Wanted) DemandFault) (x : DemandFault) (P : Result ⊤ DemandFault → Type 0) → IsErrAnd r (λ e. e ≡ x) → P (Err x)
    → OnDone r P
done_err r x P h p = subst (λ z. OnDone z P) (sym (err_is r x h)) p

-- nor does what gives back nothing
pub none_next : (r : Result (Option Wanted) DemandFault) (P : Wanted → Type 0) → IfOk r (λ next. next ≡ None) → IfOk r (λ next. IfSome next P)
none_next (Ok next) P none = subst (λ o. IfSome o P) (sym none) tt
none_next (Err fault) P none = tt

-- What is so where it is done follows from what is so there.
pub on_done : (r : Result (Option Wanted) DemandFault) (P Q : Result ⊤ DemandFault → Type 0) → ((z : Result ⊤ DemandFault) → P z → Q z) → OnDone r P → OnDone r Q
on_done (Ok None) P Q f p = f (Ok tt) p
on_done (Ok (Some next)) P Q f p = tt
on_done (Err fault) P Q f p = f (Err fault) p

-- So it is of the first part of a row that was made after a look, where the engine was seen so.
pub first_leads : (old looked o now new : Evaluating) → Passes old looked → o ≡ looked → (part : Option Part) (y : Task) (key : Option Key)
    → IfSome part (IsIdlePart old.rows) → (rs : List (Option TaskRow)) (slot : ℕ) → IsPast o.rows slot → Asks o.rows rs part slot y key
    → now.rows ≡ rs → now.engine ≡ record o.engine { known = now.engine.known } → KeepsKnown o.engine.known now.engine.known
    → SetsPart now new (record { slot = slot; index = 0 }) → IfSome part (SetsPart old new)
first_leads old looked o now new passes view part y key idle rs slot past asks same only keeps s =
    leads_sets old looked (record { engine = o.engine; rows = rs }) now new passes
    (passes_known (record { engine = o.engine; rows = rs }) now same only keeps) part (record { slot = slot; index = 0 }) idle_looked
    (subst (λ (e : Evaluating). IsPast e.rows slot) view past) (row_sets o looked view part y key idle_looked rs slot past asks) s
  where
    idle_looked : IfSome part (IsIdlePart looked.rows)
    idle_looked = subst (λ rs. IfSome part (IsIdlePart rs)) (sym passes.rows_stay) idle

-- And of the second part of one that was made with its first.
module _ (old e made : Evaluating) (passes : Passes old e) (part : Option Part) (slot : ℕ) (y : Task) (key : Option Key) (first : Value)
    (h : HasFirst e.rows made.rows part slot y key first) (same : made.engine ≡ e.engine) (idle : IfSome part (IsIdlePart old.rows)) where
  idle_then : IfSome part (IsIdlePart e.rows)
  idle_then = subst (λ rs. IfSome part (IsIdlePart rs)) (sym passes.rows_stay) idle

  pub row_with_sets : IfSome part (SetsPart old made)
  row_with_sets = sets_then old e made passes part (made_sets e made part slot y key first h same idle_then)

  pub second_leads : (now new : Evaluating) → now.rows ≡ made.rows → now.engine ≡ record made.engine { known = now.engine.known }
      → KeepsKnown made.engine.known now.engine.known → SetsPart now new (record { slot = slot; index = 1 }) → IfSome part (SetsPart old new)
  second_leads now new rows only keeps s =
      leads_sets old e made now new passes (passes_known made now rows only keeps) part (record { slot = slot; index = 1 }) idle_then h.past
      (made_sets e made part slot y key first h same idle_then) s

-- what is so of each outcome by a premise
pub done_from : (r : Result (Option Wanted) DemandFault) (A : Type 0) (P : Result ⊤ DemandFault → Type 0) → (A → OnDone r P) → OnDone r (λ z. A → P z)
done_from (Ok None) A P f = f
done_from (Ok (Some next)) A P f = tt
done_from (Err fault) A P f = f
