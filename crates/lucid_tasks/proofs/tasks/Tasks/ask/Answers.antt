use Rattle.lucid_tasks.proofs.Common.{◌≡◌, ◌≤◌, ℕ, List, [], ◌∷◌, ◌++◌, ◌==◌, cond, false, Option, Some, None, IfSome, vec_len, refl, sym, subst, ap, rules, ◌∙◌, vec_capacity, is_listed, RiseFrom, TaskRow, AreTasks, IsIdlePart, SetsOnly, ChangesOnly, fresh, with_part, Asked}
use Rattle.lucid_tasks.proofs.CallLemmas.{stays_listed, pushed_after}
use Rattle.lucid_tasks.proofs.TaskLemmas.{begun_tasks, asked_tasks}
use Rattle.lucid_tasks.proofs.tasks.Tasks.ask.Goals as goal
use Rattle.lucid_tasks.proofs.tasks.Tasks.ask.Goals.{in-Some, then-is_ready, else-is_ready, in_default}

pub invariant_of-self-2 : goal.invariant_of-self-2
invariant_of-self-2 c =
    let old = c.self.inside.rows in
    let mid = c.add.new.self in
    let slot = c.in_ok-slot.slot in
    let room : vec_len c.push_reserved.new.self ≤ vec_capacity c.push_reserved.new.self = search rules in (
      elim c.match-part.branch [
        | in-Some w ↦
            let part = w.in-Some.part in
            let own : IsIdlePart old part = subst (λ v. IsIdlePart v part) (sym c.self.view_is)
            (subst (λ o. IfSome o (IsIdlePart c.args.self.now)) w.in-Some.is c.requires) in
            let sets : SetsOnly old mid slot (Some (fresh c.args.task (Some part) c.args.key)) =
            subst (λ o. SetsOnly old mid slot (Some (fresh c.args.task o c.args.key))) w.in-Some.is c.in_ok-slot.ensures.row in
            let rows : w.if-is_ready.self-inside.rows ≡ mid = elim w.if-is_ready.branch [
              | then-is_ready u ↦ rw u.self-inside-is refl
              | else-is_ready u ↦ rw u.self-inside-is refl
            ] in
            let left : RiseFrom 0 w.if-is_ready.self-inside.ready.items
            × ((q : ℕ) → is_listed w.if-is_ready.self-inside.ready.items q ≡ cond (q == part.slot) false (is_listed c.self.inside.ready.items q)) =
            elim w.if-is_ready.branch [
              | then-is_ready u ↦ rw u.self-inside-is (
                u.remove_slot.ensures.rising,
                λ q. u.remove_slot.ensures.listed q
                    ∙ ap (λ (xs : List ℕ). cond (q == part.slot) false (is_listed xs q)) c.reserve.ensures.items,
              )
              | else-is_ready u ↦ rw (u.self-inside-is, c.reserve.ensures.items) (
                c.self.invariant.0.rising,
                stays_listed old mid part slot c.args.task c.args.key sets c.in_ok-slot.ensures.newest own.row c.self.inside.ready.items c.self.invariant.0
                    (sym w.is_ready.ensures ∙ u.if-is_ready.false),
              )
            ] in
            let listed : c.match-part.self-inside.ready.items ≡ w.if-is_ready.self-inside.ready.items = rw w.self-inside-is refl in
            let done : c.match-part.self-inside.rows ≡ w.mark_asked.new.self = rw w.self-inside-is refl in
            let after = pushed_after old mid part slot c.args.task c.args.key sets c.in_ok-slot.ensures.newest own.row c.self.inside.ready.items
            c.self.invariant.0 w.if-is_ready.self-inside.ready.items c.push_reserved.new.self.items left.0 left.1
            (c.push_reserved.ensures.items ∙ ap (λ (xs : List ℕ). xs ++ slot ∷ []) listed) in
            subst (λ (v : List (Option TaskRow)). AreTasks v c.push_reserved.new.self.items) (sym done)
            (asked_tasks old mid w.mark_asked.new.self part slot c.args.task c.args.key sets c.in_ok-slot.ensures.newest
            (subst (λ (v : List (Option TaskRow)). ChangesOnly v w.mark_asked.new.self part.slot (with_part part.index (Asked slot))) rows w.mark_asked.ensures)
            own.row own.index own.idle
            c.self.inside.ready.items c.self.invariant.0 c.push_reserved.new.self.items after.0 after.1)
        | in_default w ↦
            let sets : SetsOnly old mid slot (Some (fresh c.args.task None c.args.key)) =
            subst (λ o. SetsOnly old mid slot (Some (fresh c.args.task o c.args.key))) w.in_default.is c.in_ok-slot.ensures.row in
            let listed : c.match-part.self-inside.ready.items ≡ c.self.inside.ready.items = rw (w.self-inside-is, c.reserve.ensures.items) refl in
            let done : c.match-part.self-inside.rows ≡ mid = rw w.self-inside-is refl in
            subst (λ (v : List (Option TaskRow)). AreTasks v c.push_reserved.new.self.items) (sym done)
            (subst (λ (xs : List ℕ). AreTasks mid xs) (sym (c.push_reserved.ensures.items ∙ ap (λ (xs : List ℕ). xs ++ slot ∷ []) listed))
            (begun_tasks old mid slot c.args.task c.args.key sets c.in_ok-slot.ensures.newest c.self.inside.ready.items c.self.invariant.0))
      ],
      room,
    )
