use Rattle.lucid_tasks.proofs.Common.{◌≡◌, true, cond, ◌==◌, sym, subst, ap, ◌∙◌, arith, is_listed, row_at, is_ready}
use Rattle.lucid_tasks.proofs.TaskLemmas.{settled_root, part_row, now_is_row, part_waits, settled_part, not_added}
use Rattle.lucid_tasks.proofs.tasks.Tasks.settle.Goals as goal

pub invariant_of-self : goal.invariant_of-self
invariant_of-self c = (
  settled_root c.self.inside.rows c.args.slot c.self.inside.ready.items c.remove_slot.new.slots.items c.self.invariant.0
      (subst (λ v. is_ready (row_at v c.args.slot) ≡ true) (sym c.self.view_is) c.requires) c.remove_slot.ensures.listed c.remove-parent.new.self
      c.remove-parent.ensures.rows (sym c.in_default.ensures.parent) c.remove_slot.ensures.rising,
  omega (arith, c.remove_slot.ensures.room),
)

pub give-requires-clause-row : goal.give-requires-clause-row
give-requires-clause-row c = part_row c.self.inside.rows c.args.slot c.self.inside.ready.items c.remove_slot.new.slots.items c.self.invariant.0
    (subst (λ v. is_ready (row_at v c.args.slot) ≡ true) (sym c.self.view_is) c.requires) c.remove_slot.ensures.listed c.remove-parent.new.self
    c.remove-parent.ensures.rows c.in-Some.part (sym c.in-Some.ensures.parent)

pub is_ready-requires : goal.is_ready-requires
is_ready-requires c = now_is_row c.self.inside.rows c.args.slot c.self.inside.ready.items c.remove_slot.new.slots.items c.self.invariant.0
    (subst (λ v. is_ready (row_at v c.args.slot) ≡ true) (sym c.self.view_is) c.requires) c.remove_slot.ensures.listed c.remove-parent.new.self
    c.remove-parent.ensures.rows c.in-Some.part (sym c.in-Some.ensures.parent) c.args.value c.give.new.self c.give.ensures

pub insert_slot-requires-clause-absent : goal.insert_slot-requires-clause-absent
insert_slot-requires-clause-absent c = part_waits c.self.inside.rows c.args.slot c.self.inside.ready.items c.remove_slot.new.slots.items c.self.invariant.0
    (subst (λ v. is_ready (row_at v c.args.slot) ≡ true) (sym c.self.view_is) c.requires) c.remove_slot.ensures.listed c.remove-parent.new.self
    c.remove-parent.ensures.rows c.in-Some.part (sym c.in-Some.ensures.parent)

pub invariant_of-self-then-is_ready : goal.invariant_of-self-then-is_ready
invariant_of-self-then-is_ready c = (
  settled_part c.self.inside.rows c.args.slot c.self.inside.ready.items c.remove_slot.new.slots.items c.self.invariant.0
      (subst (λ v. is_ready (row_at v c.args.slot) ≡ true) (sym c.self.view_is) c.requires) c.remove_slot.ensures.listed c.remove-parent.new.self
      c.remove-parent.ensures.rows c.in-Some.part (sym c.in-Some.ensures.parent) c.args.value c.give.new.self c.give.ensures c.insert_slot.new.slots.items
      c.insert_slot.ensures.rising
      (λ q. c.insert_slot.ensures.listed q ∙ ap (λ b. cond (q == c.in-Some.part.slot) b (is_listed c.remove_slot.new.slots.items q))
      (sym c.if-is_ready.true ∙ c.is_ready.ensures)),
  c.insert_slot.ensures.room,
)

pub invariant_of-self-else-is_ready : goal.invariant_of-self-else-is_ready
invariant_of-self-else-is_ready c = (
  settled_part c.self.inside.rows c.args.slot c.self.inside.ready.items c.remove_slot.new.slots.items c.self.invariant.0
      (subst (λ v. is_ready (row_at v c.args.slot) ≡ true) (sym c.self.view_is) c.requires) c.remove_slot.ensures.listed c.remove-parent.new.self
      c.remove-parent.ensures.rows c.in-Some.part (sym c.in-Some.ensures.parent) c.args.value c.give.new.self c.give.ensures c.remove_slot.new.slots.items
      c.remove_slot.ensures.rising
      (not_added c.self.inside.rows c.args.slot c.self.inside.ready.items c.remove_slot.new.slots.items c.self.invariant.0
      (subst (λ v. is_ready (row_at v c.args.slot) ≡ true) (sym c.self.view_is) c.requires) c.remove_slot.ensures.listed c.remove-parent.new.self
      c.remove-parent.ensures.rows c.in-Some.part (sym c.in-Some.ensures.parent) c.args.value c.give.new.self c.give.ensures
      (sym c.is_ready.ensures ∙ c.if-is_ready.false)),
  omega (arith, c.remove_slot.ensures.room),
)
