use Rattle.lucid_compile.proofs.Common.{◌≡◌, ◌+◌, length, [], ◌∷◌, ◌++◌, drop, sym, ap, ◌∙◌, subst, arith, block, nodes_in_defs, operands, Freeze, ScopeRow, Here, lists, OneScope, linked, AddsTree, AddsTrees, AddsDefs, rules, tree_of, Block, Frozen}
use Rattle.std.proofs.lemmas.List.{append-nil}
use Rattle.std.proofs.lemmas.Result.{on_ok_weaker}
use Rattle.lucid_tree.specs.Size.{nodes_in}
use Rattle.lucid_compile.specs.declared.building.Rows.{Rows}
use Rattle.lucid_compile.proofs.Adding.{if_ok, not-both, no_trees-added, tree-then, no_defs-added, defs-then, right-added, frozen-opened, open-added}
use Rattle.lucid_compile.proofs.LinkedRows.{scope-linked, node-linked}
use Rattle.lucid_compile.proofs.Waiting.{none-waits, all-before, one-waits, before-kept, still-within}
use Rattle.lucid_compile.proofs.compiler.+compile.Goals.{add_block-then-frozen+in_ok-inside, add_block-else-frozen}
use Rattle.lucid_compile.proofs.compiler.+compile.Goals as goal

pub add_operands-loop-part-init : goal.add_operands-loop-part-init
add_operands-loop-part-init t c =
    let is : c.into_iter-part-iterator.result ≡ operands c.args.tree.now = search rules in
    let all : c.len-before.result ≡ length c.args.ids.now.items = omega arith in (
      tt,
      tt,
      λ w n more a. subst (λ l. AddsTrees w (linked w c.args.rows.now) n c.args.here (operands c.args.tree.now) (l ++ more))
          (sym (none-waits c.args.ids.now.items c.len-before.result all))
          (subst (λ es. AddsTrees w (linked w c.args.rows.now) n c.args.here es more) is a),
      omega arith,
      all-before c.args.ids.now.items c.len-before.result all,
      omega (arith, ap nodes_in is),
    )

pub add_operands-loop-part-preserved : goal.add_operands-loop-part-preserved
add_operands-loop-part-preserved t c =
    let more_waits : c.push.new.self.items ≡ c.loop-part.ids.items ++ c.in_ok-id.id ∷ [] = c.in_ok-push.ensures.items
    ∙ ap (λ l. l ++ c.in_ok-id.id ∷ []) c.in_ok-id.ensures.waiting in (
      tt,
      tt,
      λ w n more a. subst (AddsTrees w (linked w c.args.rows.now) n c.args.here (operands c.args.tree.now))
          (one-waits c.loop-part.ids.items c.push.new.self.items more c.len-before.result c.in_ok-id.id c.loop-part.invariant.3 more_waits)
          (c.loop-part.invariant.2 w n (c.in_ok-id.id ∷ more)
          (subst (λ es. AddsTrees w (linked w c.loop-part.rows) n c.args.here es (c.in_ok-id.id ∷ more)) (sym c.in-Some.ensures.steps)
          (tree-then w (linked w c.loop-part.rows) (linked w c.add_tree.new.rows) n c.args.here c.in-Some.part.now c.next.new.self c.in_ok-id.id more
          (c.in_ok-id.ensures.adds w) a))),
      still-within c.loop-part.ids.items c.push.new.self.items c.len-before.result c.in_ok-id.id c.loop-part.invariant.3 more_waits,
      before-kept c.loop-part.ids.items c.push.new.self.items c.args.ids.now.items c.len-before.result c.in_ok-id.id c.loop-part.invariant.3 more_waits
          c.loop-part.invariant.4,
      omega (arith, ap nodes_in c.in-Some.ensures.steps, c.loop-part.invariant.5),
    )

pub add_operands-returns : goal.add_operands-returns
add_operands-returns t c = record {
  waiting = on_ok_weaker c.add_node.result (λ e. e ∙ c.loop-part.invariant.4) c.add_node.ensures.waiting;
  adds = if_ok c.add_node.result _ _ c.add_node.ensures.adds (λ id s w.
      s w (linked w c.args.rows.now) (subst (AddsTrees w (linked w c.args.rows.now) (linked w c.loop-part.rows) c.args.here (operands c.args.tree.now))
      (append-nil (drop c.len-before.result c.loop-part.ids.items))
      (c.loop-part.invariant.2 w (linked w c.loop-part.rows) []
      (subst (λ es. AddsTrees w (linked w c.loop-part.rows) (linked w c.loop-part.rows) c.args.here es []) (sym c.in-None.ensures.steps.0)
      (no_trees-added w (linked w c.loop-part.rows) c.args.here)))));
}

pub add_tree-returns-in-Scope-clause-adds : goal.add_tree-returns-in-Scope-clause-adds
add_tree-returns-in-Scope-clause-adds t c =
    let at = c.tree.inside.at in
    let is : block at c.deref.result.now.subject c.deref.result.now.defs ≡ c.args.tree.now = ap (λ (b : Block). block at b.subject b.defs) c.deref.ensures
    ∙ sym (ap (tree_of at) c.in-Scope.is) ∙ c.tree.view_is in
    if_ok c.add_block.result _ _ c.add_block.ensures.adds
    (λ id s w. subst (λ e. AddsTree w (linked w c.args.rows.now) (linked w c.add_block.new.rows) c.args.here e id) is (s w at))

pub add_block-loop-def-init : goal.add_block-loop-def-init
add_block-loop-def-init t c =
    let is : c.into_iter-def-iterator.result ≡ c.args.block.now.defs = search rules in (
      tt,
      tt,
      λ w n a. subst (AddsDefs w (linked w c.add_tree.new.rows) n c.if-frozen.inside c.args.here) is a,
      c.in_ok-subject.ensures.waiting,
      omega (arith, ap nodes_in_defs is),
    )

pub add_block-loop-def-preserved : goal.add_block-loop-def-preserved
add_block-loop-def-preserved t c =
    let count : c.in_ok-first.first ≡ length c.loop-def.rows.names.items = omega arith in (
      tt,
      tt,
      λ w n a. c.loop-def.invariant.2 w n (subst (AddsDefs w (linked w c.loop-def.rows) n c.if-frozen.inside c.args.here) (sym c.in-Some.ensures.steps)
          (defs-then w (linked w c.loop-def.rows) (linked w c.close_right.new.rows) n c.if-frozen.inside c.args.here c.in-Some.def.now c.next.new.self
          (right-added w (linked w c.loop-def.rows) (linked w c.open_right.new.rows) (lists c.add_tree-in-loop-def.new.rows) (lists c.close_right.new.rows)
          c.if-frozen.inside c.args.here c.in_ok-right.right c.in-Some.def.now c.in_ok-first.first c.in_ok-body.body (c.in_ok-right.ensures w)
          (subst (λ e. AddsTree w (linked w c.open_right.new.rows) (linked w c.add_tree-in-loop-def.new.rows) c.in_ok-right.right e c.in_ok-body.body)
          c.right.ensures (c.in_ok-body.ensures.adds w)) count c.in_ok-close_right.ensures) a)),
      c.in_ok-body.ensures.waiting ∙ c.loop-def.invariant.3,
      search rules,
    )

pub add_block-returns-then-frozen-2-clause-adds : goal.add_block-returns-then-frozen-2-clause-adds
add_block-returns-then-frozen-2-clause-adds t c =
    let row : ScopeRow = record { parent = c.args.here.scope; kind = Frozen } in
    let opens : OneScope (lists c.args.rows.now) (lists c.if-frozen.rows) row c.if-frozen.inside.scope
    × (c.if-frozen.inside.level ≡ c.args.here.level + 1) = elim c.if-frozen.branch [
      | add_block-then-frozen+in_ok-inside v ↦ (
        subst (λ (r : Rows). OneScope (lists c.args.rows.now) (lists r) row c.if-frozen.inside.scope) (sym v.rows-is)
            (subst (λ (i : Here). OneScope (lists c.args.rows.now) (lists v.opened.new.rows) row i.scope) (sym v.inside-is) v.in_ok-inside.ensures.scope),
        ap (λ (i : Here). i.level) v.inside-is ∙ v.in_ok-inside.ensures.level,
      )
      | add_block-else-frozen v ↦ absurd (not-both c.has_frame-frozen.result c.if-frozen-2.true v.if-frozen.false)
    ] in
    if_ok c.push.result _ _ c.push.ensures (λ id s w.
    frozen-opened w (linked w c.args.rows.now) (linked w c.if-frozen.rows) (linked w c.add_tree.new.rows) (linked w c.loop-def.rows) (linked w c.push.new.self)
    c.args.here c.if-frozen.inside c.args.block.now.subject c.args.block.now.defs c.in_ok-subject.subject id
    (sym c.has_frame-frozen.ensures ∙ c.if-frozen-2.true) (scope-linked w (lists c.args.rows.now) (lists c.if-frozen.rows) row c.if-frozen.inside.scope opens.0)
    opens.1 (c.in_ok-subject.ensures.adds w)
    (c.loop-def.invariant.2 w (linked w c.loop-def.rows)
    (subst (AddsDefs w (linked w c.loop-def.rows) (linked w c.loop-def.rows) c.if-frozen.inside c.args.here) (sym c.in-None.ensures.steps.0)
    (no_defs-added w (linked w c.loop-def.rows) c.if-frozen.inside c.args.here)))
    (node-linked w (lists c.loop-def.rows) (lists c.push.new.self) (record { scope = c.args.here.scope; node = Freeze c.in_ok-subject.subject }) id s))

pub add_block-returns-else-frozen-2-clause-adds : goal.add_block-returns-else-frozen-2-clause-adds
add_block-returns-else-frozen-2-clause-adds t c = λ w.
    let same : (c.if-frozen.rows ≡ c.args.rows.now) × (c.if-frozen.inside ≡ c.args.here) = elim c.if-frozen.branch [
      | add_block-then-frozen+in_ok-inside v ↦ absurd (not-both c.has_frame-frozen.result v.if-frozen.true c.if-frozen-2.false)
      | add_block-else-frozen v ↦ (v.rows-is, v.inside-is)
    ] in
    open-added w (linked w c.args.rows.now) (linked w c.add_tree.new.rows) (linked w c.loop-def.rows) c.args.here c.args.block.now.subject c.args.block.now.defs
    c.in_ok-subject.subject (sym c.has_frame-frozen.ensures ∙ c.if-frozen-2.false)
    (subst (λ (r : Rows). AddsTree w (linked w r) (linked w c.add_tree.new.rows) c.args.here c.args.block.now.subject c.in_ok-subject.subject) same.0
    (subst (λ (i : Here). AddsTree w (linked w c.if-frozen.rows) (linked w c.add_tree.new.rows) i c.args.block.now.subject c.in_ok-subject.subject) same.1
    (c.in_ok-subject.ensures.adds w)))
    (subst (λ (i : Here). AddsDefs w (linked w c.add_tree.new.rows) (linked w c.loop-def.rows) i c.args.here c.args.block.now.defs) same.1
    (c.loop-def.invariant.2 w (linked w c.loop-def.rows)
    (subst (AddsDefs w (linked w c.loop-def.rows) (linked w c.loop-def.rows) c.if-frozen.inside c.args.here) (sym c.in-None.ensures.steps.0)
    (no_defs-added w (linked w c.loop-def.rows) c.if-frozen.inside c.args.here))))
