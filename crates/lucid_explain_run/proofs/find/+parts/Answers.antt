use Rattle.std.proofs.Common.{◌≡◌, rules, true, false, ap, sym, ◌∙◌, List, Option, arith}
use Rattle.std.specs.Prelude.{is_some}
use Rattle.std.specs.List.{find}
use Rattle.std.specs.Option.{option_or}
use Rattle.lucid_tree.specs.Tree.{PlainTree, PlainTrees, PlainDefs}
use Rattle.lucid_tree.specs.Rights.{right_of}
use Rattle.lucid_tree.specs.Size.{nodes_in, nodes_in_defs}
use Rattle.lucid_explain_run.specs.Parts.{all_parts, parts_in, parts_in_defs, stands_at, part_at}
use Rattle.lucid_explain_run.proofs.Finding.{find_in_both, found-first, not-first, parts-of-def, def-nodes}
use Rattle.lucid_explain_run.proofs.find.+parts.Goals as goal

pub part_in-returns-then-is_some : goal.part_in-returns-then-is_some
part_in-returns-then-is_some t c =
    let at = c.args.at in
    let some : is_some c.part_at-found.result ≡ true = search (rules, c.if-is_some.true, c.is_some.ensures) in
    found-first at c.in-Some.part.now (parts_in c.next.new.self) c.part_at-found.result c.part_at-found.ensures some
    ∙ ap (λ (es : PlainTrees). find (stands_at at) (parts_in es)) (sym c.in-Some.ensures.steps) ∙ c.loop-part.invariant.2

pub part_in-loop-part-preserved : goal.part_in-loop-part-preserved
part_in-loop-part-preserved t c =
    let at = c.args.at in
    let none : is_some c.part_at-found.result ≡ false = search (rules, c.if-is_some.false, c.is_some.ensures) in (
      tt,
      tt,
      sym (not-first at c.in-Some.part.now (parts_in c.next.new.self) c.part_at-found.result c.part_at-found.ensures none)
          ∙ ap (λ (es : PlainTrees). find (stands_at at) (parts_in es)) (sym c.in-Some.ensures.steps) ∙ c.loop-part.invariant.2,
      omega (arith, ap nodes_in c.in-Some.ensures.steps, c.loop-part.invariant.3),
    )

pub part_in_defs-returns-then-is_some : goal.part_in_defs-returns-then-is_some
part_in_defs-returns-then-is_some t c =
    let at = c.args.at in
    let d = c.in-Some.def.now in
    let others = c.next.new.self in
    let some : is_some c.part_at-found.result ≡ true = search (rules, c.if-is_some.true, c.is_some.ensures) in
    found-first at (right_of d.kind) (parts_in_defs others) c.part_at-found.result (c.part_at-found.ensures ∙ ap (λ (e : PlainTree). part_at e at) c.right.ensures) some
    ∙ ap (λ (xs : List PlainTree). find (stands_at at) xs) (sym (parts-of-def d others))
    ∙ ap (λ (ds : PlainDefs). find (stands_at at) (parts_in_defs ds)) (sym c.in-Some.ensures.steps) ∙ c.loop-def.invariant.2

pub part_in_defs-loop-def-preserved : goal.part_in_defs-loop-def-preserved
part_in_defs-loop-def-preserved t c =
    let at = c.args.at in
    let d = c.in-Some.def.now in
    let others = c.next.new.self in
    let none : is_some c.part_at-found.result ≡ false = search (rules, c.if-is_some.false, c.is_some.ensures) in (
      tt,
      tt,
      sym (not-first at (right_of d.kind) (parts_in_defs others) c.part_at-found.result (c.part_at-found.ensures ∙ ap (λ (e : PlainTree). part_at e at) c.right.ensures) none)
          ∙ ap (λ (xs : List PlainTree). find (stands_at at) xs) (sym (parts-of-def d others))
          ∙ ap (λ (ds : PlainDefs). find (stands_at at) (parts_in_defs ds)) (sym c.in-Some.ensures.steps) ∙ c.loop-def.invariant.2,
      omega (arith, ap nodes_in_defs c.in-Some.ensures.steps, def-nodes d others, c.loop-def.invariant.3),
    )

pub part_in_block-returns-in-Some : goal.part_in_block-returns-in-Some
part_in_block-returns-in-Some t c =
    let others = parts_in_defs c.args.defs.now in
    ap (λ (r : Option PlainTree). option_or r (find (stands_at c.args.at) others)) c.in-Some.ensures
    ∙ sym (find_in_both c.args.at (all_parts c.args.subject.now) others)

pub part_in_block-returns-in-None : goal.part_in_block-returns-in-None
part_in_block-returns-in-None t c =
    let others = parts_in_defs c.args.defs.now in
    c.part_in_defs.ensures
    ∙ ap (λ (r : Option PlainTree). option_or r (find (stands_at c.args.at) others)) c.in-None.ensures
    ∙ sym (find_in_both c.args.at (all_parts c.args.subject.now) others)
