use Rattle.std.proofs.Common.{◌≡◌, ◌∙◌, arith, subst}
use Rattle.lucid_tags.specs.Contexts.{root}
use Rattle.lucid_tags.specs.Known.{context_of, number_of}
use Rattle.lucid_tags.specs.declared.Tag.{Tag}
use Rattle.lucid_cert_rules.proofs.RowsOf.{all_known, no_rows, row_pushed, shown_more}
use Rattle.lucid_cert_rules.proofs.contexts.rows_of.Goals as goal

pub loop-number-init : goal.loop-number-init
loop-number-init c =
    no_rows c.args.tags.now c.new-rows.result.items c.new-rows.ensures.items (omega arith)
    (subst (λ (t : Tag). context_of c.args.tags.now t ≡ root) c.root.ensures.tag c.root.ensures.context)

pub loop-number-preserved : goal.loop-number-preserved
loop-number-preserved c =
    let at : number_of c.numbered-tag.result ≡ c.loop-number.number = omega (arith, c.in-Ok.ensures, c.numbered-tag.ensures.context) in (
      λ places are.
          row_pushed places c.args.tags.now c.loop-number.number c.numbered-tag.result c.loop-number.rows.items c.push.new.self.items c.row_of.result at
          (omega (arith, c.loop-number-test.true, c.count-count.ensures.count))
          (c.loop-number.invariant.0 places are) (c.row_of.ensures.context places are) c.in_ok-push.ensures.items,
      shown_more c.loop-number.rows.items c.push.new.self.items c.row_of.result c.loop-number.invariant.1 c.row_of.ensures.shown c.in_ok-push.ensures.items,
    )

pub returns-clause-contexts : goal.returns-clause-contexts
returns-clause-contexts c = λ places are.
    c.loop-number.invariant.0 places are ∙ all_known c.args.tags.now c.loop-number.number (omega arith)
