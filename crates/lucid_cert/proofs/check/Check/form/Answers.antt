use Rattle.lucid_cert.proofs.CheckCommon.{Some, arith, context_there, is_of_context}
use Rattle.lucid_cert.proofs.Using.{by_slice}
use Rattle.lucid_cert.proofs.check.Check.form.Goals as goal

pub returns : goal.returns
returns c =
    let known = c.args.self.now.tags in
    let tags = c.args.self.now.contexts.items in
    let n = c.args.row.now.context in
    let tag = c.in_ok-context.context in
    let is = by_slice c.as_slice.result.now tags n c.context_at.result (Some tag) c.as_slice.ensures.value c.context_at.ensures c.in_ok-context.was in
    record {
      form = record { time = omega arith; space = omega arith; node = omega (arith, c.nodes.ensures); context = context_there known tags n tag is };
      is_context = is_of_context known tags n tag c.requires.contexts is;
      row = c.node.ensures.row;
      meaning = c.node.ensures.meaning;
      in_range = c.node.ensures.in_range.1;
    }
