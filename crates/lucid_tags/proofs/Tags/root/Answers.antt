use Rattle.lucid_tags.proofs.Common.{ap, ◌∙◌, arith, context_at}
use Rattle.lucid_tags.proofs.TagLemmas.{seen-one_for_one, seen-length, seen-first}
use Rattle.lucid_tags.proofs.Tags.root.Goals as goal

pub returns-clause-known : goal.returns-clause-known
returns-clause-known c = omega (arith, seen-length c.self.inside.table.rows.keys _ c.self.view_is)

pub returns-clause-context : goal.returns-clause-context
returns-clause-context c =
    ap (context_at c.args.self.now) c.of_context.ensures.context ∙ seen-first c.self.inside.table.rows.keys c.args.self.now c.self.view_is

pub returns-clause-one_for_one : goal.returns-clause-one_for_one
returns-clause-one_for_one c = seen-one_for_one c.self.inside.table.rows.keys _ c.self.view_is c.self.invariant
