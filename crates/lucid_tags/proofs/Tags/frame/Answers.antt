use Rattle.lucid_tags.proofs.Common.{ap, ◌∙◌, refl, context_at}
use Rattle.lucid_tags.proofs.TagLemmas.{seen-first}
use Rattle.lucid_tags.proofs.Tags.frame.Goals as goal

pub returns-then-tag-eq0-clause-empty : goal.returns-then-tag-eq0-clause-empty
returns-then-tag-eq0-clause-empty c =
    (λ e. ap (context_at c.args.self.now) c.if-tag-eq0.true ∙ seen-first c.self.inside.table.rows.keys c.args.self.now c.self.view_is, λ e. refl)
