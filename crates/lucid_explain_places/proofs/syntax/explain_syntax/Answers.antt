use Rattle.lucid_explain_places.proofs.Common.{ℕ, List, ◌++◌, ap, ◌∙◌}
use Rattle.lucid_explain_places.specs.Around.{PlainAround, plain_around, around_at}
use Rattle.lucid_explain_places.specs.Shown.{place_text}
use Rattle.lucid_explain_places.specs.Syntax.{around_text}
use Rattle.lucid_explain_places.specs.declared.candidates.Candidate.{Candidate}
use Rattle.lucid_explain_places.proofs.syntax.explain_syntax.Goals as goal

pub returns : goal.returns
returns c =
    let place = place_text c.args.file.now c.args.source.now c.args.at in
    let around = plain_around c.around_at-around.result in (
      c.in_ok-those.those.items,
      c.in_ok-those.ensures,
      c.in_ok-put_around.ensures
          ∙ ap (λ (z : List ℕ). z ++ around_text around c.deref.result.now)
          (c.in_ok-put_place.ensures ∙ ap (λ (z : List ℕ). z ++ place) c.new-text.ensures.items)
          ∙ ap (λ (z : PlainAround). place ++ around_text z c.deref.result.now) c.around_at-around.ensures
          ∙ ap (λ (w : List Candidate). place ++ around_text (around_at c.args.source.now c.args.tokens.now c.args.at) w) c.deref.ensures.value,
    )
