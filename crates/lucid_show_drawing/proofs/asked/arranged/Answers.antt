use Rattle.lucid_show_drawing.proofs.Common.{rules}
use Rattle.lucid_show_drawing.proofs.Order.{together_from_sort}
use Rattle.lucid_show_drawing.proofs.asked.arranged.Goals as goal

pub returns-clause-together : goal.returns-clause-together
returns-clause-together c = together_from_sort _ c.in_ok-sort_by_key.ensures.sorted (λ a r q k. search rules)
