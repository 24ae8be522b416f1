use Rattle.std.proofs.Common.{◌≡◌, ℕ, ◌∷◌, [], Some}
use Rattle.std.specs.List.{AllByRecursion}
use Rattle.lucid_tags.specs.Contexts.{root}
use Rattle.lucid_cert_rules.specs.WhyText.{context_row}
use Rattle.lucid_cert_rules.specs.WhyTexts.{MayShow}
use Rattle.lucid_cert_rules.specs.Follows.{contexts_behind}
use Rattle.lucid_cert_rules.specs.Checking.{ArePlaces, known_before}
use Rattle.lucid_cert_rules.proofs.contexts.rows_of.Given as goal

-- The rows are those of the contexts so far.
abbrev pub invariant-loop-number : goal.invariant-loop-number
invariant-loop-number l =
    ((places : ℕ) → ArePlaces places l.tags → contexts_behind places (Some root ∷ []) l.rows.items ≡ known_before l.tags l.number)
    × AllByRecursion (λ r. MayShow (context_row r)) l.rows.items
