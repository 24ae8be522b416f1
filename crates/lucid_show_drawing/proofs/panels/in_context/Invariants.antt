use Rattle.std.proofs.Common.{◌≡◌, ℕ, ◌<◌, get_or}
use Rattle.lucid_show_drawing.specs.declared.asked.Asked.{Asked}
use Rattle.lucid_show_drawing.proofs.panels.in_context.Given as goal

-- all before this one stand there
abbrev pub invariant-loop-count : goal.invariant-loop-count
invariant-loop-count l = (i : ℕ) (d : Asked) → i < l.count → (get_or l.these i d).spot.context ≡ l.context
