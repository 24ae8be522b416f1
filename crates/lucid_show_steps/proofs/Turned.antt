-- A turn of a policy between two looks.
use Rattle.std.proofs.Common.{ℕ, ◌≤◌, Bool, Option, Some, None, sym, subst, ◌∙◌}
use Rattle.lucid_store.specs.Stored.{Stored}
use Rattle.lucid_retire.specs.Turns.{IsTurn, HoldsAtMost}
use Rattle.lucid_show_steps.specs.Turns.{HoldsSame}

at_most_same : (v w : Stored) (most : Option ℕ) → HoldsSame v w → HoldsAtMost most v → HoldsAtMost most w
at_most_same v w None still h = tt
at_most_same v w (Some n) still h = subst (λ c. c ≤ n) (sym still.count) h

-- what a turn promises is said of the warehouse before the look and after it
pub turn_between : (keeps empties : Bool) (most : Option ℕ) (t u v w : Stored) → HoldsSame t u → IsTurn keeps empties most u v → HoldsSame v w → IsTurn keeps empties most t w
turn_between keeps empties most t u v w looked turned kept = record {
  drops = λ key value h. sym (looked.held key) ∙ turned.drops key value (sym (kept.held key) ∙ h);
  lost = kept.lost ∙ (turned.lost ∙ looked.lost);
  kept = λ k key. kept.held key ∙ (turned.kept k key ∙ looked.held key);
  emptied = λ e. kept.count ∙ turned.emptied e;
  limited = at_most_same v w most kept turned.limited;
}
