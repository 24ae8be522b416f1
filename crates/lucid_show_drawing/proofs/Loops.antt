-- One step more of what loops go over.
use Rattle.std.proofs.Common.{◌≡◌, ℕ, ◌+◌, ◌<◌, List, length, get_or, drop}
use Rattle.std.proofs.lemmas.List.{at_drop_more}
use Rattle.lucid_show_drawing.specs.declared.asked.Asked.{Asked}
use Rattle.lucid_show_drawing.specs.Labels.{call_of, calls_text, first_call}
use Rattle.lucid_show_outline.specs.Views.{View}

pub calls_more : (v : View) (xs : List Asked) (i : ℕ) (d : Asked) → i < length xs
    → calls_text v (drop i xs) ≡ first_call (call_of v (get_or xs i d).number) (calls_text v (drop (i + 1) xs))
calls_more v xs i d h = at_drop_more (λ ys. calls_text v ys) xs i d h
