-- One step more of what loops go over.
use Rattle.std.proofs.Common.{◌≡◌, ℕ, ◌+◌, ◌<◌, List, ◌∷◌, ◌++◌, length, get_or, drop, map, Option}
use Rattle.std.proofs.lemmas.List.{at_drop_more}
use Rattle.lucid_tags.specs.declared.Key.{Key}
use Rattle.lucid_show_steps.specs.Steps.{plain_step, plain_steps, drops}
use Rattle.lucid_show_steps.specs.Texts.{Told, text_in, after, told_text}
use Rattle.lucid_show_steps.specs.declared.names.Names.{Names}
use Rattle.lucid_show_steps.specs.declared.step.Step.{Step}

pub told_more : (names : Option Names) (t : Told) (ss : List Step) (i : ℕ) (d : Step) → i < length ss
    → told_text names t (plain_steps (drop i ss))
    ≡ text_in names t (plain_step (get_or ss i d)) ++ told_text names (after t (plain_step (get_or ss i d))) (plain_steps (drop (i + 1) ss))
told_more names t ss i d h = at_drop_more (λ xs. told_text names t (plain_steps xs)) ss i d h

pub drops_more_keys : (ks : List Key) (i : ℕ) (d : Key) → i < length ks → map drops (drop i ks) ≡ drops (get_or ks i d) ∷ map drops (drop (i + 1) ks)
drops_more_keys ks i d h = at_drop_more (λ xs. map drops xs) ks i d h
