use Rattle.std.proofs.Common.{rules, tests, ◌∙◌}
use Rattle.std.specs.Prelude.{codes, nat_eq}
use Rattle.std.specs.List.{starts_with}
use Rattle.std.specs.String.{string_bytes}
use Rattle.std.proofs.lemmas.Iterator.Search.{any_from_yields_List}
use Rattle.std.proofs.lemmas.Iterator.{YieldsList-from_slice}
use Rattle.clap.proofs.WalkLemmas.{list_any-map}
use Rattle.lucid_explain_command.proofs.behind.has_flat.Goals as goal

pub returns : goal.returns
returns c =
    any_from_yields_List (λ w. starts_with nat_eq (string_bytes w) (codes "--from-flat")) _ _ _ c.any.ensures.ran (YieldsList-from_slice c.args.words.now cc) (λ x b q k. search (rules, tests))
    ∙ list_any-map (λ w. starts_with nat_eq w (codes "--from-flat")) string_bytes c.args.words.now
