use Rattle.std.proofs.Common.{◌≡◌, ◌++◌, drop, map}
use Rattle.std.specs.List.{flat_map}
use Rattle.lucid_cert_rules.specs.Certificates.{plain_judgment}
use Rattle.lucid_show_outline.specs.Searches.{tests}
use Rattle.lucid_show_outline.specs.Views.{view_of}
use Rattle.lucid_show_drawing.specs.Looked.{all_tests}
use Rattle.lucid_show_drawing.proofs.looked.all_tests.Given as goal

-- those so far, and those that are left
abbrev pub invariant-loop-judgment : goal.invariant-loop-judgment
invariant-loop-judgment l =
    l.these.items ++ flat_map (tests (view_of l.source)) (map plain_judgment (drop l.judgment-index l.judgments)) ≡ all_tests (view_of l.source)
