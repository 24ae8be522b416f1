use Rattle.lucid_show_drawing.proofs.Common.{◌+◌, List, ◌++◌, ℕ, map, drop, sym, ap, ◌∙◌, append_assoc}
use Rattle.std.specs.List.{flat_map}
use Rattle.lucid_cert_rules.specs.Certificates.{plain_judgment}
use Rattle.lucid_cert_rules.specs.declared.rows.JudgmentRow.{JudgmentRow}
use Rattle.lucid_show_outline.specs.Searches.{tests}
use Rattle.lucid_show_outline.specs.Views.{view_of}
use Rattle.lucid_show_drawing.proofs.Boxes.{tests_more}
use Rattle.lucid_show_drawing.proofs.looked.all_tests.Goals as goal

pub loop-judgment-preserved : goal.loop-judgment-preserved
loop-judgment-preserved c =
    let v = view_of c.args.source.now in
    let rows = c.judgments-judgments.result.now in
    let these = c.loop-judgment.these.items in
    let left : List ℕ = flat_map (tests v) (map plain_judgment (drop (c.loop-judgment.judgment-index + 1) rows)) in
    ap (λ (z : List ℕ). z ++ left) c.in_ok-extend_from_slice.ensures.items
    ∙ append_assoc these c.tests.result.now left
    ∙ ap (λ (z : List ℕ). these ++ (z ++ left)) c.tests.ensures.value
    ∙ ap (λ (j : JudgmentRow). these ++ (tests v (plain_judgment j) ++ left)) c.judgment-item.is
    ∙ sym (ap (λ (z : List ℕ). these ++ z) (tests_more v rows c.loop-judgment.judgment-index c.judgment-item.result c.loop-judgment-test.true))
    ∙ c.loop-judgment.invariant
