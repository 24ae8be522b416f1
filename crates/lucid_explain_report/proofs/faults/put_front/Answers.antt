use Rattle.lucid_explain_report.proofs.Common.{ℕ, List, ◌++◌, map, take, ap, ◌∙◌, on_ok_weaker, take_min}
use Rattle.lucid_explain_places.specs.Shown.{shown_byte}
use Rattle.lucid_explain_report.proofs.faults.put_front.Goals as goal

pub returns : goal.returns
returns c = on_ok_weaker c.put_shown.result
    (λ e. e ∙ ap (λ (z : List ℕ). c.args.text.now.items ++ map shown_byte z)
    (ap (λ (n : ℕ). take n c.args.bytes.now) c.min.ensures ∙ take_min 160 c.args.bytes.now))
    c.put_shown.ensures
