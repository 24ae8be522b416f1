use Rattle.lucid_explain_report.proofs.Common.{ℕ, List, ◌++◌, append_assoc, ap, ◌∙◌, codes}
use Rattle.lucid_explain_report.specs.Said.{shown_text}
use Rattle.lucid_explain_report.proofs.Told.{ended}
use Rattle.lucid_explain_report.proofs.faults.put_unread.Goals as goal

pub returns : goal.returns
returns c =
    let old = c.args.text.now.items in
    let front = codes "This file can't be opened or read: " in
    let shown = shown_text c.args.name.now in
    ended c.extend_from_slice-2.result c.extend_from_slice-2.new.self.items c.put_front.new.text.items (codes "\n") (old ++ (front ++ (shown ++ codes "\n"))) c.extend_from_slice-2.ensures.items
    (ap (λ (z : List ℕ). z ++ codes "\n")
    (c.in_ok-put_front.ensures ∙ ap (λ (z : List ℕ). z ++ shown_text c.as_bytes.result.now) c.in_ok-extend_from_slice.ensures.items
    ∙ ap (λ (z : List ℕ). (old ++ front) ++ shown_text z) c.as_bytes.ensures.value)
    ∙ append_assoc (old ++ front) shown (codes "\n")
    ∙ append_assoc old front (shown ++ codes "\n"))
