use Rattle.lucid_explain_report.proofs.Common.{ℕ, List, ◌++◌, append_assoc, ap, ◌∙◌}
use Rattle.lucid_explain_report.specs.Said.{unread_text, written_text}
use Rattle.lucid_explain_report.proofs.Told.{ended}
use Rattle.lucid_explain_report.proofs.faults.put_fault.Goals as goal

pub returns : goal.returns
returns c =
    let old = c.args.text.now.items in
    let name = c.args.name.now in
    let said = c.written_text.result.now in
    ended c.extend_from_slice.result c.extend_from_slice.new.self.items c.put_unread.new.text.items said (old ++ (unread_text name ++ written_text name)) c.extend_from_slice.ensures.items
    (ap (λ (z : List ℕ). z ++ said) c.in_ok-put_unread.ensures
    ∙ append_assoc old (unread_text name) said
    ∙ ap (λ (z : List ℕ). old ++ (unread_text name ++ z)) (c.written_text.ensures ∙ ap written_text c.as_bytes.ensures.value))
