use Rattle.lucid_cert_rules.proofs.NeedCommon.{◌≡◌, ◌+◌, map, refl, sym, ◌∙◌, on_ok_weaker, inserted-absent, inserted-present, none_passes, plain_judgment}
use Rattle.std.proofs.Common.{rules}
use Rattle.lucid_cert_rules.proofs.SameCells.{is_among-list_any, was_there}
use Rattle.lucid_cert_rules.proofs.Lines.{tells_above, tells_nothing, tells_whole}
use Rattle.lucid_cert_rules.proofs.telling.Telling.tell.Goals as goal

pub returns-in_default : goal.returns-in_default
returns-in_default c =
    let none = rw c.in_default.is at c.asked_at.ensures in
    λ all on. tells_nothing c.args.table.now (map plain_judgment c.args.judgments.now) c.args.self.now c.args.next all (sym none) on

pub returns-then-not-added : goal.returns-then-not-added
returns-then-not-added c =
    let present = sym c.if-not-added.true ∙ c.in_ok-added.ensures.added in
    on_ok_weaker c.add.result
    (λ adds all on. tells_above c.args.table.now (map plain_judgment c.args.judgments.now) c.args.self.now c.args.next all c.in-Some.cell (sym c.in-Some.ensures)
    (record c.args.self.now { told = c.insert.new.self }) c.add.new.self
    (sym (is_among-list_any c.args.self.now.told.keys c.in-Some.cell) ∙ was_there _ present) refl (c.in_ok-added.ensures.keys ∙ inserted-present _ _ _ present)
    refl adds on) c.add.ensures

pub returns : goal.returns
returns c =
    let absent = sym c.if-not-added.false ∙ c.in_ok-added.ensures.added in
    let one : c.in-Some-checked_add.deeper ≡ c.args.next.depth + 1 = search rules in
    on_ok_weaker c.wait_for_needs.result
    (λ needs all on. tells_whole c.args.table.now (map plain_judgment c.args.judgments.now) c.args.self.now c.args.next all c.in-Some.cell (sym c.in-Some.ensures)
    (record c.args.self.now { told = c.insert.new.self }) c.add-2.new.self c.wait_for_needs.new.self c.in-Some-checked_add.deeper one
    (sym (is_among-list_any c.args.self.now.told.keys c.in-Some.cell) ∙ none_passes _ absent) refl (c.in_ok-added.ensures.keys ∙ inserted-absent _ _ _ absent)
    refl c.in_ok-add.ensures needs on) c.wait_for_needs.ensures
