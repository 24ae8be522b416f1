use Rattle.lucid_cert_rules.proofs.NeedCommon.{refl, sym, ◌∙◌, inl, inr, inserted-absent, inserted-present, none_passes}
use Rattle.lucid_cert_rules.proofs.SameCells.{is_among-list_any, was_there}
use Rattle.lucid_cert_rules.proofs.walk.Walk.find.Goals as goal

pub returns-then-not-added : goal.returns-then-not-added
returns-then-not-added c =
    let present = sym c.if-not-added.true ∙ c.in_ok-added.ensures.added in
    record {
      waiting = refl;
      seen = refl;
      choice = inr (
        sym (is_among-list_any c.args.self.now.cells.keys c.args.cell) ∙ was_there _ present,
        c.in_ok-added.ensures.keys ∙ inserted-present _ _ _ present,
        refl,
      );
    }

pub returns : goal.returns
returns c =
    let absent = sym c.if-not-added.false ∙ c.in_ok-added.ensures.added in
    record {
      waiting = refl;
      seen = refl;
      choice = inl (
        sym (is_among-list_any c.args.self.now.cells.keys c.args.cell) ∙ none_passes _ absent,
        c.in_ok-added.ensures.keys ∙ inserted-absent _ _ _ absent,
        c.in_ok-push.ensures.items,
      );
    }
