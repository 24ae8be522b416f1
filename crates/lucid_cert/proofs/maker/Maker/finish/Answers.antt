use Rattle.lucid_cert.proofs.Common.{[], ◌∷◌, ◌+◌, length, Some, sym, ap, ◌∙◌, map, subst, AllByRecursion, take-map, root, plain_judgment, context_row, MayShow, ContextRow, contexts_behind, judgments_of, table_in}
use Rattle.lucid_cert.proofs.Ending.{is_certificate}
use Rattle.lucid_cert.proofs.maker.Maker.finish.Goals as goal

pub returns : goal.returns
returns c b follow =
    is_certificate (table_in c.args.self.now) c.args.self.now.tags c.args.self.now.keys.keys (judgments_of c.args.self.now) c.args.self.now.waiting.items c.requires.sound
    c.args.root c.requires.root c.in-Some.number c.in-Some.ensures.there _
    (ap (contexts_behind (length (table_in c.args.self.now).places) (Some root ∷ [])) c.from_vec.ensures
    ∙ c.in_ok-contexts.ensures.contexts (length (table_in c.args.self.now).places) c.requires.sound.places)
    (c.from_vec-2.ensures ∙ (ap (λ js. map plain_judgment js.items) c.replace-judgments.ensures.value ∙ (ap (map plain_judgment) c.truncate.ensures.items
    ∙ sym (take-map plain_judgment (c.in-Some.number + 1) c.args.self.now.judgments.items))))
    (subst (AllByRecursion (λ (r : ContextRow). MayShow (context_row r))) (sym c.from_vec.ensures) c.in_ok-contexts.ensures.shown) b follow
