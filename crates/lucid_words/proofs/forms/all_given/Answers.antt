use Rattle.lucid_words.proofs.Common.{◌≡◌, ◌++◌, ◌∷◌, [], map, rules, ap, ◌∙◌, err_from_is_err_and, is_given, parts_of, plain_given, map_push, cond_some}
use Rattle.lucid_words.proofs.Each.{one_fails, one_more, fails_where_none}
use Rattle.lucid_words.proofs.forms.all_given.Goals as goal

pub returns-in_err-given : goal.returns-in_err-given
returns-in_err-given c =
    let p = err_from_is_err_and c.from_residual.result c.from_residual.ensures.1 in
    rw (p.1, p.2) (λ usage. one_fails is_given _ c.args.texts.now c.loop-text.text-index _ c.loop-text-test.true
    (fails_where_none _ _ (c.in_err-given.ensures usage)))

pub loop-text-preserved : goal.loop-text-preserved
loop-text-preserved c =
    let named = cond_some _ _ _ c.in_ok-given.ensures in
    let pushed : c.push.new.self.items ≡ c.loop-text.all.items ++ c.in_ok-given.given ∷ [] = search rules in
    one_more is_given parts_of c.args.texts.now c.loop-text.text-index _ _ _ _ c.loop-text-test.true c.loop-text.invariant named.0 named.1
    (ap (map plain_given) pushed ∙ map_push plain_given _ _)
