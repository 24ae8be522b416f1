use Rattle.lucid_compile.proofs.Common.{◌≡◌, ap, ◌∙◌, Call, plain_key, lists, with_place, linked}
use Rattle.lucid_compile.proofs.Adding.{if_ok, call-added}
use Rattle.lucid_compile.proofs.LinkedRows.{node-linked, place-linked}
use Rattle.lucid_compile.proofs.compiler.add_call.Goals as goal

pub returns : goal.returns
returns c =
    let place : lists c.add_place.new.self ≡ with_place (plain_key c.args.name c.args.here.level) (plain_key c.args.place c.args.here.level)
    (record { scope = c.args.here.scope; name = c.args.name; actuals = c.args.ids.items }) (lists c.args.rows.now) =
    c.in_ok-add_place.ensures ∙ ap (λ ids. with_place (plain_key c.args.name c.args.here.level) (plain_key c.args.place c.args.here.level)
    (record { scope = c.args.here.scope; name = c.args.name; actuals = ids }) (lists c.args.rows.now)) c.from_vec.ensures in
    if_ok c.push.result _ _ c.push.ensures (λ id s w.
    call-added w (linked w c.args.rows.now) (linked w c.add_place.new.self) (linked w c.push.new.self) c.args.here c.args.name c.args.place c.args.ids.items id
    (place-linked w (lists c.args.rows.now) (lists c.add_place.new.self) _ _ _ place)
    (node-linked w (lists c.add_place.new.self) (lists c.push.new.self) (record { scope = c.args.here.scope; node = Call c.args.name c.args.place 0 }) id s))
