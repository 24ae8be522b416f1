use Rattle.lucid_inputs.proofs.Common.{sym, ap, subst, ◌∙◌, arith, length-map, IsWithin, ReadsOn, element_of, stream_of}
use Rattle.lucid_inputs.proofs.InputsLemmas.{ok_then, ready_read, told_too_large}
use Rattle.lucid_inputs.proofs.OverlongLemmas.{not_overlong_told, overlong_told}
use Rattle.lucid_inputs.proofs.stream.InputStream.demand.Goals as goal

pub returns-clause-too_large : goal.returns-clause-too_large
returns-clause-too_large g c =
    let mid = c.read_on.new.self in
    let long = length-map mid.elements.items element_of in
    told_too_large _ _ _ _ (stream_of mid) _ _ _ _ c.ready.ensures.too_large
    (λ few going.
    let full = c.in_ok-read_on.ensures.stops few going in (
      ap (λ s. s.consumed) c.ready.ensures.same ∙ full,
      overlong_told _ _ _ (stream_of mid) _ _ c.in_ok-read_on.ensures.on going (omega (arith, few, long, mid.elements.ok.0)) full,
    ))

pub returns-clause-not_too_large : goal.returns-clause-not_too_large
returns-clause-not_too_large g c =
    let new = c.ready.new.self in
    let same = c.ready.ensures.same in
    let on = subst (λ s. ReadsOn c.args.index (stream_of c.args.self.now) s (g.P.Places.world c.args.places.now) (g.P.Places.world c.read_on.new.places))
    (sym same) c.in_ok-read_on.ensures.on in
    let within = subst (λ s. IsWithin s c.args.most) (sym same) c.in_ok-read_on.ensures.within in
    let long = length-map new.elements.items element_of in
    ok_then _ _ _ c.ready.ensures.ready
    (λ ready. not_overlong_told _ _ _ (stream_of new) _ _ on within (λ going. let read = ready_read new c.args.index ready going in omega (arith, read, long)))
