use Rattle.lucid_flat.proofs.SoundCommon.{ℕ, List, sym, subst, both_ways, PlaceRow, PlaceIsRight, AllRight, IsFirstWrong}
use Rattle.lucid_flat.proofs.RightRows.{right-more, right-all, first-wrong}
use Rattle.lucid_flat.proofs.places.first_wrong_place.Goals as goal

pub returns-then-not-is_place_right : goal.returns-then-not-is_place_right
returns-then-not-is_place_right c =
    let Right : ℕ → PlaceRow → Type 0 = λ id. PlaceIsRight c.args.table.now in
    let Wrong : List PlaceRow → Type 0 = λ rows. IsFirstWrong Right rows c.loop-id.id in
    subst Wrong c.items-rows.ensures.value
    (first-wrong Right c.items-rows.result.now c.loop-id.id c.index-rows-id.result c.loop-id-test.true c.loop-id.invariant
    (λ h. both_ways _ c.if-not-is_place_right.true (c.is_place_right.ensures.1 (subst (PlaceIsRight c.args.table.now) (sym c.index-rows-id.is) h))))

pub loop-id-preserved : goal.loop-id-preserved
loop-id-preserved c =
    let Right : ℕ → PlaceRow → Type 0 = λ id. PlaceIsRight c.args.table.now in
    right-more Right c.items-rows.result.now c.loop-id.id c.index-rows-id.result c.loop-id-test.true c.loop-id.invariant
    (subst (PlaceIsRight c.args.table.now) c.index-rows-id.is (c.is_place_right.ensures.0 c.if-not-is_place_right.false))

pub returns : goal.returns
returns c =
    let Right : ℕ → PlaceRow → Type 0 = λ id. PlaceIsRight c.args.table.now in
    let All : List PlaceRow → Type 0 = λ rows. AllRight Right rows in
    subst All c.items-rows.ensures.value (right-all Right c.items-rows.result.now c.loop-id.id c.loop-id-test.false c.loop-id.invariant)
