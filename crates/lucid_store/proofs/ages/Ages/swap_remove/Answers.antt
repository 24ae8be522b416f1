use Rattle.lucid_store.proofs.Common.{◌≡◌, ◌-◌, length, ap, ◌∙◌, arith, length-set, length-take-le}
use Rattle.std.specs.Prelude.{slice_index_or}
use Rattle.lucid_store.proofs.ages.Ages.swap_remove.Goals as goal

pub drop_last-requires : goal.drop_last-requires
drop_last-requires c =
    let same : length c.copy_last.new.self ≡ length c.args.self.now = ap length (c.copy_last.ensures 0)
    ∙ length-set c.args.self.now c.args.index (slice_index_or c.args.self.now (length c.args.self.now - 1) 0) in
    omega (arith, same, c.requires)

pub returns-clause-len : goal.returns-clause-len
returns-clause-len c =
    let same : length c.copy_last.new.self ≡ length c.args.self.now = ap length (c.copy_last.ensures 0)
    ∙ length-set c.args.self.now c.args.index (slice_index_or c.args.self.now (length c.args.self.now - 1) 0) in
    let cut : length c.drop_last.new.self ≡ length c.copy_last.new.self - 1 = ap length c.drop_last.ensures
    ∙ length-take-le (length c.copy_last.new.self - 1) c.copy_last.new.self (omega arith) in
    omega (arith, same, cut, c.requires)
