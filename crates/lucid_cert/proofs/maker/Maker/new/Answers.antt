use Rattle.lucid_cert.proofs.Common.{ap, map, table_of, plain_judgment}
use Rattle.lucid_cert.proofs.Starting.{new_sound}
use Rattle.lucid_cert.proofs.maker.Maker.new.Goals as goal

pub returns-clause-sound : goal.returns-clause-sound
returns-clause-sound c =
    new_sound (table_of c.args.program.now) _ _ _ _ c.make.ensures.known c.make.ensures.one_for_one c.new.ensures.empty
    (ap (map plain_judgment) c.new-2.ensures.items) c.new-3.ensures.items
