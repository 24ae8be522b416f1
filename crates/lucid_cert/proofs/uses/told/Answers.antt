use Rattle.lucid_cert.proofs.CheckCommon.{sym, get_or, map, plain_judgment}
use Rattle.lucid_cert.proofs.Using.{item_at, told_there}
use Rattle.lucid_cert.proofs.uses.told.Goals as goal

pub returns : goal.returns
returns c =
    sym (told_there (map plain_judgment c.args.judgments.now) c.args.number
    (plain_judgment (get_or c.args.judgments.now c.args.number c.index-judgments-number.result))
    (item_at c.args.judgments.now c.args.number c.index-judgments-number.result c.requires))
