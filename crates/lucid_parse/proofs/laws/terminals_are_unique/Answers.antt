use Rattle.lucid_parse.proofs.Texts.{terminals-one}
use Rattle.lucid_parse.proofs.laws.terminals_are_unique.Goals as goal

pub returns : goal.returns
returns c = λ source ts us ws g h. terminals-one c.one_reading.ensures g h
