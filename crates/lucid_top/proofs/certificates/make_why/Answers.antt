use Rattle.lucid_top.proofs.Common.{plain_words}
use Rattle.lucid_top.proofs.Answering.{has_time}
use Rattle.lucid_top.proofs.certificates.make_why.Goals as goal

pub unreachable-requires : goal.unreachable-requires
unreachable-requires g c = has_time (plain_words c.args.words.now) c.requires.task c.in_default.is
