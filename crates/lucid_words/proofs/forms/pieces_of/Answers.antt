use Rattle.lucid_words.proofs.Common.{lit<, map_from_collect, YieldsList-from_str_split}
use Rattle.lucid_words.proofs.forms.pieces_of.Goals as goal

pub returns : goal.returns
returns c = map_from_collect _ c.collect.ensures.ran
    (YieldsList-from_str_split 44 c.args.list.now (lit< tt) c.split.ensures.text c.split.ensures.has_more c.split.ensures.pattern)
