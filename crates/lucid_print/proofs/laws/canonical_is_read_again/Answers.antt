use Rattle.lucid_print.proofs.Scanned.{read_again}
use Rattle.lucid_print.proofs.laws.canonical_is_read_again.Goals as goal

pub returns : goal.returns
returns c =
    read_again c.text_is_read.ensures c.texts_are_longest.ensures c.texts_begin_no_gap.ensures c.tokens_stand.ensures
    c.tokens_are_not_refused.ensures c.terminals_are_unique.ensures c.terminals_spell_one_tree.ensures
