-- A run of the bytes of names is the longest token.
use Rattle.lucid_scan.proofs.Common.{sym, ◌∙◌}
use Rattle.lucid_scan.proofs.Longest.{name_stands, reserved_stands}
use Rattle.lucid_scan.proofs.front.word_token.Goals as goal

pub returns-then-is_reserved : goal.returns-then-is_reserved
returns-then-is_reserved c = reserved_stands c.args.bytes.now c.name_len-n.result c.name_len-n.ensures c.requires
    (sym c.is_reserved.ensures ∙ c.if-is_reserved.true)

pub returns : goal.returns
returns c = name_stands c.args.bytes.now c.name_len-n.result c.name_len-n.ensures c.requires (sym c.is_reserved.ensures ∙ c.if-is_reserved.false)
