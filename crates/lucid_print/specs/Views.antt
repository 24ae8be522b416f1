-- The styles that the code's values stand for, and a tree as a part of a form.
use Rattle.lucid_value.specs.View.{plain}
use Rattle.lucid_tree.specs.Tree.{PlainTree}
use Rattle.lucid_print.specs.declared.style.Infix.{Infix}
use Rattle.lucid_print.specs.declared.style.Prefix.{Prefix}
use Rattle.lucid_print.specs.declared.style.Style as code
use Rattle.lucid_print.specs.declared.style.Style.TheVariants.{Constant, Conditional, Infix as InfixStyle, Prefix as PrefixStyle, Called}
use Rattle.lucid_print.specs.Styles.{Style, constant, conditional, between, before, called, level}
use Rattle.lucid_print.specs.Canonical.{Part, part, source}

abbrev pub infix_style : Infix → Style
infix_style i = between i.spelling.now i.level i.left i.right

abbrev pub prefix_style : Prefix → Style
prefix_style p = before p.spelling.now p.level

abbrev pub seen_style : code.Style → Style
seen_style (Constant v) = constant (plain v.now)
seen_style Conditional = conditional
seen_style (InfixStyle i) = infix_style i
seen_style (PrefixStyle p) = prefix_style p
seen_style (Called s) = called s.now

abbrev pub part_of : PlainTree → Part
part_of e = part (level e) (source e)
