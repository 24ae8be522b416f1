use Rattle.lucid_show_drawing.proofs.Common.{sym, ◌∙◌}
use Rattle.lucid_show_outline.specs.Views.{view_of}
use Rattle.lucid_show_drawing.proofs.Telling.{no_spot}
use Rattle.lucid_show_drawing.proofs.asked.asked_for.Goals as goal

pub unreachable-requires : goal.unreachable-requires
unreachable-requires c =
    no_spot (view_of c.args.source.now) c.args.number c.requires (sym c.spot_at.ensures ∙ c.in_default.is)
