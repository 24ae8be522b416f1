use Rattle.lucid_show_grid.proofs.Escaping.{escaped_safe}
use Rattle.lucid_show_grid.proofs.laws.escaped_is_plain.Goals as goal

pub returns : goal.returns
returns c = escaped_safe
