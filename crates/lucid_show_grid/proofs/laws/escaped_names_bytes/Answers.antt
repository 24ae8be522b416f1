use Rattle.lucid_show_grid.proofs.Escaping.{escaped_named}
use Rattle.lucid_show_grid.proofs.laws.escaped_names_bytes.Goals as goal

pub returns : goal.returns
returns c = escaped_named
