use Rattle.lucid_flat.proofs.LeadAstray.{outermost-astray, part-astray, inwards-astray, place-astray, body-astray, actual-astray, root-astray, frames-missed}
use Rattle.lucid_flat.proofs.sound_laws.unsound_tables_go_astray.Goals as goal

pub returns-clause-nowhere : goal.returns-clause-nowhere
returns-clause-nowhere c = (outermost-astray, part-astray, inwards-astray, place-astray, body-astray, actual-astray, root-astray)

pub returns-clause-no_frame : goal.returns-clause-no_frame
returns-clause-no_frame c = frames-missed
