use Rattle.lucid_flat.proofs.LeadSteps.{met-placed, leads-somewhere}
use Rattle.lucid_flat.proofs.LeadFrames.{visited-fits, fitting-frame}
use Rattle.lucid_flat.proofs.sound_laws.references_of_sound_tables_lead.Goals as goal

pub returns-clause-lead : goal.returns-clause-lead
returns-clause-lead z T sound b limit d time space m e c t s met r = leads-somewhere T sound e c t (met-placed T sound b limit d time space m e c t s met) r

pub returns-clause-fit : goal.returns-clause-fit
returns-clause-fit z = visited-fits

pub returns-clause-frames : goal.returns-clause-frames
returns-clause-frames z T sound b m d t s k i = fitting-frame T sound k.0 (visited-fits T sound b m d t s k i)
