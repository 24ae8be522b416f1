use Rattle.lucid_report.proofs.report.write_wrong.Goals as goal

pub returns : goal.returns
returns g c = rw (← c.from.ensures) c.write_numbered.ensures
