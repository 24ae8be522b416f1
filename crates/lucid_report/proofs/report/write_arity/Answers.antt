use Rattle.lucid_report.proofs.report.write_arity.Goals as goal

pub returns : goal.returns
returns g c = simp (c.from.ensures, c.from-2.ensures, c.from-3.ensures) at c.write_line.ensures
