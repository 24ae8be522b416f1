use Rattle.lucid_explain_errors.proofs.ending.put_error.Goals as goal

pub returns-in-Apply : goal.returns-in-Apply
returns-in-Apply c = rw c.in-Apply.is (c.put_operator.ensures 0)
