use Rattle.lucid_report.proofs.report.write_refusal.Goals as goal

pub returns-in-BigNumber : goal.returns-in-BigNumber
returns-in-BigNumber g c = rw (c.in-BigNumber.is, ← c.from-in-BigNumber.ensures) c.write_at-in-BigNumber.ensures

pub returns-in-Twice : goal.returns-in-Twice
returns-in-Twice g c = rw (c.in-Twice.is, ← c.from-in-Twice.ensures) c.write_at-in-Twice.ensures

pub returns-in-NoFunction : goal.returns-in-NoFunction
returns-in-NoFunction g c = rw (c.in-NoFunction.is, ← c.from-in-NoFunction.ensures) c.write_at-in-NoFunction.ensures

pub returns-in-NotFunction : goal.returns-in-NotFunction
returns-in-NotFunction g c = rw (c.in-NotFunction.is, ← c.from-in-NotFunction.ensures) c.write_at-in-NotFunction.ensures

pub returns-in-IsFunction : goal.returns-in-IsFunction
returns-in-IsFunction g c = rw (c.in-IsFunction.is, ← c.from-in-IsFunction.ensures) c.write_at-in-IsFunction.ensures

pub returns-in-NoColumn : goal.returns-in-NoColumn
returns-in-NoColumn g c = rw c.in-NoColumn.is c.write_named.ensures

pub returns-in-NotFree : goal.returns-in-NotFree
returns-in-NotFree g c = rw c.in-NotFree.is c.write_named-in-NotFree.ensures

pub returns-in-GivenTwice : goal.returns-in-GivenTwice
returns-in-GivenTwice g c = rw c.in-GivenTwice.is c.write_named-in-GivenTwice.ensures

pub returns-in-NoInput : goal.returns-in-NoInput
returns-in-NoInput g c = rw c.in-NoInput.is c.write_text-in-NoInput.ensures

pub returns-in-NotJudged : goal.returns-in-NotJudged
returns-in-NotJudged g c = rw (c.in-NotJudged.is, ← c.from-in-NotJudged.ensures) c.write_at-in-NotJudged.ensures

pub returns-in-TooManyNames : goal.returns-in-TooManyNames
returns-in-TooManyNames g c = rw c.in-TooManyNames.is c.write_text-in-TooManyNames.ensures

pub returns-in-NoFlatLine : goal.returns-in-NoFlatLine
returns-in-NoFlatLine g c = rw c.in-NoFlatLine.is c.write_numbered.ensures

pub returns-in-FlatScope : goal.returns-in-FlatScope
returns-in-FlatScope g c = rw c.in-FlatScope.is c.write_wrong.ensures

pub returns-in-FlatNode : goal.returns-in-FlatNode
returns-in-FlatNode g c = rw c.in-FlatNode.is c.write_wrong-in-FlatNode.ensures

pub returns-in-FlatName : goal.returns-in-FlatName
returns-in-FlatName g c = rw c.in-FlatName.is c.write_wrong-in-FlatName.ensures

pub returns-in-FlatPlace : goal.returns-in-FlatPlace
returns-in-FlatPlace g c = rw c.in-FlatPlace.is c.write_wrong-in-FlatPlace.ensures

pub returns-in-FlatRoot : goal.returns-in-FlatRoot
returns-in-FlatRoot g c = rw c.in-FlatRoot.is c.write_text-in-FlatRoot.ensures
