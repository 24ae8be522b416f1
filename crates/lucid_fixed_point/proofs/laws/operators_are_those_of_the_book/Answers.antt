use Rattle.lucid_fixed_point.proofs.Operators.{operates-as-the-book}
use Rattle.lucid_fixed_point.proofs.laws.operators_are_those_of_the_book.Goals as goal

pub returns : goal.returns
returns g c = operates-as-the-book g.A.Arguments.streams
