use Rattle.lucid_fixed_point.proofs.Equalities.{equations-of-the-book}
use Rattle.lucid_fixed_point.proofs.laws.equations_of_the_book_hold.Goals as goal

pub returns : goal.returns
returns g c = equations-of-the-book (g.A.Arguments.streams 0) (g.A.Arguments.streams 1)
