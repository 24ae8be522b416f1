use Rattle.lucid_session.proofs.Common.{◌≡◌, ◌≤◌, ◌+◌, length, Elements, AreAskable, Start, Has, Standing, before, AreMarked, HasCells}
use Rattle.lucid_session.proofs.cells.Running.add_cells.Given as goal

abbrev pub invariant-loop-space : goal.invariant-loop-space
invariant-loop-space g l = record {
  cells : (z : Start) → z.depth ≡ l.depth → z.columns ≡ length l.fn.is_open
      → Standing z (before z l.time 0) l.fn.self.engine (g.P.Places.world l.fn.places) l.fn.self.cleared
      → ((b : Elements) → Has z b → AreMarked z b l.time 0 l.fn.is_open)
      → Standing z (before z l.time l.space) l.self.engine (g.P.Places.world l.places) l.self.cleared
      × ((b : Elements) → Has z b → AreMarked z b l.time l.space l.is_open × HasCells z b l.time l.space l.self.line.items l.goes_on);
  counts : l.self.cleared ≤ l.fn.self.cleared + l.space;
  askable : AreAskable l.self.engine.streams (g.P.Places.world l.places);
}
