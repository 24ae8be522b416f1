use Rattle.lucid_texts.proofs.Common.{◌≡◌, ◌≤◌, ◌+◌, ◌++◌, length, CanGoOn, text_of}
use Rattle.lucid_texts.proofs.lines.add_lines.Given as goal

abbrev pub invariant-loop-line : goal.invariant-loop-line
invariant-loop-line g l = record {
  keeps : g.L.Lines.keeps l.to;
  can : CanGoOn g.L.Lines.is_text (g.L.Lines.lines l.to);
  bytes : l.fn.bytes ≡ text_of (g.L.Lines.lines l.to) ++ l.rest;
  read : l.read ≡ length (g.L.Lines.lines l.to);
  left : l.read + l.read + length l.rest ≤ length l.fn.bytes;
}

abbrev pub decreases-loop-line : goal.decreases-loop-line
decreases-loop-line g l = length l.rest
