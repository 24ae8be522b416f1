-- What the rules derive at the times of the lines, each solution has; the least has nothing else.
use Rattle.std.proofs.Common.{◌↔◌, ℕ, List, inl, inr, subst, sym}
use Rattle.lucid_value.specs.Plain.{eod}
use Rattle.lucid_tree.specs.Env.{empty}
use Rattle.lucid_fixed_point.specs.Denotation.{meanings}
use Rattle.lucid_fixed_point.specs.Families.{Family, LinesOf}
use Rattle.lucid_fixed_point.proofs.Families.{derived-by-family}
use Rattle.lucid_fixed_point.proofs.Denoted.{denotation-is-derivation}
use Rattle.lucid_report.specs.declared.status.Status.{Status}
use Rattle.lucid_top.specs.Call.{Call}
use Rattle.lucid_top.specs.Headline.{RunsProgram, Headline, Has, elements, Lines, no_lines, one_line_more}
use Rattle.lucid_top.specs.Solutions.{SolvesProgram, WritesItsLines, stream_by, HasItsStream}
use Rattle.lucid_top.specs.LeastFamily.{has-denotation}
use Rattle.lucid_top.proofs.Once.{lines-once}

module _ (c : Call) (r : RunsProgram c) (F : Family) (solves : SolvesProgram r F) where
  lines-by : (k : ℕ) (bytes : List ℕ) → Lines r k bytes → LinesOf (stream_by r F) k bytes
  lines-by k bytes no_lines = LinesOf.no_lines
  lines-by k bytes (one_line_more {k = j} {bytes = bs} more v has off) =
      LinesOf.one_line_more (lines-by j bs more) v (derived-by-family F (elements r) r.program solves j 0 v has) off

  pub writes-its-lines : (s : Status) (h : Headline r s) → WritesItsLines r s h F
  writes-its-lines s h =
      record {
        lines = lines-by h.lines.whole h.lines.lines h.lines.are_lines;
        only = λ single bytes l. lines-once (stream_by r F) single h.lines.whole bytes h.lines.lines l (lines-by h.lines.whole h.lines.lines h.lines.are_lines);
        done = λ e. elim (h.stops.done e) [ inl o ↦ inl o | inr o ↦ inr (derived-by-family F (elements r) r.program solves h.lines.whole 0 eod o.1) ];
      }

module _ (c : Call) (r : RunsProgram c) where
  pub has-its-stream : HasItsStream r
  has-its-stream t v =
      let d = denotation-is-derivation (elements r) r.program empty t 0 v in
      subst (λ a. a t 0 v ↔ Has r t v) (sym (has-denotation r.program (meanings (elements r) empty))) (d.1, d.0)
