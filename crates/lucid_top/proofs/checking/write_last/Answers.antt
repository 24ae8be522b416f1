use Rattle.lucid_top.proofs.Common.{◌≡◌, ◌∙◌, told, IsLastLine}
use Rattle.lucid_top.proofs.Ending.{as_text}
use Rattle.lucid_top.proofs.LastLine.{last_line}
use Rattle.lucid_top.proofs.checking.write_last.Goals as goal

pub returns-clause-writes : goal.returns-clause-writes
returns-clause-writes g c =
    as_text (λ written. written ≡ c.deref.result.now) (IsLastLine c.args.why.now) (told g.K.Sink.written g.K.Sink.faults g.K.Sink.late c.args.out.now)
    (told g.K.Sink.written g.K.Sink.faults g.K.Sink.late c.write_out.new.out) c.write_out.result
    (λ text is. last_line c.args.why.now c.items-judgments.result.now c.index-judgments-judgments.result text c.new-line.result.items c.show.new.to.items
    c.extend_from_slice.new.self.items c.put_number.new.to.items c.extend_from_slice-2.new.self.items
    c.items-judgments.ensures c.requires c.index-judgments-judgments.is c.new-line.ensures.items c.in_ok-show.ensures c.in_ok-extend_from_slice.ensures.items
    c.in_ok-put_number.ensures c.in_ok-extend_from_slice-2.ensures.items (is ∙ c.deref.ensures.value))
    c.write_out.ensures.writes
