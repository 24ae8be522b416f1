use Rattle.lucid_top.proofs.Common.{◌≡◌, ◌++◌, ap, ◌∙◌, canonical, told}
use Rattle.lucid_top.proofs.Ending.{as_text}
use Rattle.lucid_top.proofs.writing.print_program.Goals as goal

pub returns-clause-writes : goal.returns-clause-writes
returns-clause-writes g c =
    as_text (λ written. written ≡ c.deref.result.now) (λ text. text ≡ canonical c.args.tree.now) (told g.K.Sink.written g.K.Sink.faults g.K.Sink.late c.args.out.now)
    (told g.K.Sink.written g.K.Sink.faults g.K.Sink.late c.write_out.new.out) c.write_out.result
    (λ text is. is ∙ c.deref.ensures.value ∙ c.in_ok-print_tree.ensures.text ∙ ap (λ front. front ++ canonical c.args.tree.now) c.new-text.ensures.items)
    c.write_out.ensures.writes
