use Rattle.lucid_top.proofs.Common.{◌≡◌, ◌∙◌, ◌++◌, ap, told}
use Rattle.lucid_cert_rules.specs.WhyText.{why_text}
use Rattle.lucid_cert_rules.specs.WhyTexts.{IsTextOf}
use Rattle.lucid_top.proofs.Ending.{as_text}
use Rattle.lucid_top.proofs.making.write_why.Goals as goal

pub returns-clause-writes : goal.returns-clause-writes
returns-clause-writes g c =
    as_text (λ written. written ≡ c.deref.result.now) (λ text. IsTextOf text c.args.why.now) (told g.K.Sink.written g.K.Sink.faults g.K.Sink.late c.args.out.now)
    (told g.K.Sink.written g.K.Sink.faults g.K.Sink.late c.write_out.new.out) c.write_out.result
    (λ text is. record {
      has = record { rows = c.in_ok-show_why.ensures.fits; some = c.requires.some };
      text = is ∙ c.deref.ensures.value ∙ c.in_ok-show_why.ensures.text ∙ ap (λ front. front ++ why_text c.args.why.now) c.new-text.ensures.items;
    })
    c.write_out.ensures.writes
