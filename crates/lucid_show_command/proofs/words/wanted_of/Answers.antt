use Rattle.lucid_show_command.proofs.Common.{Option, ap, sym, ◌∙◌, err_from_is_err_and}
use Rattle.clap.specs.Words.{Text}
use Rattle.lucid_show_command.specs.Words.{form_asked, names_asked}
use Rattle.lucid_show_command.proofs.Asked.{of_all, of_no_form, of_no_names, of_no_words}
use Rattle.lucid_show_command.proofs.words.wanted_of.Goals as goal

pub returns-in_err-words-clause-asked : goal.returns-in_err-words-clause-asked
returns-in_err-words-clause-asked c =
    let p = err_from_is_err_and c.from_residual.result c.from_residual.ensures.1 in
    rw (p.1, p.2) (λ usage. of_no_words _ _ _ (c.in_err-words.ensures.asked usage))

pub returns-in_err-names-clause-asked : goal.returns-in_err-names-clause-asked
returns-in_err-names-clause-asked c =
    let p = err_from_is_err_and c.from_residual-in_err-names.result c.from_residual-in_err-names.ensures.1 in
    rw (p.1, p.2)
    (λ usage. of_no_names _ _ _ _ c.in_ok-words.ensures.asked
    (ap (λ (list : Option Text). names_asked list c.args.program.now) (sym c.text_of.ensures) ∙ c.in_err-names.ensures usage))

pub returns-in_default-clause-asked : goal.returns-in_default-clause-asked
returns-in_default-clause-asked c =
    λ usage. of_no_form _ _ _ _ _ c.in_ok-words.ensures.asked
    (ap (λ (list : Option Text). names_asked list c.args.program.now) (sym c.text_of.ensures) ∙ c.in_ok-names.ensures)
    (ap form_asked (sym c.text_of-2.ensures) ∙ sym (rw c.in_default.is at c.form_asked.ensures))

pub returns-clause-asked : goal.returns-clause-asked
returns-clause-asked c =
    of_all _ _ _ _ _ _ c.in_ok-words.ensures.asked
    (ap (λ (list : Option Text). names_asked list c.args.program.now) (sym c.text_of.ensures) ∙ c.in_ok-names.ensures)
    (ap form_asked (sym c.text_of-2.ensures) ∙ sym c.in-Some.ensures)
