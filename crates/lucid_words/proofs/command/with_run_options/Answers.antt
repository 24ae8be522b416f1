use Rattle.lucid_words.proofs.command.with_run_options.Goals as goal

-- each argument in turn
pub returns : goal.returns
returns c = λ app was.
    let after1 = c.with_number-command.ensures _ was in
    let after2 = c.with_number-command-2.ensures _ after1 in
    let after3 = c.with_text-command.ensures _ after2 in
    let after4 = c.with_number-command-3.ensures _ after3 in
    let after5 = c.with_number-command-4.ensures _ after4 in
    c.with_flag.ensures _ after5
