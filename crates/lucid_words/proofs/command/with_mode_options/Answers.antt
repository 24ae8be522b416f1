use Rattle.lucid_words.proofs.command.with_mode_options.Goals as goal

-- each argument in turn
pub returns : goal.returns
returns c = λ app was.
    let after1 = c.with_flag-command.ensures _ was in
    let after2 = c.with_number-command.ensures _ after1 in
    let after3 = c.with_text-command.ensures _ after2 in
    let after4 = c.with_flag-command-2.ensures _ after3 in
    let after5 = c.with-command.ensures _ c.time_option.ensures.rule _ after4 in
    let after6 = c.with_text-command-2.ensures _ after5 in
    let after7 = c.with_flag-command-3.ensures _ after6 in
    c.with_flag.ensures _ after7
