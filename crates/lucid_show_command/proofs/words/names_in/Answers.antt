use Rattle.lucid_show_command.proofs.Common.{List, map, ap, sym, ◌∙◌, string_bytes, err_from_is_err_and}
use Rattle.std.specs.Option.{option_map}
use Rattle.clap.specs.Words.{Text}
use Rattle.lucid_words.specs.Asked.{PlainWords, words_asked}
use Rattle.lucid_show_command.proofs.words.names_in.Goals as goal

pub returns-in_err-words : goal.returns-in_err-words
returns-in_err-words c =
    let p = err_from_is_err_and c.from_residual-in_err-words.result c.from_residual-in_err-words.ensures.1 in
    rw (p.1, p.2) (λ usage. ap (λ (texts : List Text). option_map (λ (w : PlainWords). w.columns) (words_asked texts))
    (sym (ap (map (string_bytes {Z = Rattle.std.specs.Global.Global})) c.deref.ensures.value ∙ c.in_ok-texts.ensures))
    ∙ ap (option_map (λ (w : PlainWords). w.columns)) (c.in_err-words.ensures.asked usage))

pub returns : goal.returns
returns c =
    rw c.replace.ensures.value (ap (λ (texts : List Text). option_map (λ (w : PlainWords). w.columns) (words_asked texts))
    (sym (ap (map (string_bytes {Z = Rattle.std.specs.Global.Global})) c.deref.ensures.value ∙ c.in_ok-texts.ensures))
    ∙ ap (option_map (λ (w : PlainWords). w.columns)) c.in_ok-words.ensures.asked)
