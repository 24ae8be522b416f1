use Rattle.std.proofs.Common.{◌≡◌, ℕ, ◌+◌, ◌<◌, true, false, length, map, min, take, Option, ap, subst, ◌∙◌}
use Rattle.std.specs.Prelude.{IfSome, IfNone}
use Rattle.std.specs.String.{string_bytes}
use Rattle.std.proofs.lemmas.Result.{IfOk-weaker}
use Rattle.lucid_explain_report.specs.Said.{goes_on, wrong_text, lacking_text, SaysWords}
use Rattle.lucid_explain_report.proofs.Telling.{wrong_word, lacking_word}
use Rattle.lucid_explain_report.proofs.usage.text_of_words.Goals as goal

pub returns-in-Some : goal.returns-in-Some
returns-in-Some c =
    let words = c.args.words.now in
    let P : Option ℕ → Type 0 = λ o. IfSome o (λ k. (k < length words) × (k < 100)) in
    let Q : Option ℕ → Type 0 = λ o. IfSome o (λ k. goes_on (map string_bytes (take (k + 1) words)) ≡ false) in
    let R : Option ℕ → Type 0 = λ o. IfSome o (λ k. (j : ℕ) → j < k → goes_on (map string_bytes (take (j + 1) words)) ≡ true) in
    let within = subst P c.in-Some.is c.in_ok-number.ensures.within in
    IfOk-weaker c.text_of_wrong.result (λ text. text.items ≡ wrong_text c.deref.result.now) (λ text. SaysWords (map string_bytes words) text.items)
    (λ text e. wrong_word words c.in-Some.number c.index-words-number.result text.items within.0 within.1 c.index-words-number.is
    (subst R c.in-Some.is c.in_ok-number.ensures.first) (subst Q c.in-Some.is c.in_ok-number.ensures.wrong) (e ∙ ap wrong_text c.deref.ensures))
    c.text_of_wrong.ensures

pub returns-in-None : goal.returns-in-None
returns-in-None c =
    let words = c.args.words.now in
    let P : Option ℕ → Type 0 = λ o. IfNone o ((j : ℕ) → j < min (length words) 100 → goes_on (map string_bytes (take (j + 1) words)) ≡ true) in
    IfOk-weaker c.from_slice.result (λ text. text.items ≡ lacking_text) (λ text. SaysWords (map string_bytes words) text.items)
    (λ text e. lacking_word words text.items (subst P c.in-None.is c.in_ok-number.ensures.none) e) c.from_slice.ensures.items
