-- The line of a certificate's last judgment.
use Rattle.lucid_top.proofs.Common.{◌≡◌, ℕ, ◌-◌, ◌<◌, List, [], ◌∷◌, ◌++◌, length, map, get_or, Some, sym, ap, ◌∙◌, arith, codes, slice_get, option_map, slice_get-map, slice_get-get_or, length-map, Why, IsLastLine}
use Rattle.std.proofs.Common.{append_assoc}
use Rattle.std.proofs.lemmas.List.{append-nil}
use Rattle.std.specs.Prelude.{decimal}
use Rattle.lucid_value.specs.ValueText.{value_text}
use Rattle.lucid_value.specs.View.{plain}
use Rattle.lucid_texts.specs.Words.{spaced}
use Rattle.lucid_cert_rules.specs.Certificates.{plain_judgment}
use Rattle.lucid_cert_rules.specs.declared.rows.JudgmentRow.{JudgmentRow}

-- a text, behind it a word, a blank and a number, and the end of the line
spelled : (text digits : List ℕ) → ((text ++ codes " at") ++ spaced (digits ∷ [])) ++ codes "\n" ≡ text ++ (codes " at " ++ (digits ++ codes "\n"))
spelled text digits =
    ap (λ z. ((text ++ codes " at") ++ 32 ∷ z) ++ codes "\n") (append-nil digits)
    ∙ append_assoc (text ++ codes " at") (32 ∷ digits) (codes "\n")
    ∙ append_assoc text (codes " at") (32 ∷ (digits ++ codes "\n"))

pub last_line : (w : Why) (rows : List JudgmentRow) (row : JudgmentRow) (line none a b c d : List ℕ) → map plain_judgment rows ≡ w.judgments
    → 0 < length w.judgments → row ≡ get_or rows (length rows - 1) row
    → none ≡ [] → a ≡ none ++ value_text (plain row.value) → b ≡ a ++ codes " at" → c ≡ b ++ spaced (decimal row.time ∷ []) → d ≡ c ++ codes "\n" → line ≡ d → IsLastLine w line
last_line w rows row line none a b c d are some is empty first word number end whole =
    let long : length rows ≡ length w.judgments = sym (length-map rows plain_judgment) ∙ ap length are in
    let i : ℕ = length rows - 1 in
    let at : slice_get w.judgments i ≡ Some (plain_judgment row) =
    ap (λ l. slice_get l i) (sym are) ∙ slice_get-map plain_judgment rows i
    ∙ ap (option_map plain_judgment) (slice_get-get_or rows i row (omega (arith, some, long)) ∙ ap Some (sym is)) in (
      plain_judgment row,
      (i, omega (arith, some, long), at),
      whole ∙ end
          ∙ ap (λ z. z ++ codes "\n") (number ∙ ap (λ z. z ++ spaced (decimal row.time ∷ [])) (word ∙ ap (λ z. z ++ codes " at") (first ∙ ap (λ z. z ++ value_text (plain row.value)) empty)))
          ∙ spelled (value_text (plain row.value)) (decimal row.time),
    )
