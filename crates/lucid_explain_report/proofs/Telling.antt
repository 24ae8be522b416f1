-- The first word that doesn't go with those before it.
use Rattle.std.proofs.Common.{◌≡◌, ℕ, ◌+◌, ◌<◌, true, false, List, length, map, take, get_or, String, Global, min, ap, refl, sym, subst, ◌∙◌}
use Rattle.std.specs.String.{string_bytes}
use Rattle.std.proofs.lemmas.List.{take-map, get_or-map, length-map}
use Rattle.std.proofs.lemmas.Option.{slice_get_read}
use Rattle.lucid_explain_report.specs.Said.{goes_on, GoOn, wrong_text, lacking_text, SaysWords, wrong, lacking}

-- what is said of the first words is said of their texts
gone_on : (words : List (String Global)) (n : ℕ) → ((j : ℕ) → j < n → goes_on (map string_bytes (take (j + 1) words)) ≡ true) → GoOn (map string_bytes words) n
gone_on words n go = λ k h. ap goes_on (take-map string_bytes (k + 1) words) ∙ go k h

pub wrong_word : (words : List (String Global)) (k : ℕ) (w : String Global) (text : List ℕ) → k < length words → k < 100 → w ≡ get_or words k w
    → ((j : ℕ) → j < k → goes_on (map string_bytes (take (j + 1) words)) ≡ true) → goes_on (map string_bytes (take (k + 1) words)) ≡ false
    → text ≡ wrong_text (string_bytes w) → SaysWords (map string_bytes words) text
wrong_word words k w text h few is go stuck e =
    let within : k < length (map string_bytes words) = simp length-map h in
    let read : string_bytes w ≡ get_or (map string_bytes words) k (string_bytes w) = ap string_bytes is
    ∙ sym (get_or-map string_bytes words k w (string_bytes w) h) in
    wrong k (string_bytes w) (slice_get_read (map string_bytes words) (length (map string_bytes words)) k (string_bytes w) refl within read) few
    (gone_on words k go)
    (ap goes_on (take-map string_bytes (k + 1) words) ∙ stuck) e

pub lacking_word : (words : List (String Global)) (text : List ℕ)
    → ((j : ℕ) → j < min (length words) 100 → goes_on (map string_bytes (take (j + 1) words)) ≡ true)
    → text ≡ lacking_text → SaysWords (map string_bytes words) text
lacking_word words text go e =
    let P : ℕ → Type 0 = λ n. GoOn (map string_bytes words) (min n 100) in
    lacking (subst P (sym (length-map words string_bytes)) (gone_on words (min (length words) 100) go)) e
