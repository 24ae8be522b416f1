-- The words NAME=FILE, as the code has them.
use Rattle.lucid_top.proofs.Common.{◌≡◌, ℕ, ◌+◌, ◌<◌, true, false, List, length, map, drop, get_or, Some, None, refl, ap, sym, subst, ◌∙◌, add-one, string_bytes, slice_get, option_map, option_and_then, slice_get-map, slice_get-get_or, same_name, plain_given, Stop, IsRefusalOf, Given, file_given, word_refusal, refusal_at, AreRightBelow, RefusedFirst, RefusesGiven, by_word, below_more, drop-cons, take-map}
use Rattle.std.proofs.Common.{take}
use Rattle.std.specs.Prelude.{cond}
use Rattle.lucid_scope.proofs.Names.{not_same, same_itself}
use Rattle.lucid_words.specs.declared.Given.{Given as Word}
use Rattle.lucid_report.specs.declared.stop.Stop.TheVariants as stop

pub same_if : (x y : List ℕ) → x ≡ y → same_name x y ≡ true
same_if x y e = subst (λ z. same_name x z ≡ true) e (same_itself x)

-- the file given by the words from one on, by the word there
given_from : (ws : List Word) (i : ℕ) (d : Word) (n : List ℕ) → i < length ws
    → file_given (map plain_given (drop i ws)) n ≡ cond (same_name n (get_or ws i d).name) (Some (string_bytes (get_or ws i d).file))
    (file_given (map plain_given (drop (i + 1) ws)) n)
given_from ws i d n h = rw (add-one, drop-cons ws i d h) refl

-- the word at an index has the name, and those before it have not
pub given_here : (ws : List Word) (i : ℕ) (d : Word) (n : List ℕ) → i < length ws → n ≡ (get_or ws i d).name
    → file_given (map plain_given (drop i ws)) n ≡ file_given (map plain_given ws) n
    → Some (string_bytes (get_or ws i d).file) ≡ file_given (map plain_given ws) n
given_here ws i d n h same so_far =
    let yes : same_name n (get_or ws i d).name ≡ true = same_if n (get_or ws i d).name same in
    let step = given_from ws i d n h in
    sym (ap (λ b. cond b (Some (string_bytes (get_or ws i d).file)) (file_given (map plain_given (drop (i + 1) ws)) n)) yes) ∙ sym step ∙ so_far

pub given_later : (ws : List Word) (i : ℕ) (d : Word) (n : List ℕ) → i < length ws → (n ≡ (get_or ws i d).name → ⊥)
    → file_given (map plain_given (drop i ws)) n ≡ file_given (map plain_given ws) n
    → file_given (map plain_given (drop (i + 1) ws)) n ≡ file_given (map plain_given ws) n
given_later ws i d n h differ so_far =
    let no : same_name n (get_or ws i d).name ≡ false = not_same n (get_or ws i d).name differ in
    let step = given_from ws i d n h in
    sym (ap (λ b. cond b (Some (string_bytes (get_or ws i d).file)) (file_given (map plain_given (drop (i + 1) ws)) n)) no) ∙ sym step ∙ so_far

-- the word of a number is refused by those before it
refusal_here : (free : List (List ℕ)) (ws ys : List Word) (k : ℕ) (word : Word) → k < length ws → word ≡ get_or ws k word → ys ≡ take k ws
    → refusal_at free (map plain_given ws) k ≡ word_refusal free (map plain_given ys) word.name
refusal_here free ws ys k word lt is front =
    let there : slice_get (map plain_given ws) k ≡ Some (plain_given word) =
    slice_get-map plain_given ws k ∙ ap (option_map plain_given) (slice_get-get_or ws k word lt ∙ ap Some (sym is)) in
    let before : take k (map plain_given ws) ≡ map plain_given ys = take-map plain_given k ws ∙ ap (map plain_given) (sym front) in
    ap (option_and_then (λ (w : List ℕ × List ℕ). word_refusal free (take k (map plain_given ws)) w.0)) there ∙ ap (λ g. word_refusal free g word.name) before

pub refused_here : (free : List (List ℕ)) (ws ys : List Word) (k : ℕ) (word : Word) (s : Stop) → k < length ws → word ≡ get_or ws k word → ys ≡ take k ws
    → AreRightBelow free (map plain_given ws) k → IsRefusalOf (λ why. word_refusal free (map plain_given ys) word.name ≡ Some why) s
    → IsRefusalOf (RefusedFirst free (map plain_given ws)) s
refused_here free ws ys k word (stop.Refused why) lt is front right refused =
    record { number = k; right = right; is = refusal_here free ws ys k word lt is front ∙ refused }
refused_here free ws ys k word stop.NoMemory lt is front right refused = tt
refused_here free ws ys k word _ lt is front right refused = absurd refused

-- one word more is right
pub right_more : (free : List (List ℕ)) (ws ys : List Word) (k : ℕ) (word : Word) → k < length ws → word ≡ get_or ws k word → ys ≡ take k ws
    → AreRightBelow free (map plain_given ws) k → word_refusal free (map plain_given ys) word.name ≡ None → AreRightBelow free (map plain_given ws) (k + 1)
right_more free ws ys k word lt is front right here =
    below_more (λ j. refusal_at free (map plain_given ws) j ≡ None) k right (refusal_here free ws ys k word lt is front ∙ here)

-- a word that is refused refuses the words
pub given_refused : (free : List (List ℕ)) (given : Given) (s : Stop) → IsRefusalOf (RefusedFirst free given) s → IsRefusalOf (RefusesGiven free given) s
given_refused free given (stop.Refused why) refused = by_word refused
given_refused free given stop.NoMemory refused = tt
given_refused free given _ refused = absurd refused
