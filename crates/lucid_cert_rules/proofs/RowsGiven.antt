-- The words of a row that fits are read as it.
use Rattle.lucid_cert_rules.proofs.Common.{◌≡◌, ℕ, ◌^◌, List, [], ◌∷◌, ◌++◌, map, length, Some, refl, sym, ap, ◌∙◌, subst, arith, decimal, AllByRecursion, join_with_byte, same_Some, value_text, words_of, AreBelow, Lacks, IsSolid, solid_lacks, decimal_solid, PlainJudgment, WhyRow, context_row, judgment_row, judgment_numbers, row_head, row_rest, row_line, ContextFits, JudgmentFits, call_of, frozen_of, context_of, front_of, take_uses, judgment_tail, ContextRow, Call, Frozen, Front}
use Rattle.lucid_texts.proofs.Bytes.{decimals_solid}
use Rattle.lucid_texts.proofs.WordLemmas.{spaced_words, take_number-decimal}
use Rattle.lucid_cert_rules.proofs.WordsInFront.{words_in_front}

-- what stands behind the first word of a row's line, and its blank
abbrev pub row_tail : WhyRow → List ℕ
row_tail r = join_with_byte 32 (row_rest r)

pub line_parts : (r : WhyRow) → row_line r ≡ row_head r ++ 32 ∷ row_tail r
line_parts (context_row (Call b p c)) = refl
line_parts (context_row (Frozen b t)) = refl
line_parts (judgment_row j) = refl

head_solid : (r : WhyRow) → IsSolid (row_head r)
head_solid (context_row (Call b p c)) = refl
head_solid (context_row (Frozen b t)) = refl
head_solid (judgment_row j) = refl

pub head_lacks : (r : WhyRow) → Lacks 32 (row_head r)
head_lacks r = solid_lacks 32 refl (row_head r) (head_solid r)

call_of-words : (b p c : ℕ) → ContextFits (Call b p c) → call_of (row_rest (context_row (Call b p c))) ≡ Some (Call b p c)
unfolding call_of
call_of-words b p c h =
    rw (
      take_number-decimal (2 ^ 32) b (decimal p ∷ decimal c ∷ []) (omega arith) h.0,
      take_number-decimal (2 ^ 32) p (decimal c ∷ []) (omega arith) h.1.0,
      take_number-decimal (2 ^ 32) c [] (omega arith) h.1.1,
    ) refl

frozen_of-words : (b t : ℕ) → ContextFits (Frozen b t) → frozen_of (row_rest (context_row (Frozen b t))) ≡ Some (Frozen b t)
unfolding frozen_of
frozen_of-words b t h = rw (take_number-decimal (2 ^ 32) b (decimal t ∷ []) (omega arith) h.0, take_number-decimal (2 ^ 63) t [] (omega arith) h.1) refl

-- A context's row is read from the first word of its line and what is behind.
pub context_of-parts : (c : ContextRow) → ContextFits c → context_of (row_head (context_row c)) (row_tail (context_row c)) ≡ Some c
unfolding context_of
context_of-parts (Call b p c) h =
    ap call_of (spaced_words (decimal b) (decimal p ∷ decimal c ∷ [])
    (decimal_solid b (omega (arith, h.0)), (decimal_solid p (omega (arith, h.1.0)), (decimal_solid c (omega (arith, h.1.1)), tt)))) ∙ call_of-words b p c h
context_of-parts (Frozen b t) h =
    ap frozen_of (spaced_words (decimal b) (decimal t ∷ []) (decimal_solid b (omega (arith, h.0)), (decimal_solid t (omega (arith, h.1)), tt)))
    ∙ frozen_of-words b t h

-- the numbers of a judgment in front of its uses
abbrev pub front_in : PlainJudgment → Front
front_in j = record { node = j.node; context = j.context; time = j.time; space = j.space; count = length j.uses }

-- and the words behind them
abbrev pub behind_front : PlainJudgment → List (List ℕ)
behind_front j = map decimal j.uses ++ words_of (value_text j.value)

pub numbers_solid : (j : PlainJudgment) → JudgmentFits j → AllByRecursion IsSolid (map decimal (judgment_numbers j))
numbers_solid j h =
    let s = h.shown in (
      decimal_solid j.node (omega (arith, h.node)),
      (
        decimal_solid j.context (omega (arith, h.context)),
        (
          decimal_solid j.time (omega (arith, s.time)),
          (
            decimal_solid j.space (omega (arith, s.space)),
            (decimal_solid (length j.uses) (omega (arith, s.few)), decimals_solid (2 ^ 32) (omega arith) j.uses s.uses),
          ),
        ),
      ),
    )

front_of-numbers : (j : PlainJudgment) (ws : List (List ℕ)) → JudgmentFits j
    → front_of (decimal j.node ∷ decimal j.context ∷ decimal j.time ∷ decimal j.space ∷ decimal (length j.uses) ∷ ws) ≡ Some (front_in j, ws)
unfolding front_of
front_of-numbers j ws h =
    let s = h.shown in
    rw (
      take_number-decimal (2 ^ 32) j.node (decimal j.context ∷ decimal j.time ∷ decimal j.space ∷ decimal (length j.uses) ∷ ws) (omega arith) h.node,
      take_number-decimal (2 ^ 32) j.context (decimal j.time ∷ decimal j.space ∷ decimal (length j.uses) ∷ ws) (omega arith) h.context,
      take_number-decimal (2 ^ 63) j.time (decimal j.space ∷ decimal (length j.uses) ∷ ws) (omega arith) s.time,
      take_number-decimal (2 ^ 63) j.space (decimal (length j.uses) ∷ ws) (omega arith) s.space,
      take_number-decimal (2 ^ 32) (length j.uses) ws (omega arith) s.few,
    ) refl

-- The numbers in front are read from a judgment's line,
pub front_of-tail : (j : PlainJudgment) → JudgmentFits j → front_of (words_of (judgment_tail j)) ≡ Some (front_in j, behind_front j)
front_of-tail j h = ap front_of (words_in_front (map decimal (judgment_numbers j)) (value_text j.value) (numbers_solid j h))
    ∙ front_of-numbers j (behind_front j) h

-- and so are the uses.
pub take_uses-words : (us : List ℕ) (ws : List (List ℕ)) → AreBelow (2 ^ 32) us → take_uses (length us) (map decimal us ++ ws) ≡ Some (us, ws)
take_uses-words [] ws h = refl
take_uses-words (u ∷ us) ws h = rw (take_number-decimal (2 ^ 32) u (map decimal us ++ ws) (omega arith) h.0, take_uses-words us ws h.1) refl

-- Bytes behind a judgment's first word whose front was read are those of this judgment's front, uses and value.
pub uses_of_tail : (t : List ℕ) (j : PlainJudgment) (f : Front) (ws : List (List ℕ)) → JudgmentFits j → t ≡ judgment_tail j
    → front_of (words_of t) ≡ Some (f, ws)
    → (f ≡ front_in j) × (take_uses f.count ws ≡ Some (j.uses, words_of (value_text j.value)))
uses_of_tail t j f ws h e r =
    let same : (front_in j, behind_front j) ≡ (f, ws) =
    same_Some (front_in j, behind_front j) (f, ws) (sym (ap (λ (x : List ℕ). front_of (words_of x)) e ∙ front_of-tail j h) ∙ r) in
    let P : Front × List (List ℕ) → Type 0 = λ p. (p.0 ≡ front_in j) × (take_uses p.0.count p.1 ≡ Some (j.uses, words_of (value_text j.value))) in
    subst P same (refl, take_uses-words j.uses (words_of (value_text j.value)) h.shown.uses)
