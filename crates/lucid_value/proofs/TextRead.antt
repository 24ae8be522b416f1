-- The text of a value denotes it.
use Rattle.lucid_value.proofs.Common.{◌≡◌, ℕ, suc, ◌≤◌, ◌^◌, [], ◌∷◌, ◌++◌, true, false, refl, sym, ◌∙◌, subst, arith, append_assoc, ◌&&◌, pos, neg_ℤ, nat_le, and_parts, leb-true, ltb-true, PlainValue, int, truth, word, text, list, eod, fault, Items, no_items, item, weight, nesting, may_be_held, well_formed, all_well_formed, within_limits, is_number, number_of, stands_apart, Denotes, denotes_number, denotes_minus, denotes_true, denotes_false, denotes_word, denotes_text, denotes_list, denotes_eod, denotes_fault, DenotesItems, denotes_none, denotes_item, items_text, negsuc, decimal, decimal_is_IsNumeral_wide}
use Rattle.lucid_value.specs.Plain.{in_range, all_in_range}
use Rattle.lucid_value.specs.ValueText.{value_text}
use Rattle.lucid_value.specs.Laws.{TextIsRead}
use Rattle.lucid_value.proofs.AtomValues.{numerals, digits_number}

digits : (n : ℕ) → n ≤ 2 ^ 127 → is_number (decimal n) ≡ true
digits n h = let k = decimal_is_IsNumeral_wide n (omega arith) in digits_number (decimal n) (numerals.from (decimal n) k.0.1) k.0.0

value : (n : ℕ) → n ≤ 2 ^ 127 → number_of (decimal n) ≡ n
value n h = let k = decimal_is_IsNumeral_wide n (omega arith) in numerals.same (decimal n) k.0.1 ∙ k.1

apart : (vs : Items) → stands_apart (items_text vs ++ 32 ∷ []) ≡ true
apart no_items = refl
apart (item v vs) = refl

mutual
  text_denotes_value : (v : PlainValue) → well_formed v ≡ true → in_range v ≡ true → Denotes (value_text v) v
  text_denotes_value (int (pos n)) f r =
      let h = ltb-true n (2 ^ 127) r in
      let e = value n (omega arith) in
      subst (λ x. Denotes (decimal n) (int (pos x))) e (denotes_number (decimal n) (digits n (omega arith)) (omega arith))
  text_denotes_value (int (negsuc n)) f r =
      let h = ltb-true n (2 ^ 127) r in
      let e = value (suc n) (omega arith) in
      subst (λ x. Denotes (45 ∷ decimal (suc n)) (int (neg_ℤ (pos x)))) e (denotes_minus (decimal (suc n)) (digits (suc n) (omega arith)) (omega arith))
  text_denotes_value (truth true) f r = denotes_true
  text_denotes_value (truth false) f r = denotes_false
  text_denotes_value (word bs) f r = denotes_word bs f
  text_denotes_value (text bs) f r = denotes_text bs f
  text_denotes_value (list vs) f r =
      subst (λ x. Denotes (91 ∷ 37 ∷ x) (list vs)) (append_assoc (items_text vs) (32 ∷ []) (37 ∷ 93 ∷ []))
      (denotes_list (items_text vs ++ 32 ∷ []) vs (text_denotes_items vs f r))
  text_denotes_value eod f r = denotes_eod
  text_denotes_value fault f r = denotes_fault

  text_denotes_items : (vs : Items) → all_well_formed vs ≡ true → all_in_range vs ≡ true → DenotesItems (items_text vs ++ 32 ∷ []) vs
  text_denotes_items no_items f r = denotes_none (32 ∷ []) refl
  text_denotes_items (item v vs) f r =
      let p = and_parts (may_be_held v && well_formed v) (all_well_formed vs) f in
      let q = and_parts (may_be_held v) (well_formed v) p.0 in
      let s = and_parts (in_range v) (all_in_range vs) r in
      subst (λ x. DenotesItems (32 ∷ x) (item v vs)) (sym (append_assoc (value_text v) (items_text vs) (32 ∷ [])))
      (denotes_item (32 ∷ []) (value_text v) (items_text vs ++ 32 ∷ []) v vs refl q.0 (text_denotes_value v q.1 s.0) (apart vs) (text_denotes_items vs p.1 s.1))

pub text_is_read : TextIsRead
text_is_read v h =
    let p = and_parts (well_formed v && in_range v) (within_limits v) h in
    let q = and_parts (well_formed v) (in_range v) p.0 in
    let l = and_parts (nat_le (weight v) 65536) (nat_le (nesting v) 64) p.1 in
    record { denotes = text_denotes_value v q.0 q.1; light = leb-true _ _ l.0; flat = leb-true _ _ l.1 }
