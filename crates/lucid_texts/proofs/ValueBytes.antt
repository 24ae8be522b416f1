-- No name has a blank (32) or a line end (10), and no value's text a line end.
use Rattle.lucid_texts.proofs.Common.{◌≡◌, ℕ, ◌≤◌, ◌^◌, suc, true, false, ◌&&◌, List, [], ◌∷◌, refl, sym, ap, ◌∙◌, arith, decimal, IsTrue, is_ascii_alphanumeric, list_all, and_parts, ne_eqb, ltb-true, PlainValue, is_value, value_text, Lacks, pos, negsuc, codes, is_ascii_alphabetic, decimal_is_IsNumeral_wide}
use Rattle.std.specs.Prelude.{not}
use Rattle.lucid_value.specs.Plain.{int, truth, word, text, list, eod, fault, Items, no_items, item, well_formed, all_well_formed, in_range, all_in_range, within_limits, may_be_held, is_wordlike, spells_constant, is_text_byte}
use Rattle.lucid_value.specs.Names.{is_name, is_namelike, is_name_byte, is_reserved}
use Rattle.lucid_value.specs.ValueText.{items_text}
use Rattle.lucid_texts.proofs.Bytes.{lacks-append, lacks_by, digits_lack}

-- a name has neither a blank nor a line end
name_lacks_by : (c : ℕ) → is_ascii_alphabetic c ≡ false → is_name_byte c ≡ false → (n : List ℕ) → is_namelike n ≡ true → Lacks c n
name_lacks_by c a f [] h = absurd (cc)
name_lacks_by c a f (b ∷ bs) h =
    let k = and_parts (is_ascii_alphabetic b) (list_all is_name_byte bs) h in
    (ne_eqb b c (λ e. let q : true ≡ false = sym k.0 ∙ (ap is_ascii_alphabetic e ∙ a) in cc), lacks_by c is_name_byte f bs k.1)

pub name_lacks : (c : ℕ) → is_ascii_alphabetic c ≡ false → is_name_byte c ≡ false → (n : List ℕ) → IsTrue (is_name n) → Lacks c n
name_lacks c a f n h = name_lacks_by c a f n (and_parts (is_namelike n) (not (is_reserved n)) h).0

-- a value's text has no line end
word_lacks : (bs : List ℕ) → is_wordlike bs ≡ true → Lacks 10 bs
word_lacks [] h = absurd (cc)
word_lacks (b ∷ bs) h =
    let k = and_parts (is_ascii_alphabetic b) (list_all is_ascii_alphanumeric bs) h in
    (ne_eqb b 10 (λ e. let q : true ≡ false = sym k.0 ∙ ap is_ascii_alphabetic e in cc), lacks_by 10 is_ascii_alphanumeric refl bs k.1)

number_lacks : (n : ℕ) → n ≤ 2 ^ 127 → Lacks 10 (decimal n)
number_lacks n h = digits_lack 10 (omega arith) (decimal n) (decimal_is_IsNumeral_wide n (omega arith)).0.1

mutual
  text_lacks : (v : PlainValue) → well_formed v ≡ true → in_range v ≡ true → Lacks 10 (value_text v)
  text_lacks (int (pos n)) f r = let h = ltb-true n (2 ^ 127) r in number_lacks n (omega arith)
  text_lacks (int (negsuc n)) f r = let h = ltb-true n (2 ^ 127) r in (refl, number_lacks (suc n) (omega arith))
  text_lacks (truth true) f r = (refl, (refl, (refl, (refl, tt))))
  text_lacks (truth false) f r = (refl, (refl, (refl, (refl, (refl, tt)))))
  text_lacks (word bs) f r = word_lacks bs (and_parts (is_wordlike bs) (not (spells_constant bs)) f).0
  text_lacks (text bs) f r = (refl, lacks-append 10 bs (39 ∷ []) (lacks_by 10 is_text_byte refl bs f) (refl, tt))
  text_lacks (list vs) f r = (refl, (refl, lacks-append 10 (items_text vs) (codes " %]") (items_lack vs f r) (refl, (refl, (refl, tt)))))
  text_lacks eod f r = (refl, (refl, (refl, tt)))
  text_lacks fault f r = (refl, (refl, (refl, (refl, (refl, tt)))))

  items_lack : (vs : Items) → all_well_formed vs ≡ true → all_in_range vs ≡ true → Lacks 10 (items_text vs)
  items_lack no_items f r = tt
  items_lack (item v vs) f r =
      let p = and_parts (may_be_held v && well_formed v) (all_well_formed vs) f in
      let q = and_parts (may_be_held v) (well_formed v) p.0 in
      let s = and_parts (in_range v) (all_in_range vs) r in
      (refl, lacks-append 10 (value_text v) (items_text vs) (text_lacks v q.1 s.0) (items_lack vs p.1 s.1))

pub value_lacks : (v : PlainValue) → IsTrue (is_value v) → Lacks 10 (value_text v)
value_lacks v h =
    let p = and_parts (well_formed v && in_range v) (within_limits v) h in
    let q = and_parts (well_formed v) (in_range v) p.0 in text_lacks v q.0 q.1
