-- A line without its blanks at both ends.
use Rattle.lucid_value.proofs.Common.{◌≡◌, ℕ, List, [], ◌∷◌, ◌++◌, Bool, true, false, refl, sym, ap, ◌∙◌, subst, reverse, Some, None, if◌then◌else◌, both_true, and_parts, reverse-append, reverse-reverse, PlainValue, plain, Value, is_blank, all_blank, Reads, ReadsLine, after_blanks, IsRead}
use Rattle.lucid_value.specs.Reading.{ReadsAsNone}
use Rattle.lucid_value.proofs.Solid.{is_solid, solid_front, solid_back}

-- the blanks in front
record Blanks (bs : List ℕ) : Type 0 where
  gap : List ℕ
  blank : all_blank gap ≡ true
  parts : bs ≡ gap ++ after_blanks bs

blanks : (bs : List ℕ) → Blanks bs
blanks [] = record { gap = []; blank = refl; parts = refl }
blanks (b ∷ bs) = at (is_blank b) refl (blanks bs)
  where
    at : (m : Bool) → is_blank b ≡ m → Blanks bs → Blanks (b ∷ bs)
    at true e r = record { gap = b ∷ r.gap; blank = both_true e r.blank; parts = rw e (ap (λ x. b ∷ x) r.parts) }
    at false e r = record { gap = []; blank = refl; parts = rw e refl }

after_gap : (gap bs : List ℕ) → all_blank gap ≡ true → is_solid bs ≡ true → after_blanks (gap ++ bs) ≡ bs
after_gap [] [] g s = cc
after_gap [] (b ∷ bs) g s = at (is_blank b) refl s
  where
    at : (m : Bool) → is_blank b ≡ m → (if m then false else true) ≡ true → after_blanks (b ∷ bs) ≡ b ∷ bs
    at true e s = cc
    at false e s = rw e refl
after_gap (g ∷ gap) bs h s = let k = and_parts (is_blank g) (all_blank gap) h in let e = k.0 in rw e (after_gap gap bs k.1 s)

all_blank_append : (xs ys : List ℕ) → all_blank xs ≡ true → all_blank ys ≡ true → all_blank (xs ++ ys) ≡ true
all_blank_append [] ys h k = k
all_blank_append (x ∷ xs) ys h k = let p = and_parts (is_blank x) (all_blank xs) h in both_true p.0 (all_blank_append xs ys p.1 k)

reverse_cons : (x : ℕ) (xs : List ℕ) → reverse (x ∷ xs) ≡ reverse xs ++ x ∷ []
reverse_cons x xs = reverse-append (x ∷ []) xs

all_blank_reverse : (xs : List ℕ) → all_blank xs ≡ true → all_blank (reverse xs) ≡ true
all_blank_reverse [] h = refl
all_blank_reverse (x ∷ xs) h =
    let p = and_parts (is_blank x) (all_blank xs) h in
    ap all_blank (reverse_cons x xs) ∙ all_blank_append (reverse xs) (x ∷ []) (all_blank_reverse xs p.1) (both_true p.0 refl)

solid_append : (xs ys : List ℕ) → is_solid xs ≡ true → is_solid (xs ++ ys) ≡ true
solid_append [] ys h = cc
solid_append (x ∷ xs) ys h = h

pub line_reads : (line bytes : List ℕ) (v : PlainValue) → reverse bytes ≡ after_blanks (reverse (after_blanks line)) → Reads bytes v → ReadsLine line v
line_reads line bytes v e r =
    let b = blanks line in
    let a = blanks (reverse (after_blanks line)) in
    let k : after_blanks line ≡ bytes ++ reverse a.gap =
    sym (reverse-reverse (after_blanks line)) ∙ ap reverse (a.parts ∙ ap (λ x. a.gap ++ x) (sym e)) ∙ reverse-append a.gap (reverse bytes)
    ∙ ap (λ x. x ++ reverse a.gap) (reverse-reverse bytes) in
    record {
      before = b.gap;
      bytes = bytes;
      after = reverse a.gap;
      parts = b.parts ∙ ap (λ x. b.gap ++ x) k;
      blank_before = b.blank;
      blank_after = all_blank_reverse a.gap a.blank;
      reads = r;
    }

pub reads_trimmed : (line bytes : List ℕ) (v : PlainValue) → reverse bytes ≡ after_blanks (reverse (after_blanks line)) → ReadsLine line v → Reads bytes v
reads_trimmed line bytes v e r =
    let f : after_blanks line ≡ r.bytes ++ r.after =
    ap after_blanks r.parts ∙ after_gap r.before (r.bytes ++ r.after) r.blank_before (solid_append r.bytes r.after (solid_front r.bytes v r.reads.denotes)) in
    let k : after_blanks (reverse (after_blanks line)) ≡ reverse r.bytes =
    ap (λ x. after_blanks (reverse x)) f ∙ ap after_blanks (reverse-append r.bytes r.after)
    ∙ after_gap (reverse r.after) (reverse r.bytes) (all_blank_reverse r.after r.blank_after) (solid_back r.bytes v r.reads.denotes) in
    let m : bytes ≡ r.bytes = sym (reverse-reverse bytes) ∙ ap reverse (e ∙ k) ∙ reverse-reverse r.bytes in
    subst (λ x. Reads x v) (sym m) r.reads

pub trimmed_reads : (line start bytes : List ℕ) (v : Value) → start ≡ after_blanks line → reverse bytes ≡ after_blanks (reverse start) → IsRead (Some v) bytes
    → ReadsLine line (plain v)
trimmed_reads line start bytes v s e r = line_reads line bytes (plain v) (e ∙ ap (λ x. after_blanks (reverse x)) s) r

pub trimmed_unread : (line start bytes : List ℕ) → start ≡ after_blanks line → reverse bytes ≡ after_blanks (reverse start) → IsRead None bytes
    → ReadsAsNone line
trimmed_unread line start bytes s e r = λ v k. r v (reads_trimmed line bytes v (e ∙ ap (λ x. after_blanks (reverse x)) s) k)
