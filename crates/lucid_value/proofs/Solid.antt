-- What bytes denote a value, neither begin nor end with a blank.
use Rattle.lucid_value.proofs.Common.{◌≡◌, ℕ, List, [], ◌∷◌, ◌++◌, Bool, true, false, refl, sym, ap, ◌∙◌, arith, append_assoc, reverse, list_all, if◌then◌else◌, both_true, and_parts, reverse-append, PlainValue, is_blank, Denotes, denotes_number, denotes_minus, denotes_word, denotes_text, denotes_list, is_atom_byte, length-reverse}
use Rattle.std.proofs.Common.{◌<◌, length}
use Rattle.lucid_value.proofs.AtomValues.{is_atomic, atom_bytes}
use Rattle.lucid_value.proofs.ScanComplete.{denotes_some, blank_no_atom}

-- a byte stands first that is no blank
abbrev pub is_solid : List ℕ → Bool
is_solid [] = false
is_solid (b ∷ bs) = if is_blank b then false else true

atom_solid : (bs : List ℕ) → list_all is_atom_byte bs ≡ true → 0 < length bs → is_solid bs ≡ true
atom_solid [] h k = absurd (omega arith)
atom_solid (b ∷ bs) h k = at (is_blank b) refl
  where
    at : (m : Bool) → is_blank b ≡ m → (if m then false else true) ≡ true
    at true e = let p = (and_parts (is_atom_byte b) (list_all is_atom_byte bs) h).0 in cc (blank_no_atom b e)
    at false e = refl

all_append : (xs ys : List ℕ) → list_all is_atom_byte xs ≡ true → list_all is_atom_byte ys ≡ true → list_all is_atom_byte (xs ++ ys) ≡ true
all_append [] ys h k = k
all_append (x ∷ xs) ys h k = let p = and_parts (is_atom_byte x) (list_all is_atom_byte xs) h in both_true p.0 (all_append xs ys p.1 k)

all_reverse : (xs : List ℕ) → list_all is_atom_byte xs ≡ true → list_all is_atom_byte (reverse xs) ≡ true
all_reverse [] h = refl
all_reverse (x ∷ xs) h =
    let p = and_parts (is_atom_byte x) (list_all is_atom_byte xs) h in
    ap (list_all is_atom_byte) (reverse-append (x ∷ []) xs) ∙ all_append (reverse xs) (x ∷ []) (all_reverse xs p.1) (both_true p.0 refl)

snoc_solid : (xs : List ℕ) (x : ℕ) → is_blank x ≡ false → is_solid (reverse (xs ++ x ∷ [])) ≡ true
snoc_solid xs x h = ap is_solid (reverse-append xs (x ∷ [])) ∙ rw h refl

solid_reverse : (xs : List ℕ) → list_all is_atom_byte xs ≡ true → 0 < length xs → is_solid (reverse xs) ≡ true
solid_reverse xs h k = atom_solid (reverse xs) (all_reverse xs h) (omega (arith, length-reverse xs))

pub solid_front : (bs : List ℕ) (v : PlainValue) → Denotes bs v → is_solid bs ≡ true
solid_front bs v (denotes_number ds h lt) = atom_solid ds (atom_bytes ds v (denotes_number ds h lt) refl) (denotes_some ds v (denotes_number ds h lt))
solid_front bs v (denotes_word cs h) = atom_solid cs (atom_bytes cs v (denotes_word cs h) refl) (denotes_some cs v (denotes_word cs h))
solid_front bs v _ = refl

solid_atom_back : (bs : List ℕ) (v : PlainValue) → Denotes bs v → is_atomic v ≡ true → is_solid (reverse bs) ≡ true
solid_atom_back bs v d a = solid_reverse bs (atom_bytes bs v d a) (denotes_some bs v d)

pub solid_back : (bs : List ℕ) (v : PlainValue) → Denotes bs v → is_solid (reverse bs) ≡ true
solid_back bs v (denotes_number ds h lt) = solid_atom_back ds v (denotes_number ds h lt) refl
solid_back bs v (denotes_minus ds h le) = solid_atom_back (45 ∷ ds) v (denotes_minus ds h le) refl
solid_back bs v (denotes_word cs h) = solid_atom_back cs v (denotes_word cs h) refl
solid_back bs v (denotes_text cs h) = snoc_solid (96 ∷ cs) 39 refl
solid_back bs v (denotes_list cs vs d) =
    ap (λ x. is_solid (reverse (91 ∷ 37 ∷ x))) (sym (append_assoc cs (37 ∷ []) (93 ∷ []))) ∙ snoc_solid (91 ∷ 37 ∷ (cs ++ 37 ∷ [])) 93 refl
solid_back bs v _ = refl
