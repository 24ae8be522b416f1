-- The function of elements gives each element.
use Rattle.lucid_value.proofs.Common.{◌≡◌, ℕ, List, [], ◌∷◌, ◌++◌, Bool, true, false, Option, Some, None, refl, sym, ap, ◌∙◌, subst, arith, reverse, nat_eq, nat_le, if◌then◌else◌, list_all, both_true, and_parts, leb-true, le-leb, eqb-true, reverse-append, reverse-reverse, PlainValue, list, fault, weight, nesting, within_limits, Denotes, denotes_list, Reads, ReadsLine, State, state, start, runs, opened, is_atom_byte, after_blanks, Done, leb-false}
use Rattle.std.proofs.Common.{length}
use Rattle.std.specs.Prelude.{slice_get}
use Rattle.lucid_value.specs.Texts.{value_or_fault}
use Rattle.lucid_value.specs.Lines.{lines_of, without_end, IsLineValue, line_value, line_unread, line_long, IsElementOf}
use Rattle.lucid_value.specs.Laws.{ElementIs, OneElement}
use Rattle.lucid_value.specs.Elements.{last_quote_off, quotes_off, whole_list, value_by_kind, if_within_limits, value_read, trimmed, line_value_of, element_of_line, element}
use Rattle.lucid_value.proofs.AtomValues.{atom_read, atom_bytes, atom_denotes}
use Rattle.lucid_value.proofs.ScanSound.{scan_sound, text_denotes}
use Rattle.lucid_value.proofs.ScanComplete.{scan_complete, text_reads, not_equal}
use Rattle.lucid_value.proofs.Fronts.{opened_is, list_marks}
use Rattle.lucid_value.proofs.Readings.{Kind, atomic, quoted, listed, kind}
use Rattle.lucid_value.proofs.Trimmed.{line_reads, reads_trimmed}

-- what the function reads, the bytes denote
last_quote : (b : ℕ) (bs inner : List ℕ) (m : Bool) → nat_eq b 39 ≡ m → (if m then Some (reverse bs) else None) ≡ Some inner → b ∷ bs ≡ 39 ∷ reverse inner
last_quote b bs inner true e h =
    let p = eqb-true b 39 e in let q : reverse bs ≡ inner = cc in
    ap (λ x. x ∷ bs) p ∙ ap (λ x. 39 ∷ x) (sym (reverse-reverse bs) ∙ ap reverse q)
last_quote b bs inner false e h = cc

last_quote_is : (bs inner : List ℕ) → last_quote_off bs ≡ Some inner → bs ≡ 39 ∷ reverse inner
last_quote_is [] inner h = cc
last_quote_is (b ∷ bs) inner h = last_quote b bs inner (nat_eq b 39) refl h

quotes_at : (b : ℕ) (bs inner : List ℕ) (m : Bool) → nat_eq b 96 ≡ m → (if m then last_quote_off (reverse bs) else None) ≡ Some inner
    → b ∷ bs ≡ 96 ∷ (inner ++ 39 ∷ [])
quotes_at b bs inner true e h =
    let p = eqb-true b 96 e in
    let q : bs ≡ inner ++ 39 ∷ [] =
    sym (reverse-reverse bs) ∙ ap reverse (last_quote_is (reverse bs) inner h) ∙ reverse-append (39 ∷ []) (reverse inner)
    ∙ ap (λ x. x ++ 39 ∷ []) (reverse-reverse inner) in
    ap (λ x. x ∷ bs) p ∙ ap (λ x. 96 ∷ x) q
quotes_at b bs inner false e h = cc

quotes_are : (bytes inner : List ℕ) → quotes_off bytes ≡ Some inner → bytes ≡ 96 ∷ (inner ++ 39 ∷ [])
quotes_are [] inner h = cc
quotes_are (b ∷ bs) inner h = quotes_at b bs inner (nat_eq b 96) refl h

list_denotes : (bytes tail : List ℕ) (o : Option State) (v : PlainValue) → bytes ≡ 91 ∷ 37 ∷ tail → runs (Some start) tail ≡ o → whole_list o ≡ Some v
    → Denotes bytes v
list_denotes bytes tail (Some (state Done bs vs outer)) v e r h =
    let p = scan_sound tail bs vs outer r in
    let k : list vs ≡ v = cc in
    subst (λ x. Denotes bytes x) k (subst (λ x. Denotes x (list vs)) (sym (e ∙ ap (λ x. 91 ∷ 37 ∷ x) p.ends)) (denotes_list p.inner vs p.denotes))
list_denotes bytes tail _ v e r h = cc

kind_denotes : (bytes : List ℕ) (q o : Option (List ℕ)) (v : PlainValue) → quotes_off bytes ≡ q → opened bytes ≡ o → value_by_kind q o bytes ≡ Some v
    → Denotes bytes v
kind_denotes bytes (Some inner) o v e f h = subst (λ x. Denotes x v) (sym (quotes_are bytes inner e)) (text_denotes inner v h)
kind_denotes bytes None (Some tail) v e f h = list_denotes bytes tail (runs (Some start) tail) v (opened_is bytes tail f) refl h
kind_denotes bytes None None v e f h = atom_denotes bytes v h

limited_reads : (bytes : List ℕ) (o : Option PlainValue) (v : PlainValue) → value_by_kind (quotes_off bytes) (opened bytes) bytes ≡ o
    → if_within_limits o ≡ Some v → Reads bytes v
limited_reads bytes None v e h = cc
limited_reads bytes (Some w) v e h = at (within_limits w) refl h
  where
    at : (m : Bool) → within_limits w ≡ m → (if m then Some w else None) ≡ Some v → Reads bytes v
    at true k h =
        let p = and_parts (nat_le (weight w) 65536) (nat_le (nesting w) 64) k in
        let q : w ≡ v = cc in
        subst (λ x. Reads bytes x) q
        (record { denotes = kind_denotes bytes (quotes_off bytes) (opened bytes) w refl refl e; light = leb-true _ _ p.0; flat = leb-true _ _ p.1 })
    at false k h = cc

read_sound : (bytes : List ℕ) (v : PlainValue) → value_read bytes ≡ Some v → Reads bytes v
unfolding value_read
read_sound bytes v h = limited_reads bytes (value_by_kind (quotes_off bytes) (opened bytes) bytes) v refl h

-- and what bytes read as, the function reads
no_quotes : (bytes : List ℕ) → list_all is_atom_byte bytes ≡ true → quotes_off bytes ≡ None
no_quotes [] h = refl
no_quotes (b ∷ bs) h = let e = not_equal b 96 (nat_eq b 96) refl refl (and_parts (is_atom_byte b) (list_all is_atom_byte bs) h).0 in rw e refl

no_marks : (bytes : List ℕ) → list_all is_atom_byte bytes ≡ true → opened bytes ≡ None
no_marks [] h = refl
no_marks (a ∷ []) h = refl
no_marks (a ∷ b ∷ bs) h = let e = not_equal a 91 (nat_eq a 91) refl refl (and_parts (is_atom_byte a) (list_all is_atom_byte (b ∷ bs)) h).0 in rw e refl

kind_reads : (bytes : List ℕ) (v : PlainValue) → Reads bytes v → Kind bytes v → value_by_kind (quotes_off bytes) (opened bytes) bytes ≡ Some v
kind_reads bytes v r (atomic v' a) =
    let b = atom_bytes bytes v r.denotes a in
    ap (λ q. value_by_kind q (opened bytes) bytes) (no_quotes bytes b) ∙ ap (λ o. value_by_kind None o bytes) (no_marks bytes b)
    ∙ atom_read bytes v r.denotes a r.light
kind_reads bytes v r (quoted inner e t) =
    let q : quotes_off bytes ≡ Some inner =
    ap quotes_off e ∙ ap last_quote_off (reverse-append inner (39 ∷ [])) ∙ ap Some (reverse-reverse inner) in
    ap (λ x. value_by_kind x (opened bytes) bytes) q ∙ text_reads inner t (omega (arith, r.light))
kind_reads bytes v r (listed inner vs e) =
    let m = list_marks bytes vs r.denotes in
    let c = scan_complete m.inner vs m.denotes r.light r.flat in
    ap (λ x. value_by_kind (quotes_off x) (opened x) x) m.parts ∙ ap whole_list c.reads

read_complete : (bytes : List ℕ) (v : PlainValue) → Reads bytes v → value_read bytes ≡ Some v
unfolding value_read
read_complete bytes v r =
    let e : within_limits v ≡ true = both_true (le-leb _ _ r.light) (le-leb _ _ r.flat) in
    ap if_within_limits (kind_reads bytes v r (kind bytes v r.denotes)) ∙ rw e refl

line_sound : (line : List ℕ) (v : PlainValue) → value_read (trimmed line) ≡ Some v → ReadsLine line v
line_sound line v h = line_reads line (trimmed line) v (reverse-reverse (after_blanks (reverse (after_blanks line)))) (read_sound (trimmed line) v h)

line_complete : (line : List ℕ) (v : PlainValue) → ReadsLine line v → value_read (trimmed line) ≡ Some v
line_complete line v r = read_complete (trimmed line) v (reads_trimmed line (trimmed line) v (reverse-reverse (after_blanks (reverse (after_blanks line)))) r)

line_is : (line : List ℕ) → IsLineValue line (line_value_of line)
unfolding line_value_of
line_is line = at (nat_le (length line) 4194304) (value_read (trimmed line)) refl refl
  where
    at : (m : Bool) (o : Option PlainValue) → nat_le (length line) 4194304 ≡ m → value_read (trimmed line) ≡ o
        → IsLineValue line (if m then value_or_fault o else fault)
    at true (Some v) e f = line_value (leb-true _ _ e) (line_sound line v f)
    at true None e f = line_unread (leb-true _ _ e) (λ v r. cc (line_complete line v r))
    at false o e f = line_long (leb-false _ _ e)

one_line_value : (line : List ℕ) (v : PlainValue) → IsLineValue line v → v ≡ line_value_of line
unfolding line_value_of
one_line_value line v (line_value le r) = let e = le-leb _ _ le in let f = line_complete line v r in rw (e, f) refl
one_line_value line v (line_unread le n) = let e = le-leb _ _ le in at (value_read (trimmed line)) refl e
  where
    at : (o : Option PlainValue) → value_read (trimmed line) ≡ o → nat_le (length line) 4194304 ≡ true
        → fault ≡ (if nat_le (length line) 4194304 then value_or_fault o else fault)
    at (Some w) f e = absurd (n w (line_sound line w f))
    at None f e = rw e refl
one_line_value line v (line_long lt) = at (nat_le (length line) 4194304) refl
  where
    at : (m : Bool) → nat_le (length line) 4194304 ≡ m → fault ≡ (if m then value_or_fault (value_read (trimmed line)) else fault)
    at true e = absurd (omega (arith, leb-true _ _ e))
    at false e = refl

pub element_is : ElementIs
unfolding element
element_is bytes j = at (slice_get (lines_of bytes) j)
  where
    at : (o : Option (List ℕ)) → IsElementOf o (element_of_line o)
    at None = refl
    at (Some line) = line_is (without_end line)

pub one_element : OneElement
unfolding element
one_element bytes j v h = at (slice_get (lines_of bytes) j) h
  where
    at : (o : Option (List ℕ)) → IsElementOf o v → v ≡ element_of_line o
    at None h = h
    at (Some line) h = one_line_value (without_end line) v h
