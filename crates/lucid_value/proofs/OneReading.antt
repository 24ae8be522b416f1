-- Bytes are read as at most one value, and at most one list stands in front of bytes.
use Rattle.lucid_value.proofs.Common.{◌≡◌, ℕ, zero, suc, ◌≤◌, List, [], ◌∷◌, ◌++◌, Bool, true, false, Some, refl, sym, ap, ◌∙◌, subst, arith, take, reverse, nat_lt, ltb-true, ltb-false, reverse-reverse, PlainValue, text, list, Items, weight, nesting, DenotesItems, Reads, IsListFront, state, start, runs, after_blanks, Done}
use Rattle.std.proofs.Common.{◌<◌, length}
use Rattle.lucid_value.specs.Laws.{OneReading, OneLineReading, OneListFront}
use Rattle.lucid_value.proofs.AtomValues.{atom_read}
use Rattle.lucid_value.proofs.ScanComplete.{runs_append, scan_complete}
use Rattle.lucid_value.proofs.Fronts.{list_marks}
use Rattle.lucid_value.proofs.Quotes.{front_is}
use Rattle.lucid_value.proofs.Readings.{Kind, atomic, quoted, listed, kind, no_atom_first, no_such, done_ends}
use Rattle.lucid_value.proofs.Trimmed.{reads_trimmed}

-- two lists that the same bytes denote
one_list : (bytes : List ℕ) (vs ws : Items) → Reads bytes (list vs) → Reads bytes (list ws) → vs ≡ ws
one_list bytes vs ws r s =
    let m = list_marks bytes vs r.denotes in
    let n = list_marks bytes ws s.denotes in
    let c = scan_complete m.inner vs m.denotes r.light r.flat in
    let d = scan_complete n.inner ws n.denotes s.light s.flat in
    let t : m.inner ++ 37 ∷ 93 ∷ [] ≡ n.inner ++ 37 ∷ 93 ∷ [] = cc (m.parts, n.parts) in
    let e : Some (state Done c.pending vs []) ≡ Some (state Done d.pending ws []) = sym c.reads ∙ ap (runs (Some start)) t ∙ d.reads in cc

one_at : (bytes : List ℕ) (v w : PlainValue) → Kind bytes v → Kind bytes w → Reads bytes v → Reads bytes w → v ≡ w
one_at bytes v w (atomic v' a) (atomic w' b) r s = cc (atom_read bytes v r.denotes a r.light, atom_read bytes w s.denotes b s.light)
one_at bytes v w (atomic v' a) (quoted inner e t) r s = absurd (no_atom_first 96 bytes (inner ++ 39 ∷ []) v refl r.denotes a e)
one_at bytes v w (atomic v' a) (listed inner vs e) r s = absurd (no_atom_first 91 bytes (37 ∷ (inner ++ 37 ∷ 93 ∷ [])) v refl r.denotes a e)
one_at bytes v w (quoted inner e t) (atomic w' b) r s = absurd (no_atom_first 96 bytes (inner ++ 39 ∷ []) w refl s.denotes b e)
one_at bytes v w (quoted inner e t) (quoted other f u) r s =
    let k : inner ++ 39 ∷ [] ≡ other ++ 39 ∷ [] = cc in ap text (front_is inner other 39 39 k)
one_at bytes v w (quoted inner e t) (listed other vs f) r s = absurd (no_such 96 91 _ _ refl (sym e ∙ f))
one_at bytes v w (listed inner vs e) (atomic w' b) r s = absurd (no_atom_first 91 bytes (37 ∷ (inner ++ 37 ∷ 93 ∷ [])) w refl s.denotes b e)
one_at bytes v w (listed inner vs e) (quoted other f u) r s = absurd (no_such 91 96 _ _ refl (sym e ∙ f))
one_at bytes v w (listed inner vs e) (listed other ws f) r s = ap list (one_list bytes vs ws r s)

pub one_reading : OneReading
one_reading bytes v w r s = one_at bytes v w (kind bytes v r.denotes) (kind bytes w s.denotes) r s

pub one_line_reading : OneLineReading
one_line_reading line v w r s =
    let trimmed = reverse (after_blanks (reverse (after_blanks line))) in
    let e = reverse-reverse (after_blanks (reverse (after_blanks line))) in
    one_reading trimmed v w (reads_trimmed line trimmed v e r) (reads_trimmed line trimmed w e s)

-- a list in front of bytes, as the scan reads it
record Scanned (bytes : List ℕ) (n : ℕ) : Type 0 where
  tail : List ℕ
  len : ℕ
  parts : bytes ≡ 91 ∷ 37 ∷ tail
  count : n ≡ suc (suc len)
  within : len ≤ length tail
  pending : List ℕ
  items : Items
  reads : runs (Some start) (take len tail) ≡ Some (state Done pending items [])

scanned_at : (bytes : List ℕ) (n : ℕ) (vs : Items) → n ≤ length bytes → (inner : List ℕ) → take n bytes ≡ 91 ∷ 37 ∷ (inner ++ 37 ∷ 93 ∷ [])
    → DenotesItems inner vs
    → weight (list vs) ≤ 65536 → nesting (list vs) ≤ 64 → Scanned bytes n
scanned_at bytes zero vs le inner e d w f = cc
scanned_at [] (suc n) vs le inner e d w f = cc
scanned_at (a ∷ bs) (suc zero) vs le inner e d w f = cc
scanned_at (a ∷ []) (suc (suc n)) vs le inner e d w f = cc
scanned_at (a ∷ b ∷ tail) (suc (suc n)) vs le inner e d w f =
    let c = scan_complete inner vs d w f in
    let t : take n tail ≡ inner ++ 37 ∷ 93 ∷ [] = cc in
    record {
      tail = tail;
      len = n;
      parts = cc;
      count = refl;
      within = omega arith;
      pending = c.pending;
      items = vs;
      reads = ap (runs (Some start)) t ∙ c.reads;
    }

scanned : (bytes : List ℕ) (n : ℕ) → IsListFront bytes n → Scanned bytes n
scanned bytes n f =
    let m = list_marks (take n bytes) f.items f.reads.denotes in
    scanned_at bytes n f.items f.within m.inner m.parts m.denotes f.reads.light f.reads.flat

-- a longer front is the shorter one and more
record Longer (m n : ℕ) (xs : List ℕ) : Type 0 where
  rest : List ℕ
  some : 0 < length rest
  parts : take n xs ≡ take m xs ++ rest

longer : (m n : ℕ) (xs : List ℕ) → m < n → n ≤ length xs → Longer m n xs
longer m zero xs h le = absurd (omega arith)
longer m (suc n) [] h le = absurd (omega arith)
longer zero (suc n) (x ∷ xs) h le = record { rest = x ∷ take n xs; some = omega arith; parts = refl }
longer (suc m) (suc n) (x ∷ xs) h le =
    let r = longer m n xs (omega arith) (omega arith) in record { rest = r.rest; some = r.some; parts = ap (λ ys. x ∷ ys) r.parts }

no_longer : (tail : List ℕ) (m n : ℕ) (p q : List ℕ) (vs ws : Items) → m < n → n ≤ length tail → runs (Some start) (take m tail) ≡ Some (state Done p vs [])
    → runs (Some start) (take n tail) ≡ Some (state Done q ws []) → ⊥
no_longer tail m n p q vs ws h le r s =
    let k = longer m n tail h le in
    done_ends k.rest p vs [] (state Done q ws []) k.some
    (sym (ap (λ x. runs x k.rest) r) ∙ sym (runs_append (Some start) (take m tail) k.rest) ∙ sym (ap (runs (Some start)) k.parts) ∙ s)

same_len : (tail : List ℕ) (m n : ℕ) (p q : List ℕ) (vs ws : Items) → m ≤ length tail → n ≤ length tail
    → runs (Some start) (take m tail) ≡ Some (state Done p vs [])
    → runs (Some start) (take n tail) ≡ Some (state Done q ws []) → m ≡ n
same_len tail m n p q vs ws lm ln r s = at (nat_lt m n) (nat_lt n m) refl refl
  where
    at : (a b : Bool) → nat_lt m n ≡ a → nat_lt n m ≡ b → m ≡ n
    at true b e f = absurd (no_longer tail m n p q vs ws (ltb-true m n e) ln r s)
    at false true e f = absurd (no_longer tail n m q p ws vs (ltb-true n m f) lm s r)
    at false false e f = omega (arith, ltb-false m n e, ltb-false n m f)

pub one_list_front : OneListFront
one_list_front bytes m n f g =
    let a = scanned bytes m f in
    let b = scanned bytes n g in
    let t : a.tail ≡ b.tail = cc (a.parts, b.parts) in
    let k = same_len b.tail a.len b.len a.pending b.pending a.items b.items (subst (λ x. a.len ≤ length x) t a.within) b.within
    (sym (ap (λ x. runs (Some start) (take a.len x)) t) ∙ a.reads) b.reads in
    a.count ∙ ap (λ x. suc (suc x)) k ∙ sym b.count
