-- The kinds of value, told apart by their bytes.
use Rattle.lucid_value.proofs.Common.{◌≡◌, ◌≢◌, ℕ, zero, suc, ◌≤◌, List, [], ◌∷◌, ◌++◌, true, false, Some, None, refl, sym, ap, ◌∙◌, subst, arith, take, drop, nat_eq, list_all, and_parts, take-append-drop, PlainValue, text, list, Items, weight, weights, nesting, nestings, is_text, plain, Denotes, denotes_text, denotes_list, Reads, State, state, start, runs, opened, IsScanned, is_atom_byte, atom_value, text_value, IsRead, IsUnquoted, Value, Done, Front, eqb-false, take-length}
use Rattle.std.proofs.Common.{◌+◌, ◌<◌, length}
use Rattle.lucid_value.specs.declared.Value.TheVariants.{List as ListV}
use Rattle.lucid_value.proofs.Quotes.{front_is}
use Rattle.lucid_value.proofs.AtomValues.{is_atomic, atom_read, atom_bytes, atom_denotes}
use Rattle.lucid_value.proofs.ScanSound.{scan_sound, runs_none, text_denotes}
use Rattle.lucid_value.proofs.ScanComplete.{runs_append, scan_complete, text_reads}
use Rattle.lucid_value.proofs.Fronts.{opened_is, unopened, list_marks}

-- two lists of bytes that begin with different bytes
pub no_such : (a b : ℕ) (xs ys : List ℕ) → nat_eq a b ≡ false → a ∷ xs ≡ b ∷ ys → ⊥
no_such a b xs ys h e = let k : a ≡ b = cc in eqb-false a b h k

-- what is written without quotes and marks, a string and a list
pub data Kind (bytes : List ℕ) : PlainValue → Type 0 where
  atomic : (v : PlainValue) → is_atomic v ≡ true → Kind bytes v
  quoted : (inner : List ℕ) → bytes ≡ 96 ∷ (inner ++ 39 ∷ []) → is_text inner ≡ true → Kind bytes (text inner)
  listed : (inner : List ℕ) (vs : Items) → bytes ≡ 91 ∷ 37 ∷ (inner ++ 37 ∷ 93 ∷ []) → Kind bytes (list vs)

pub kind : (bytes : List ℕ) (v : PlainValue) → Denotes bytes v → Kind bytes v
kind bytes v (denotes_text bs h) = quoted bs refl h
kind bytes v (denotes_list bs vs d) = listed bs vs refl
kind bytes v _ = atomic _ refl

-- the first byte of what is written without quotes and marks
pub no_atom_first : (c : ℕ) (bytes rest : List ℕ) (v : PlainValue) → is_atom_byte c ≡ false → Denotes bytes v → is_atomic v ≡ true → bytes ≡ c ∷ rest → ⊥
no_atom_first c bytes rest v n d a e =
    let k : list_all is_atom_byte (c ∷ rest) ≡ true = ap (list_all is_atom_byte) (sym e) ∙ atom_bytes bytes v d a in
    let m = (and_parts (is_atom_byte c) (list_all is_atom_byte rest) k).0 in cc

-- a string
pub text_read : (bytes inner : List ℕ) (v : Value) → bytes ≡ 96 ∷ (inner ++ 39 ∷ []) → text_value inner ≡ Some (plain v) → weight (plain v) ≤ 65536
    → nesting (plain v) ≤ 64 → IsRead (Some v) bytes
text_read bytes inner v e h w n =
    record { denotes = subst (λ x. Denotes x (plain v)) (sym e) (text_denotes inner (plain v) h); light = w; flat = n }

text_unread_at : (bytes inner : List ℕ) (v : PlainValue) → bytes ≡ 96 ∷ (inner ++ 39 ∷ []) → text_value inner ≡ None → Denotes bytes v → weight v ≤ 65536
    → Kind bytes v → ⊥
text_unread_at bytes inner v e h d w (atomic v' a) = no_atom_first 96 bytes (inner ++ 39 ∷ []) v refl d a e
text_unread_at bytes inner v e h d w (quoted other f t) =
    let s : other ++ 39 ∷ [] ≡ inner ++ 39 ∷ [] = cc in
    let q : other ≡ inner = front_is other inner 39 39 s in
    cc (text_reads other t (omega arith), ap text_value q)
text_unread_at bytes inner v e h d w (listed other vs f) = no_such 96 91 _ _ refl (sym e ∙ f)

pub text_unread : (bytes inner : List ℕ) → bytes ≡ 96 ∷ (inner ++ 39 ∷ []) → text_value inner ≡ None → IsRead None bytes
text_unread bytes inner e h = λ v r. text_unread_at bytes inner v e h r.denotes r.light (kind bytes v r.denotes)

-- a constant, a word or an integer
pub atom_is_read : (bytes : List ℕ) (v : Value) → atom_value bytes ≡ Some (plain v) → weight (plain v) ≤ 65536 → nesting (plain v) ≤ 64 → IsRead (Some v) bytes
atom_is_read bytes v h w n = record { denotes = atom_denotes bytes (plain v) h; light = w; flat = n }

atom_unread_at : (bytes : List ℕ) (v : PlainValue) → IsUnquoted bytes → opened bytes ≡ None → atom_value bytes ≡ None → Denotes bytes v → weight v ≤ 65536
    → Kind bytes v → ⊥
atom_unread_at bytes v u o h d w (atomic v' a) = cc (atom_read bytes v d a w)
atom_unread_at bytes v u o h d w (quoted inner e t) = u inner e
atom_unread_at bytes v u o h d w (listed inner vs e) = unopened bytes (inner ++ 37 ∷ 93 ∷ []) o e

pub atom_unread : (bytes : List ℕ) → IsUnquoted bytes → opened bytes ≡ None → atom_value bytes ≡ None → IsRead None bytes
atom_unread bytes u o h = λ v r. atom_unread_at bytes v u o h r.denotes r.light (kind bytes v r.denotes)

-- a list
pub list_read : (bytes tail : List ℕ) (front : Front) → opened bytes ≡ Some tail → IsScanned (Some front) tail → front.len ≡ length tail
    → weights front.list + 1 ≤ 65536 → nestings front.list + 1 ≤ 64 → IsRead (Some (ListV front.list)) bytes
list_read bytes tail front o s e w n =
    let p = scan_sound (take front.len tail) s.1.0 front.list s.1.1 s.1.2 in
    let t : tail ≡ p.inner ++ 37 ∷ 93 ∷ [] = sym (take-length tail) ∙ ap (λ x. take x tail) (sym e) ∙ p.ends in
    record {
      denotes = subst (λ x. Denotes x (list front.list)) (sym (opened_is bytes tail o ∙ ap (λ x. 91 ∷ 37 ∷ x) t)) (denotes_list p.inner front.list p.denotes);
      light = w;
      flat = n;
    }

-- a list that bytes read as takes them all
list_takes_all_at : (bytes tail : List ℕ) (v : PlainValue) → opened bytes ≡ Some tail → Denotes bytes v → weight v ≤ 65536 → nesting v ≤ 64 → Kind bytes v
    → (p : List ℕ) × (vs : Items) × (runs (Some start) tail ≡ Some (state Done p vs []))
list_takes_all_at bytes tail v o d w n (atomic v' a) = absurd (no_atom_first 91 bytes (37 ∷ tail) v refl d a (opened_is bytes tail o))
list_takes_all_at bytes tail v o d w n (quoted inner e t) = absurd (no_such 91 96 _ _ refl (sym (opened_is bytes tail o) ∙ e))
list_takes_all_at bytes tail v o d w n (listed inner vs e) =
    let m = list_marks bytes vs d in
    let c = scan_complete m.inner vs m.denotes w n in
    let t : tail ≡ m.inner ++ 37 ∷ 93 ∷ [] = cc (opened_is bytes tail o, m.parts) in
    (c.pending, vs, ap (runs (Some start)) t ∙ c.reads)

list_takes_all : (bytes tail : List ℕ) (v : PlainValue) → opened bytes ≡ Some tail → Reads bytes v
    → (p : List ℕ) × (vs : Items) × (runs (Some start) tail ≡ Some (state Done p vs []))
list_takes_all bytes tail v o r = list_takes_all_at bytes tail v o r.denotes r.light r.flat (kind bytes v r.denotes)

pub list_unread : (bytes tail : List ℕ) → opened bytes ≡ Some tail → IsScanned None tail → IsRead None bytes
list_unread bytes tail o s = λ v r.
    let k = list_takes_all bytes tail v o r in
    s (length tail) k.0 k.1 [] (omega arith) (ap (runs (Some start)) (take-length tail) ∙ k.2)

-- behind a whole list no byte is read
pub done_ends : (bs p : List ℕ) (vs : Items) (outer : List Items) (t : State) → 0 < length bs → runs (Some (state Done p vs outer)) bs ≡ Some t → ⊥
done_ends [] p vs outer t h e = omega arith
done_ends (b ∷ bs) p vs outer t h e = cc (runs_none bs)

length_drop : (n : ℕ) (xs : List ℕ) → n < length xs → 0 < length (drop n xs)
length_drop zero xs h = h
length_drop (suc n) [] h = absurd (omega arith)
length_drop (suc n) (x ∷ xs) h = length_drop n xs (omega arith)

pub list_longer : (bytes tail : List ℕ) (front : Front) → opened bytes ≡ Some tail → IsScanned (Some front) tail → front.len ≢ length tail → IsRead None bytes
list_longer bytes tail front o s n = λ v r.
    let k = list_takes_all bytes tail v o r in
    let e = sym (runs_append (Some start) (take front.len tail) (drop front.len tail)) ∙ ap (runs (Some start)) (take-append-drop front.len tail) ∙ k.2 in
    done_ends (drop front.len tail) s.1.0 front.list s.1.1 (state Done k.0 k.1 []) (length_drop front.len tail (omega arith))
    (sym (ap (λ x. runs x (drop front.len tail)) s.1.2) ∙ e)
