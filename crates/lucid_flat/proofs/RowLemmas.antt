-- The row of a line: read from it, and no other; a line is one row's.
use Rattle.lucid_flat.proofs.Common.{◌≡◌, ℕ, false, List, ◌∷◌, ◌++◌, Option, Some, None, refl, sym, ap, ◌∙◌, subst, codes, bytes_eq, same_Some, bytes_eq-Decides, PlainValue, Entry, Plain, Lacks, OneValue, FlatRow, constant_row, name_row, entry_word, row_line, RowFits, tail_row, IsRowOf, recursion_from_All, none-some}
use Rattle.lucid_texts.specs.Words.{HasNone}
use Rattle.lucid_texts.proofs.Bytes.{one_cut, lacks_middle}
use Rattle.lucid_flat.proofs.RowsGiven.{row_head, row_tail, line_parts, head_lacks, IsNoConstant, tail_row-parts}
use Rattle.lucid_flat.proofs.TailsRead.{tail_read}
use Rattle.lucid_texts.proofs.WordLemmas.{apart}

-- a line has a blank
pub no_blank : (line : List ℕ) → HasNone 32 line → (r : FlatRow) → RowFits r → line ≡ row_line r → ⊥
no_blank line h r f e =
    let P : List ℕ → Type 0 = Lacks 32 in
    lacks_middle 32 (row_head r) (row_tail r) (subst P (e ∙ line_parts r) (recursion_from_All _ line h))

-- a constant, or another row
data Kind : FlatRow → Type 0 where
  of_value : (v : PlainValue) → Kind (constant_row v)
  of_words : {r : FlatRow} → IsNoConstant r → Kind r

kind : (r : FlatRow) → Kind r
kind (constant_row v) = of_value v
kind _ = of_words tt

no_const_entry : (e : Entry) → entry_word e ≡ codes "const" → ⊥
no_const_entry (Plain a) h = apart _ _ refl h
no_const_entry _ h = apart _ _ refl h

-- the first word of another row isn't a constant's
no_const : (r : FlatRow) → IsNoConstant r → row_head r ≡ codes "const" → ⊥
no_const (constant_row v) n h = n
no_const (name_row r) n h = no_const_entry r.kind h
no_const _ n h = apart _ _ refl h

same_heads : (r s : FlatRow) → row_line r ≡ row_line s → (row_head r ≡ row_head s) × (row_tail r ≡ row_tail s)
same_heads r s e = one_cut 32 (row_head r) (row_head s) (row_tail r) (row_tail s) (head_lacks r) (head_lacks s) (sym (line_parts r) ∙ (e ∙ line_parts s))

one_row_by : OneValue → (r s : FlatRow) → Kind r → Kind s → RowFits r → RowFits s → row_head r ≡ row_head s → row_tail r ≡ row_tail s → r ≡ s
one_row_by law _ _ (of_value v) (of_value w) f g h t = ap constant_row (law v w f g t)
one_row_by law _ s (of_value v) (of_words n) f g h t = absurd (no_const s n (sym h))
one_row_by law r _ (of_words m) (of_value w) f g h t = absurd (no_const r m h)
one_row_by law r s (of_words m) (of_words n) f g h t =
    same_Some r s ((sym (tail_row-parts r f m) ∙ (ap (λ (w : List ℕ). tail_row w (row_tail r)) h ∙ ap (tail_row (row_head s)) t)) ∙ tail_row-parts s g n)

-- A line is one row's.
pub one_row : OneValue → (r s : FlatRow) → RowFits r → RowFits s → row_line r ≡ row_line s → r ≡ s
one_row law r s f g e =
    let p = same_heads r s e in one_row_by law r s (kind r) (kind s) f g p.0 p.1

none_by : (r : FlatRow) (w t : List ℕ) → Kind r → RowFits r → bytes_eq w (codes "const") ≡ false → None ≡ tail_row w t → w ≡ row_head r → t ≡ row_tail r → ⊥
none_by _ w t (of_value v) f d e h k = let q = (bytes_eq-Decides w (codes "const")).1 h in cc
none_by r w t (of_words n) f d e h k =
    none-some r (e ∙ ((ap (λ (x : List ℕ). tail_row x t) h ∙ ap (tail_row (row_head r)) k) ∙ tail_row-parts r f n))

-- What is read from a line that is no constant's is its row, if it is one's.
pub tail_is_row : (line w t : List ℕ) (o : Option FlatRow) → line ≡ w ++ 32 ∷ t → HasNone 32 w → bytes_eq w (codes "const") ≡ false → o ≡ tail_row w t → IsRowOf line o
tail_is_row line w t (Some r) l h d e =
    let g = tail_read w t r (sym e) in (g.0, l ∙ g.1)
tail_is_row line w t None l h d e = λ r f k.
    let p = one_cut 32 w (row_head r) t (row_tail r) (recursion_from_All _ w h) (head_lacks r) (sym l ∙ (k ∙ line_parts r)) in
    none_by r w t (kind r) f d e p.0 p.1
