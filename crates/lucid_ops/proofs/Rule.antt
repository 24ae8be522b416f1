-- All operators but two keep the rule of end of data and errors.
use Rattle.lucid_ops.proofs.Common.{◌≡◌, ◌<◌, false, List, [], ◌∷◌, refl, ◌∙◌, arith, PlainValue, Op, IsEod, IsError, arity, by_rule, row_of, row_of_two, integer, is_eod, is_error}
use Rattle.lucid_value.specs.View.{plain}
use Rattle.lucid_value.specs.declared.Value.{Value}
use Rattle.lucid_value.specs.declared.Value.TheVariants.{Eod, Fault}
use Rattle.lucid_ops.specs.Algebra.{algebra, row_of_three}

pub keeps_rule : (op : Op) (vs : List PlainValue) → (op ≡ IsEod → ⊥) → (op ≡ IsError → ⊥) → algebra op vs ≡ by_rule vs (row_of integer op vs)
keeps_rule IsEod vs p q = absurd (p refl)
keeps_rule IsError vs p q = absurd (q refl)
keeps_rule _ vs p q = refl

pub many_keep_rule : (op : Op) (vs : List PlainValue) → 1 < arity op → algebra op vs ≡ by_rule vs (row_of integer op vs)
many_keep_rule IsEod vs h = absurd (omega arith)
many_keep_rule IsError vs h = absurd (omega arith)
many_keep_rule _ vs h = refl

neither : (v : Value) → (v ≡ Eod → ⊥) → (v ≡ Fault → ⊥) → (is_eod (plain v) ≡ false) × (is_error (plain v) ≡ false)
neither Eod p q = absurd (p refl)
neither Fault p q = absurd (q refl)
neither _ p q = (refl, refl)

-- where no argument is end of data or an error the row decides
pub row_decides_two : (op : Op) (v w : Value) → 1 < arity op → (v ≡ Eod → ⊥) → (v ≡ Fault → ⊥) → (w ≡ Eod → ⊥) → (w ≡ Fault → ⊥)
    → algebra op (plain v ∷ plain w ∷ []) ≡ row_of_two integer op (plain v) (plain w)
row_decides_two op v w h a b c d =
    let s = neither v a b in
    let t = neither w c d in
    many_keep_rule op (plain v ∷ plain w ∷ []) h ∙ rw (s.0, t.0, s.1, t.1) refl

pub row_decides_three : (op : Op) (u v w : Value) → 1 < arity op → (u ≡ Eod → ⊥) → (u ≡ Fault → ⊥) → (v ≡ Eod → ⊥) → (v ≡ Fault → ⊥) → (w ≡ Eod → ⊥)
    → (w ≡ Fault → ⊥) → algebra op (plain u ∷ plain v ∷ plain w ∷ []) ≡ row_of_three op (plain u) (plain v) (plain w)
row_decides_three op u v w h a b c d e f =
    let r = neither u a b in
    let s = neither v c d in
    let t = neither w e f in
    many_keep_rule op (plain u ∷ plain v ∷ plain w ∷ []) h ∙ rw (r.0, s.0, t.0, r.1, s.1, t.1) refl
